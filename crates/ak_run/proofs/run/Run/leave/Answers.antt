-- Main's turn, in which it enters that the team is gone, or sees that it does not run.
use Rattle.std.proofs.Common.{refl, ap, sym, map, ◌++◌, ◌∙◌, Some}
use Rattle.ak_team.specs.Launching.{Book}
use Rattle.ak_gather.specs.Members.{member_front}
use Rattle.ak_team.proofs.Surface.{gone_entered, gone_event, gone_in_time}
use Rattle.ak_run.proofs.GoingOn.{goes_by}
use Rattle.ak_run.proofs.Recorded.{turn_acts}
use Rattle.ak_run.proofs.RosterTurn.{goes_on}
use Rattle.ak_run.proofs.Standing.{same_book, same_loopers}
use Rattle.ak_run.proofs.Stopping.{leaves_so}
use Rattle.ak_run.proofs.run.Run.leave.Goals as goal

pub returns : goal.returns
returns g c =
    let r = c.args.self.now in
    let book = c.book.result.now in
    let later = c.gone.new.self in
    let value = c.book.ensures.value in
    let lock = c.lock-turn in
    let team = c.args.team in
    let opening = lock.ensures.opening ∙ ap (λ (b : Book). Some b.heads) (sym value) in
    let list = ap (λ (b : Book). b.entries) value ∙ lock.ensures.list in
    let entered = gone_entered book later r.hands.clock c.gone.new.clock team c.gone.result r.main c.gone.ensures.entry c.gone.ensures.stays in
    let what = gone_event team c.gone.result in
    let in_time = gone_in_time book later r.hands.clock c.gone.new.clock team c.gone.result c.gone.ensures.entry c.gone.ensures.stays in
    let finish = c.finish.ensures in
    record {
      goes = goes_by r _ book.heads (record { apps = refl; shared = refl; joined = refl; ports = refl; desks = refl; slots = refl }) opening
          (goes_on r.roster_seat lock.new.seat c.finish.new.seat book later 0 r.roster_idle (r.roster_thread ∙ r.main) lock.ensures.seen lock.ensures.known list what entered finish.same finish.entered finish.known)
          (same_book r _ refl) (λ next heads k. same_loopers next heads r _ refl k) refl
          (λ new. turn_acts r.roster_seat lock.new.seat c.finish.new.seat book later 0 r.roster_idle (r.roster_thread ∙ r.main) lock.ensures.seen lock.ensures.known list what entered finish.same finish.entered finish.known
          r.hands.clock.time c.gone.new.clock.time in_time r.hands.book_seat.front (map member_front r.members.items ++ new)) refl;
      left = leaves_so r _ c.requires.stands refl refl lock.new.seat book later opening lock.ensures.seen lock.ensures.known list finish.same finish.entered finish.known in_time team c.gone.result c.gone.ensures.answer entered;
    }
