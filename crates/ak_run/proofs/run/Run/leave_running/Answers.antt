-- Main's turn, in which it enters that the team is gone, or sees that it does not run.
use Rattle.std.proofs.Common.{refl, ap, map, ◌++◌, sym, ◌∙◌, Some, length}
use Rattle.ak_base.specs.declared.thread.ThreadId.{ThreadId}
use Rattle.ak_team.specs.Launching.{Book}
use Rattle.ak_gather.specs.Members.{member_front}
use Rattle.ak_run.proofs.TeamEnds.{leaves_entered, leaves_started}
use Rattle.ak_run.proofs.GoingOn.{goes_by}
use Rattle.ak_run.proofs.Launches.{is_next, leaves, loopers_counted}
use Rattle.ak_run.proofs.Recorded.{turn_acts}
use Rattle.ak_run.proofs.RosterTurn.{RosterOn, goes_on}
use Rattle.ak_run.proofs.Standing.{same_book, same_loopers}
use Rattle.ak_run.proofs.run.Run.leave_running.Goals.{After-finish}
use Rattle.ak_run.proofs.run.Run.leave_running.Goals as goal

pub finish-requires-clause-list : goal.finish-requires-clause-list
finish-requires-clause-list g c =
    let r = c.args.self.now in
    let l = c.leave_at_turn-left in
    let entered = leaves_entered c.args.team l.result c.book.result.now l.new.book l.ensures.left in
    let list = ap (λ (b : Book). b.entries) c.book.ensures.value ∙ c.lock-turn.ensures.list in
    is_next entered.0 0 c.lock-turn.new.seat c.book.result.now l.new.book entered.1 list (ap (λ s. s.thread) c.lock-turn.ensures.seen.after ∙ r.roster_thread ∙ r.main)

-- what was known of main's seat is so behind the turn
on : (g : _) (c : After-finish g) → RosterOn c.book.result.now.heads 0 c.args.self.now.roster_seat c.finish.new.seat
on g c =
    let r = c.args.self.now in
    let l = c.leave_at_turn-left in
    let entered = leaves_entered c.args.team l.result c.book.result.now l.new.book l.ensures.left in
    let list = ap (λ (b : Book). b.entries) c.book.ensures.value ∙ c.lock-turn.ensures.list in
    goes_on r.roster_seat c.lock-turn.new.seat c.finish.new.seat c.book.result.now l.new.book 0 r.roster_idle (r.roster_thread ∙ r.main) c.lock-turn.ensures.seen c.lock-turn.ensures.known list entered.0 entered.1 c.finish.ensures.same c.finish.ensures.entered c.finish.ensures.known

pub invariant_of-self-3-clause-roster_of : goal.invariant_of-self-3-clause-roster_of
invariant_of-self-3-clause-roster_of g c = (on g c).keeps.lock ∙ c.args.self.now.roster_of

pub invariant_of-self-3-clause-roster_idle : goal.invariant_of-self-3-clause-roster_idle
invariant_of-self-3-clause-roster_idle g c = (on g c).keeps.turn ∙ c.args.self.now.roster_idle

pub invariant_of-self-3-clause-roster_thread : goal.invariant_of-self-3-clause-roster_thread
invariant_of-self-3-clause-roster_thread g c = (on g c).keeps.thread ∙ c.args.self.now.roster_thread ∙ ap (λ (t : ThreadId). t.0) (sym c.leave_at_turn-left.ensures.clock)

pub returns : goal.returns
returns g c =
    let r = c.args.self.now in
    let book = c.book.result.now in
    let value = c.book.ensures.value in
    let l = c.leave_at_turn-left in
    let entered = leaves_entered c.args.team l.result book l.new.book l.ensures.left in
    let opening = c.lock-turn.ensures.opening ∙ ap (λ (b : Book). Some b.heads) (sym value) in
    let list = ap (λ (b : Book). b.entries) value ∙ c.lock-turn.ensures.list in
    record {
      goes = goes_by r _ book.heads (record { apps = refl; shared = refl; joined = refl; ports = refl; desks = refl; slots = refl }) opening
          (goes_on r.roster_seat c.lock-turn.new.seat c.finish.new.seat book l.new.book 0 r.roster_idle (r.roster_thread ∙ r.main) c.lock-turn.ensures.seen c.lock-turn.ensures.known list entered.0 entered.1 c.finish.ensures.same c.finish.ensures.entered c.finish.ensures.known)
          (same_book r _ refl) (λ next heads k. same_loopers next heads r _ refl k) refl
          (λ new. turn_acts r.roster_seat c.lock-turn.new.seat c.finish.new.seat book l.new.book 0 r.roster_idle (r.roster_thread ∙ r.main) c.lock-turn.ensures.seen c.lock-turn.ensures.known list entered.0 entered.1 c.finish.ensures.same c.finish.ensures.entered c.finish.ensures.known
          r.hands.clock.time l.new.clock.time l.ensures.in_time r.hands.book_seat.front (map member_front r.members.items ++ new)) refl;
      closed = leaves r _ c.requires.running (record { apps = refl; shared = refl; joined = refl; ports = refl; desks = refl; slots = refl }) refl (same_book r _ refl) refl c.lock-turn.new.seat book l.new.book opening c.lock-turn.ensures.seen c.lock-turn.ensures.known list
          c.finish.ensures.same c.finish.ensures.entered c.finish.ensures.known l.ensures.by_main l.ensures.in_time c.args.team l.result l.ensures.left;
      started = leaves_started c.args.team l.result book l.new.book (length r.members.items)
          (loopers_counted r c.requires.running c.lock-turn.new.seat c.finish.new.seat book l.new.book opening c.lock-turn.ensures.seen c.lock-turn.ensures.known list c.finish.ensures.same c.finish.ensures.entered c.finish.ensures.known l.ensures.by_main entered.0 0 entered.1) l.ensures.left;
    }
