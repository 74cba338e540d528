-- Main has seen all that it has seen, and what came of it stands in its place.
use Rattle.std.proofs.Common.{◌≡◌, ◌-◌, ◌+◌, ◌∙◌, ℕ, List, Some, [], All, refl, ap, subst, arith}
use Rattle.std.specs.Prelude.{set, slice_get}
use Rattle.std.proofs.lemmas.Option.{slice_get_read}
use Rattle.ak_looper.specs.declared.door.Door.{Door}
use Rattle.ak_run.specs.declared.slots.Slots.{Slots}
use Rattle.ak_run.specs.Seen.{HasSeenThrough}
use Rattle.ak_run.specs.Sessions.{told_in}
use Rattle.ak_run.proofs.Doing.{does_then}
use Rattle.ak_run.proofs.Looks.{looked_then, may_still}
use Rattle.ak_run.proofs.OpenedSlots.{closed_running, closes, does_nothing, place_there}
use Rattle.ak_run.proofs.Seen.{seen_all}
use Rattle.ak_run.proofs.run.Run.close_session.Goals as goal

pub index_mut-requires : goal.index_mut-requires
index_mut-requires g c =
    let r = c.args.self.now in
    let b = c.see_book.new.self in
    let w = c.see_ways.new.self in
    let may = may_still r w c.args.session (looked_then r b w (looked_then r c.see_roster.new.self b c.see_roster.ensures.looked c.see_book.ensures.looked) c.see_ways.ensures.looked) c.requires.came in
    omega (arith, may.number, place_there w c.args.session may, w.slots.sessions.ok.0)

pub returns : goal.returns
returns g c =
    let r = c.args.self.now in
    let a = c.see_roster.new.self in
    let b = c.see_book.new.self in
    let w = c.see_ways.new.self in
    let s = c.args.session in
    let all = looked_then r b w (looked_then r a b c.see_roster.ensures.looked c.see_book.ensures.looked) c.see_ways.ensures.looked in
    let may = may_still r w s all c.requires.came in
    let items = w.slots.sessions.items in
    let place = s.hands.clock.thread.0 - 1 in
    let number : s.hands.clock.thread.0 ≡ place + 1 = omega (arith, may.number) in
    let slot = c.index_mut.result.now in
    let there : slice_get items place ≡ Some slot = slice_get_read items _ place slot refl (omega (arith, may.number, place_there w s may)) c.index_mut.ensures.value in
    let behind = does_nothing w _ refl refl refl refl in
    let ways = c.see_ways.ensures.looked in
    record {
      closed = λ m. closes w s place slot _ there number refl refl (may_still r w s all m) ∙ ap (λ (slots : Slots). set (told_in slots) m.place (m.opened, Some s)) all.rest.slots;
      seen = seen_all r a b w _ s all.did (looked_then a b w c.see_book.ensures.looked ways).did ways.did behind c.see_ways.ensures.running (omega (arith, c.see_roster.ensures.seen, c.seen-at_roster.ensures)) (omega (arith, c.see_book.ensures.seen, c.seen-at_book.ensures))
          (subst (λ (doors : List (ℕ × Door)). All (λ (door : ℕ × Door). HasSeenThrough door w) doors) c.as_slice-doors.ensures.value c.see_ways.ensures.seen);
      did = does_then [] [] r w _ all.did behind;
      running = closed_running w _ s (record { apps = refl; hands = refl; shared = refl; roster_seat = refl; members = refl; joined = refl; ports = refl; desks = refl }) refl c.see_ways.ensures.running may (closes w s place slot _ there number refl refl may);
      count = all.loopers;
      apps = all.rest.apps;
    }
