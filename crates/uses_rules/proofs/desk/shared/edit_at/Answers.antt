-- A call keeps the seat's lock and thread, and ends its turn.
use Rattle.std.proofs.Common.{◌≡◌, ℕ, Bool, false, Option, None, Some, ap, sym, ◌∙◌}
use Rattle.ak_turn.specs.declared.clock.Clock.{Clock}
use Rattle.ak_turn.specs.Seats.{LockId}
use Rattle.ak_desk.specs.declared.entry.DeskEvent.{DeskEvent}
use Rattle.ak_desk.specs.Desk.{edit_entry}
use Rattle.ak_desk.specs.Shared.{DeskSeat, HasAnswered}
use Rattle.uses_rules.proofs.desk.shared.edit_at.Goals as goal

module _ (clock clock' : Clock) (seat seat' : DeskSeat) where
  lock_stays : (e : Option DeskEvent) → HasAnswered e clock clock' seat seat' → seat'.lock ≡ seat.lock
  lock_stays (Some e) h = ap (λ (s : DeskSeat). s.lock) h.called.after
  lock_stays None h = ap (λ (s : DeskSeat). s.lock) h.seen.after

  turn_stays : (e : Option DeskEvent) → HasAnswered e clock clock' seat seat' → seat'.turn ≡ seat.turn
  turn_stays (Some e) h = ap (λ (s : DeskSeat). s.turn) h.called.after
  turn_stays None h = ap (λ (s : DeskSeat). s.turn) h.seen.after

  threads_stay : (e : Option DeskEvent) → HasAnswered e clock clock' seat seat' → seat.thread ≡ clock.thread.0 → seat'.thread ≡ clock'.thread.0
  threads_stay (Some e) h same = ap (λ (s : DeskSeat). s.thread) h.called.after ∙ same ∙ sym (ap (λ (c : Clock). c.thread.0) h.clocked)
  threads_stay None h same = ap (λ (s : DeskSeat). s.thread) h.seen.after ∙ same ∙ sym (ap (λ (c : Clock). c.thread.0) h.clocked)

pub returns-clause-of : goal.returns-clause-of
returns-clause-of g c =
    lock_stays c.args.clock.now c.edit_shared.new.clock c.args.seat.now c.edit_shared.new.seat (edit_entry c.args.e c.edit_shared.result) c.edit_shared.ensures.answered ∙ c.requires.of

pub returns-clause-idle : goal.returns-clause-idle
returns-clause-idle g c =
    turn_stays c.args.clock.now c.edit_shared.new.clock c.args.seat.now c.edit_shared.new.seat (edit_entry c.args.e c.edit_shared.result) c.edit_shared.ensures.answered ∙ c.requires.idle

pub returns-clause-thread : goal.returns-clause-thread
returns-clause-thread g c =
    threads_stay c.args.clock.now c.edit_shared.new.clock c.args.seat.now c.edit_shared.new.seat (edit_entry c.args.e c.edit_shared.result) c.edit_shared.ensures.answered c.requires.thread
