-- What a world tells of the entries before it: what a port has, it accepted; a slot that is filled, was filled.
use Rattle.std.proofs.Common.{◌≡◌, ◌⊎◌, ◌∙◌, ℕ, ◌+◌, ◌-◌, ◌<◌, ◌≤◌, true, false, List, length, take, get_or, Any, Some, None, sym, ap, inl, inr, ⊎_elim, arith}
use Rattle.std.specs.Prelude.{slice_get}
use Rattle.std.proofs.lemmas.Bool.{cases_Bool}
use Rattle.std.proofs.lemmas.List.{length-drop, length-take-le}
use Rattle.std.proofs.lemmas.Option.{slice_get_cases}
use Rattle.ak_flatten.specs.Item.{ItemData}
use Rattle.ak_roster.specs.declared.head.AppHead.{AppHead}
use Rattle.ak_port.specs.declared.port_entry.PortEvent.{PortEvent}
use Rattle.ak_port.specs.declared.port_entry.PortEvent.TheVariants as port_event
use Rattle.ak_port.specs.declared.reply_entry.ReplyEvent.{ReplyEvent}
use Rattle.ak_port.specs.declared.reply_entry.ReplyEvent.TheVariants as slot
use Rattle.ak_port.specs.PortMachine.{IsAllowed, PortState, state_after}
use Rattle.ak_port.specs.Reply.{SlotData, cancelled_stage, changed, filled_stage, open_stage, slot_of, taken_stage}
use Rattle.ak_action.specs.declared.state.DeskState.{DeskState}
use Rattle.ak_desk.specs.declared.entry.DeskEvent.TheVariants as desk_event
use Rattle.ak_journal.specs.declared.entry.Entry.{Entry}
use Rattle.ak_journal.specs.declared.entry.Event.TheVariants as event
use Rattle.ak_journal.specs.declared.entry.ObjectName.TheVariants as object
use Rattle.ak_world.specs.Merged.{thread_of}
use Rattle.ak_world.specs.World.{World, WorldRun, WorldStep, first_world}
use Rattle.ak_sequence.specs.Places.{HasStage, IsSound}
use Rattle.ak_sequence.specs.Worlds.{DispatchesAt, FillsSlot, IsDispatchedAfterWritten, IsTakenAfterFilled, OfWorlds, WritesAt}
use Rattle.ak_port.proofs.Surface.{get_push, get_staged}
use Rattle.ak_sequence.proofs.Lots.{Holds, Lot, holds_of, lot, undispatched}
use Rattle.ak_sequence.proofs.Stages.{filled_not_cancelled, filled_not_taken, open_not_filled, stage_on}
use Rattle.ak_sequence.proofs.Holds.{first_of_hand, hand_unrested}
use Rattle.ak_sequence.proofs.Moves.{hand_order}
use Rattle.ak_sequence.proofs.Sound.{first_is_sound}
use Rattle.ak_sequence.proofs.Parted.{begun, told}
use Rattle.ak_sequence.proofs.StepsAt.{AtBook, AtPort, at_book, at_port, book_moves, book_stays, desk_by, moves_as, port_moves, port_stays, works_as}

-- ---- what a port has, it accepted
abbrev pub IsThere : ℕ → ℕ → ItemData → World → Type 0
IsThere looper position item w = slice_get (w.objects.ports looper).written position ≡ Some item

module _ (w : World) (entry : Entry) (w' : World) (looper position : ℕ) (item : ItemData) where
  there_after
      : (e : PortEvent) (taker by : ℕ) → entry.object ≡ object.Port looper → entry.event ≡ event.Port e → IsAllowed taker by (w.objects.ports looper) e
      → slice_get (state_after (w.objects.ports looper) e).written position ≡ Some item → IsThere looper position item w ⊎ WritesAt looper position item entry
  there_after (port_event.Made capacity life) taker by at is allowed there = inl there
  there_after (port_event.Written number other) taker by at is allowed there =
      ⊎_elim
      (λ (t : IsThere looper position item w). inl t)
      (λ (t : (position ≡ length (w.objects.ports looper).written) × (other ≡ item)).
      let place : number ≡ position = allowed.3 ∙ sym t.0 in
      inr (record { at = at; is = is ∙ (λ i. event.Port (port_event.Written (place i) (t.1 i))) }))
      (get_push (w.objects.ports looper).written other item position there)
  there_after port_event.Full taker by at is allowed there = inl there
  there_after port_event.Refused taker by at is allowed there = inl there
  there_after port_event.Spent taker by at is allowed there = inl there
  there_after (port_event.Took count) taker by at is allowed there = inl there
  there_after (port_event.Rest count) taker by at is allowed there = inl there
  there_after port_event.Shut taker by at is allowed there = inl there

  there_by : AtPort w entry w' looper → IsThere looper position item w' → IsThere looper position item w ⊎ WritesAt looper position item entry
  there_by (port_stays same) there = inl (ap (λ (s : PortState). slice_get s.written position) (sym same) ∙ there)
  there_by (port_moves e at is allowed after) there =
      there_after e _ _ at is allowed (ap (λ (s : PortState). slice_get s.written position) (sym after) ∙ there)

-- ---- the next dispatch
-- it is at the number of those before, of an item that was taken; and there is one more then
pub record IsNext (w : World) (w' : World) (looper position : ℕ) : Type 0 where
  pub position_is : position ≡ (w.objects.desks looper).dispatched
  pub was_taken : position < (w.objects.ports looper).taken
  pub unrested : (w.objects.ports looper).rested ≡ false
  pub after : (w'.objects.desks looper).dispatched ≡ (w.objects.desks looper).dispatched + 1

module _ (heads : List AppHead) (short : List ℕ) where
  pub dispatch_next
      : (w : World) (entry : Entry) (w' : World) → WorldStep heads short w entry w' → IsSound w → (looper position : ℕ) → DispatchesAt looper position entry → IsNext w w' looper position
  dispatch_next w entry w' step sound looper position dispatches =
      let e = desk_event.Dispatched position dispatches.route dispatches.words dispatches.quit in
      let works = works_as heads short w entry w' step (object.Desk looper) (event.Desk e) dispatches.at dispatches.is in
      let l : Lot = lot w looper in
      let h : Holds l = holds_of w looper (sound.holds looper) in
      let next = first_of_hand works.first works.others l.dispatched (undispatched l) (hand_order l h 0 works.first works.others works.oldest) in
      let number = next.0 in
      let some = next.1 in
      let is = works.position_is in
      let front : length (take l.port.taken l.port.written) ≡ l.port.taken = length-take-le l.port.taken l.port.written h.taken in
      let within : 1 ≤ l.port.taken - l.dispatched = omega (arith, some, front, length-drop l.dispatched (take l.port.taken l.port.written)) in
      record {
        position_is = is ∙ number;
        was_taken = omega (arith, within, is, number);
        unrested =
            ⊎_elim
            (λ (t : l.port.rested ≡ true). absurd (hand_unrested l h works.first works.others works.oldest t))
            (λ (t : l.port.rested ≡ false). t)
            (cases_Bool l.port.rested);
        after = desk_by heads short w entry w' step looper e dispatches.at dispatches.is;
      }

  -- ---- nothing is dispatched before it was written
  pub accepted
      : (openings : ℕ → DeskState) (before : List Entry) (w : World) → WorldRun heads short (first_world openings) before w → (looper position : ℕ) (item : ItemData)
      → IsThere looper position item w → Any (WritesAt looper position item) before
  accepted openings before w run looper position item there =
      ⊎_elim
      (λ (t : IsThere looper position item (first_world openings)). absurd (cc))
      (λ (t : Any (WritesAt looper position item) before). t)
      (told heads short (IsThere looper position item) (WritesAt looper position item)
      (λ v entry v' step sound now. there_by v entry v' looper position item (at_port heads short v entry v' step looper) now)
      (first_world openings) before w (first_is_sound openings) run there)

pub dispatched_after_written : OfWorlds IsDispatchedAfterWritten
dispatched_after_written heads short openings entries last run before entry behind is looper position dispatches =
    let b = begun heads short openings entries last run before entry behind is in
    let w : World = b.parted.here in
    let next = dispatch_next heads short w entry b.parted.next b.parted.step b.sound looper position dispatches in
    let few = (b.sound.holds looper).taken in
    let low = next.was_taken in
    let all : List ItemData = (w.objects.ports looper).written in
    ⊎_elim
    (λ (t : (item : ItemData) × (position < length all) × (slice_get all position ≡ Some item) × (get_or all position item ≡ item)).
    (t.0, accepted heads short openings before w b.parted.there looper position t.0 t.2))
    (λ (t : (length all ≤ position) × (slice_get all position ≡ None)). let past = t.0 in absurd (omega arith))
    (slice_get_cases all position).1

-- ---- a slot that is filled, was filled
abbrev IsFilled : ℕ → World → Type 0
IsFilled n w = (text : List ℕ) × HasStage w n (filled_stage text)

module _ (w : World) (entry : Entry) (w' : World) (n : ℕ) where
  filled_after
      : (e : ReplyEvent) (by : ℕ) → entry.object ≡ object.Book → entry.event ≡ event.Book e → (text : List ℕ) (opener : ℕ)
      → slice_get (changed w.objects.slots by e) n ≡ Some (slot_of opener (filled_stage text)) → IsFilled n w ⊎ FillsSlot n entry
  filled_after (slot.Opened m) by at is text opener now =
      ⊎_elim
      (λ (t : slice_get w.objects.slots n ≡ Some (slot_of opener (filled_stage text))). inl (text, (opener, t)))
      (λ (t : (n ≡ length w.objects.slots) × (slot_of by open_stage ≡ slot_of opener (filled_stage text))).
      absurd (open_not_filled text (ap (λ (s : SlotData). s.stage) t.1)))
      (get_push w.objects.slots (slot_of by open_stage) (slot_of opener (filled_stage text)) n now)
  filled_after (slot.Filled m flat) by at is text opener now =
      ⊎_elim
      (λ (t : slice_get w.objects.slots n ≡ Some (slot_of opener (filled_stage text))). inl (text, (opener, t)))
      (λ (t : (m ≡ n) × (filled_stage text ≡ filled_stage flat)). inr (record { at = at; text = flat; is = is ∙ ap (λ (k : ℕ). event.Book (slot.Filled k flat)) t.0 }))
      (get_staged w.objects.slots m n (filled_stage flat) (slot_of opener (filled_stage text)) now)
  filled_after (slot.Cancelled m) by at is text opener now =
      ⊎_elim
      (λ (t : slice_get w.objects.slots n ≡ Some (slot_of opener (filled_stage text))). inl (text, (opener, t)))
      (λ (t : (m ≡ n) × (filled_stage text ≡ cancelled_stage)). absurd (filled_not_cancelled text t.1))
      (get_staged w.objects.slots m n cancelled_stage (slot_of opener (filled_stage text)) now)
  filled_after (slot.Taken m) by at is text opener now =
      ⊎_elim
      (λ (t : slice_get w.objects.slots n ≡ Some (slot_of opener (filled_stage text))). inl (text, (opener, t)))
      (λ (t : (m ≡ n) × (filled_stage text ≡ taken_stage)). absurd (filled_not_taken text t.1))
      (get_staged w.objects.slots m n taken_stage (slot_of opener (filled_stage text)) now)

  filled_by : AtBook w entry w' → IsFilled n w' → IsFilled n w ⊎ FillsSlot n entry
  filled_by (book_stays same) now = inl (now.0, stage_on w' w (sym same) n (filled_stage now.0) now.1)
  filled_by (book_moves e at is book after) now =
      filled_after e (thread_of entry) at is now.0 now.1.0 (ap (λ (slots : List SlotData). slice_get slots n) (sym after) ∙ now.1.1)

pub taken_after_filled : OfWorlds IsTakenAfterFilled
taken_after_filled heads short openings entries last run before entry behind is n takes =
    let b = begun heads short openings entries last run before entry behind is in
    let w : World = b.parted.here in
    let move = moves_as heads short w entry b.parted.next b.parted.step object.Book (event.Book (slot.Taken n)) takes.at takes.is in
    let filled : HasStage w n (filled_stage move.step.0) = (thread_of entry, move.step.1) in
    ⊎_elim
    (λ (t : IsFilled n (first_world openings)). let there = t.1.1 in absurd (cc))
    (λ (t : Any (FillsSlot n) before). t)
    (told heads short (IsFilled n) (FillsSlot n)
    (λ v e v' step sound now. filled_by v e v' n (at_book heads short v e v' step) now)
    (first_world openings) before w (first_is_sound openings) b.parted.there (move.step.0, filled))
