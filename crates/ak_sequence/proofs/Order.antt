-- What a port accepts and what a desk dispatches stand in the order of their positions; and a port that is shut accepts nothing.
use Rattle.std.proofs.Common.{◌≡◌, ◌⊎◌, ◌∙◌, ℕ, ◌+◌, ◌<◌, ◌≤◌, true, false, List, [], ◌∷◌, ◌++◌, length, All, Any, ap, subst, inl, inr, ⊎_elim, arith, append_assoc, length-append}
use Rattle.std.proofs.lemmas.Bool.{both_ways, cases_lt}
use Rattle.ak_flatten.specs.Item.{ItemData}
use Rattle.ak_roster.specs.declared.head.AppHead.{AppHead}
use Rattle.ak_port.specs.declared.port_entry.PortEvent.{PortEvent}
use Rattle.ak_port.specs.declared.port_entry.PortEvent.TheVariants as port_event
use Rattle.ak_port.specs.PortMachine.{PortState, state_after}
use Rattle.ak_action.specs.declared.state.DeskState.{DeskState}
use Rattle.ak_journal.specs.declared.entry.Entry.{Entry}
use Rattle.ak_journal.specs.declared.entry.Event.TheVariants as event
use Rattle.ak_journal.specs.declared.entry.ObjectName.TheVariants as object
use Rattle.ak_world.specs.World.{World, WorldRun, WorldStep, first_world}
use Rattle.ak_sequence.specs.Places.{IsSound}
use Rattle.ak_sequence.specs.Worlds.{DispatchesAt, IsDispatchedInOrder, IsNoneWrittenWhenShut, IsWrittenInOrder, OfWorlds, WritesAt}
use Rattle.ak_sequence.proofs.Sound.{first_is_sound, shut_stays}
use Rattle.ak_sequence.proofs.Before.{dispatch_next}
use Rattle.ak_sequence.proofs.Parted.{begun, each_by, kept, part, told}
use Rattle.ak_sequence.proofs.StepsAt.{AtDesk, AtPort, at_desk, at_port, desk_moves, desk_stays, moves_as, port_as, port_moves, port_stays}

-- ---- what a port accepted only grows
module _ (w : World) (entry : Entry) (w' : World) (looper : ℕ) where
  longer_after : (s : PortState) (e : PortEvent) → length s.written ≤ length (state_after s e).written
  longer_after s (port_event.Made capacity life) = omega arith
  longer_after s (port_event.Written position item) = omega (arith, length-append s.written (item ∷ []))
  longer_after s port_event.Full = omega arith
  longer_after s port_event.Refused = omega arith
  longer_after s port_event.Spent = omega arith
  longer_after s (port_event.Took count) = omega arith
  longer_after s (port_event.Rest count) = omega arith
  longer_after s port_event.Shut = omega arith

  written_grows : AtPort w entry w' looper → length (w.objects.ports looper).written ≤ length (w'.objects.ports looper).written
  written_grows (port_stays same) = let e = ap (λ (s : PortState). length s.written) same in omega arith
  written_grows (port_moves e at is allowed after) =
      let more = longer_after (w.objects.ports looper) e in
      let same = ap (λ (s : PortState). length s.written) after in
      omega arith

module _ (heads : List AppHead) (short : List ℕ) where
  -- an item is written at the next position
  written_next
      : (w : World) (entry : Entry) (w' : World) → WorldStep heads short w entry w' → (looper position : ℕ) (item : ItemData) → WritesAt looper position item entry
      → ((w.objects.ports looper).shut ≡ false) × (position ≡ length (w.objects.ports looper).written) × (length (w'.objects.ports looper).written ≡ position + 1)
  written_next w entry w' step looper position item writes =
      let e : PortEvent = port_event.Written position item in
      let move = moves_as heads short w entry w' step (object.Port looper) (event.Port e) writes.at writes.is in
      let next = move.step.allowed.3 in
      let more = ap (λ (s : PortState). length s.written) (port_as heads short w entry w' step looper e writes.at writes.is) in
      (move.step.allowed.0, next, omega (arith, next, more, length-append (w.objects.ports looper).written (item ∷ [])))

-- ---- what is accepted first has the lesser position
pub written_in_order : OfWorlds IsWrittenInOrder
written_in_order heads short openings entries last run before entry between later behind is looper position place item other writes writes_later =
    let b = begun heads short openings entries last run before entry (between ++ later ∷ behind) (is ∙ append_assoc before (entry ∷ between) (later ∷ behind)) in
    let p = part heads short b.parted.next between later behind last b.parted.on in
    let first = written_next heads short b.parted.here entry b.parted.next b.parted.step looper position item writes in
    let second = written_next heads short p.here later p.next p.step looper place other writes_later in
    let long = first.2 in
    let grown : position < length (p.here.objects.ports looper).written =
    kept heads short (λ (w : World). position < length (w.objects.ports looper).written)
    (λ w e w' step sound now. let more = written_grows w e w' looper (at_port heads short w e w' step looper) in omega arith)
    b.parted.next between p.here b.next_sound p.there (omega arith) in
    let next = second.1 in
    omega arith

-- ---- each dispatch is the next one
module _ (heads : List AppHead) (short : List ℕ) (looper : ℕ) where
  -- that many are dispatched already
  abbrev Passed : ℕ → World → Type 0
  Passed place w = place < (w.objects.desks looper).dispatched

  passed_by
      : (w : World) (entry : Entry) (w' : World) → WorldStep heads short w entry w' → IsSound w → (place : ℕ) → AtDesk w entry w' looper → Passed place w'
      → Passed place w ⊎ DispatchesAt looper place entry
  passed_by w entry w' step sound place (desk_stays same) now = inl (omega arith)
  passed_by w entry w' step sound place (desk_moves position route words quit at is after) now =
      let dispatches : DispatchesAt looper position entry = record { at = at; route = route; words = words; quit = quit; is = is } in
      let next = (dispatch_next heads short w entry w' step sound looper position dispatches).position_is in
      ⊎_elim
      (λ (lt : place < (w.objects.desks looper).dispatched). inl lt)
      (λ (le : (w.objects.desks looper).dispatched ≤ place).
      let same : position ≡ place = omega arith in inr (subst (λ (k : ℕ). DispatchesAt looper k entry) same dispatches))
      (cases_lt place (w.objects.desks looper).dispatched)

  passed_on : (w : World) (entry : Entry) (w' : World) (place : ℕ) → AtDesk w entry w' looper → Passed place w → Passed place w'
  passed_on w entry w' place (desk_stays same) now = omega arith
  passed_on w entry w' place (desk_moves position route words quit at is after) now = omega arith

  pub stays_passed : (w : World) (entry : Entry) (w' : World) → WorldStep heads short w entry w' → (place : ℕ) → Passed place w → Passed place w'
  stays_passed w entry w' step place now = passed_on w entry w' place (at_desk heads short w entry w' step looper) now

  -- so each before was dispatched by an entry before
  dispatched_before : (openings : ℕ → DeskState) (before : List Entry) (w : World) → WorldRun heads short (first_world openings) before w → (place : ℕ) → Passed place w → Any (DispatchesAt looper place) before
  dispatched_before openings before w run place passed =
      ⊎_elim
      (λ (t : Passed place (first_world openings)). absurd (omega arith))
      (λ (t : Any (DispatchesAt looper place) before). t)
      (told heads short (Passed place) (DispatchesAt looper place)
      (λ v e v' step sound now. passed_by v e v' step sound place (at_desk heads short v e v' step looper) now)
      (first_world openings) before w (first_is_sound openings) run passed)

  -- and each that comes has a greater position
  dispatched_behind
      : (place : ℕ) (w : World) (entries : List Entry) (last : World) → IsSound w → WorldRun heads short w entries last → Passed place w
      → All (λ (e : Entry). (position : ℕ) → DispatchesAt looper position e → place < position) entries
  dispatched_behind place w entries last sound run passed =
      each_by heads short (Passed place) (λ (e : Entry). (position : ℕ) → DispatchesAt looper position e → place < position)
      (λ v e v' step safe now. (
        stays_passed v e v' step place now,
        λ position dispatches. let next = (dispatch_next heads short v e v' step safe looper position dispatches).position_is in omega arith,
      ))
      w entries last sound run passed

pub dispatched_in_order : OfWorlds IsDispatchedInOrder
dispatched_in_order heads short openings entries last run before entry behind is looper position dispatches =
    let b = begun heads short openings entries last run before entry behind is in
    let next = dispatch_next heads short b.parted.here entry b.parted.next b.parted.step b.sound looper position dispatches in
    let number = next.position_is in
    let more = next.after in (
      λ place lt. dispatched_before heads short looper openings before b.parted.here b.parted.there place (omega arith),
      dispatched_behind heads short looper position b.parted.next behind last b.next_sound b.parted.on (omega arith),
    )

-- ---- nothing is accepted behind the entry that shuts the port
pub none_written_when_shut : OfWorlds IsNoneWrittenWhenShut
none_written_when_shut heads short openings entries last run before entry behind is looper shuts =
    let b = begun heads short openings entries last run before entry behind is in
    let shut : (b.parted.next.objects.ports looper).shut ≡ true =
    ap (λ (s : PortState). s.shut) (port_as heads short b.parted.here entry b.parted.next b.parted.step looper port_event.Shut shuts.at shuts.is) in
    each_by heads short (λ (w : World). (w.objects.ports looper).shut ≡ true) (λ (e : Entry). (position : ℕ) (item : ItemData) → ¬ (WritesAt looper position item e))
    (λ w e w' step sound now. (
      shut_stays heads short w w' e step looper now,
      λ position item writes. both_ways (w.objects.ports looper).shut (written_next heads short w e w' step looper position item writes).0 now,
    ))
    b.parted.next behind last b.next_sound b.parted.on shut
