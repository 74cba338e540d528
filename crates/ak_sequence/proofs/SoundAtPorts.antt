-- An entry at the port of a looper keeps a world sound.
use Rattle.std.proofs.Common.{◌≡◌, ◌⊎◌, ◌∙◌, ℕ, List, refl, sym, subst, ⊎_elim}
use Rattle.ak_base.specs.Thread.{looper_thread}
use Rattle.ak_flatten.specs.Item.{ItemData}
use Rattle.ak_port.specs.declared.port_entry.PortEvent.{PortEvent}
use Rattle.ak_port.specs.declared.port_entry.PortEvent.TheVariants as port_event
use Rattle.ak_port.specs.PortMachine.{IsAllowed, PortState, state_after}
use Rattle.ak_journal.specs.declared.entry.Entry.{Entry}
use Rattle.ak_journal.specs.declared.entry.Event.TheVariants as event
use Rattle.ak_journal.specs.declared.entry.ObjectName.TheVariants as object
use Rattle.ak_world.specs.World.{Work, WorkAtPort, World, put}
use Rattle.ak_sequence.specs.Places.{IsSound}
use Rattle.ak_sequence.specs.Worlds.{RestsAt, WritesSlot}
use Rattle.ak_sequence.proofs.Parts.{Comes, stays, was_left, was_put_by, was_taken}
use Rattle.ak_sequence.proofs.Lots.{Changes, Here, Holds, Lot, Sits, Waits, at_hand, changes, due, holds_of, is_at, lot, place_of, put_by, put_own, waiting}
use Rattle.ak_sequence.proofs.Holds.{after_rest, after_took, made_holds, rest_holds, shut_holds, took_holds}
use Rattle.ak_sequence.proofs.Moves.{rest_back, rest_forth, took_back, took_forth}
use Rattle.ak_sequence.proofs.Keeping.{Keeps, KeepsItems}
use Rattle.ak_sequence.proofs.Changing.{items_by, items_staying}
use Rattle.ak_sequence.proofs.Slots.{slots_same}
use Rattle.ak_sequence.proofs.SoundWrites.{keeps_written}

-- ---- of a port with the same items, of which as many were taken
sits_like
    : (l : Lot) (port : PortState) → port.written ≡ l.port.written → port.taken ≡ l.port.taken
    → (n : ℕ) (here : Here) (position : ℕ) → Sits l n here position → Sits (record l { port = port }) n here position
sits_like l port written taken n waiting position there =
    subst (λ (t : List ItemData × ℕ). Waits t.0 t.1 n position) (λ i. (sym written i, sym taken i)) there
sits_like l port written taken n at_hand position there = there
sits_like l port written taken n put_by position there = there
sits_like l port written taken n due position there = there

-- ---- the event is no write
abbrev IsWrite : PortEvent → Type 0
IsWrite (port_event.Written position item) = Unit {0}
IsWrite _ = ⊥

no_write : (e : PortEvent) (entry : Entry) → (IsWrite e → ⊥) → entry.event ≡ event.Port e → (n : ℕ) → ¬ (WritesSlot n entry)
no_write e entry not_so is n writes =
    let other = writes.writes.is in
    let same : port_event.Written writes.position writes.item ≡ e = cc in
    not_so (subst IsWrite same tt)

module _
    (w : World) (entry : Entry) (w' : World) (sound : IsSound w) (looper : ℕ) (e : PortEvent) (at : entry.object ≡ object.Port looper) (is : entry.event ≡ event.Port e)
    (ports : w'.objects.ports ≡ put looper (state_after (w.objects.ports looper) e) w.objects.ports) (desks : w'.objects.desks ≡ w.objects.desks) (slots : w'.objects.slots ≡ w.objects.slots)
    (none : (n : ℕ) → ¬ (WritesSlot n entry)) where
  keeps_none : KeepsItems w entry w' → Keeps w entry w'
  keeps_none items = record { items = items; slots = slots_same w w' sound slots; new = λ n writes. absurd (none n writes) }

  changing : (work : Work) → w'.works ≡ put looper work w.works → Changes w looper (record { port = state_after (w.objects.ports looper) e; dispatched = (w.objects.desks looper).dispatched; work = work }) w'
  changing work works = changes w looper (state_after (w.objects.ports looper) e) (w.objects.desks looper) work w' ports (desks ∙ put_own looper w.objects.desks) works

  old : Holds (lot w looper)
  old = holds_of w looper (sound.holds looper)

  -- ---- nothing is taken and nothing written
  keeps_quiet
      : (state_after (w.objects.ports looper) e).written ≡ (w.objects.ports looper).written → (state_after (w.objects.ports looper) e).taken ≡ (w.objects.ports looper).taken
      → Holds (record (lot w looper) { port = state_after (w.objects.ports looper) e }) → w'.works ≡ w.works → Keeps w entry w'
  keeps_quiet written taken holds works =
      let l : Lot = lot w looper in
      let port : PortState = state_after (w.objects.ports looper) e in
      let c = changing (w.works looper) (works ∙ put_own looper w.works) in
      keeps_none
      (items_staying w looper (record l { port = port }) w' c entry none sound holds written
      (λ n here position there. sits_like (record l { port = port }) l.port (sym written) (sym taken) n here position there)
      (λ n opened here position there. sits_like l port written taken n here position there))

-- ---- some are taken
keeps_took
    : (w : World) (entry : Entry) (w' : World) → IsSound w → (by looper count : ℕ) → entry.object ≡ object.Port looper → entry.event ≡ event.Port (port_event.Took count)
    → w'.objects.ports ≡ put looper (state_after (w.objects.ports looper) (port_event.Took count)) w.objects.ports → w'.objects.desks ≡ w.objects.desks → w'.objects.slots ≡ w.objects.slots
    → IsAllowed (looper_thread looper) by (w.objects.ports looper) (port_event.Took count) → WorkAtPort w by looper (port_event.Took count) w'.works → Keeps w entry w'
keeps_took w entry w' sound by looper count at is ports desks slots allowed works =
    let e : PortEvent = port_event.Took count in
    let none : (n : ℕ) → ¬ (WritesSlot n entry) = no_write e entry (λ t. t) is in
    let l : Lot = lot w looper in
    let h : Holds l = old w entry w' sound looper e at is ports desks slots none in
    let after : Lot = after_took count l in
    let c : Changes w looper after w' = changing w entry w' sound looper e at is ports desks slots none after.work works in
    keeps_none w entry w' sound looper e at is ports desks slots none
    (items_by w looper after w' c entry none sound (took_holds l h count allowed.1 allowed.3) refl
    (λ n here position there.
    ⊎_elim
    (λ (t : Sits l n here position). stays (place_of looper here position) (is_at w n looper here position t) (none n))
    (λ (t : (here ≡ at_hand) × Sits l n waiting position).
    subst (λ (k : Here). Comes w entry n (place_of looper k position)) (sym t.0) (was_taken looper position (is_at w n looper waiting position t.1) (none n)))
    (took_back l h n count here position there))
    (λ n opened here position there. took_forth l h n count here position there))

-- ---- the rest is taken
keeps_rest
    : (w : World) (entry : Entry) (w' : World) → IsSound w → (by looper count : ℕ) → entry.object ≡ object.Port looper → entry.event ≡ event.Port (port_event.Rest count)
    → w'.objects.ports ≡ put looper (state_after (w.objects.ports looper) (port_event.Rest count)) w.objects.ports → w'.objects.desks ≡ w.objects.desks → w'.objects.slots ≡ w.objects.slots
    → IsAllowed (looper_thread looper) by (w.objects.ports looper) (port_event.Rest count) → WorkAtPort w by looper (port_event.Rest count) w'.works → Keeps w entry w'
keeps_rest w entry w' sound by looper count at is ports desks slots allowed works =
    let e : PortEvent = port_event.Rest count in
    let none : (n : ℕ) → ¬ (WritesSlot n entry) = no_write e entry (λ t. t) is in
    let rests : RestsAt looper entry = record { at = at; count = count; is = is } in
    let l : Lot = lot w looper in
    let h : Holds l = old w entry w' sound looper e at is ports desks slots none in
    let after : Lot = after_rest count l in
    let c : Changes w looper after w' = changing w entry w' sound looper e at is ports desks slots none after.work works in
    keeps_none w entry w' sound looper e at is ports desks slots none
    (items_by w looper after w' c entry none sound (rest_holds l h count allowed.1 allowed.2 allowed.3) refl
    (λ n here position there.
    ⊎_elim
    (λ (t : Sits l n here position). stays (place_of looper here position) (is_at w n looper here position t) (none n))
    (λ (t : (here ≡ put_by) × (Sits l n waiting position ⊎ Sits l n at_hand position)).
    subst (λ (k : Here). Comes w entry n (place_of looper k position)) (sym t.0)
    (⊎_elim
    (λ (u : Sits l n waiting position). was_left looper position (is_at w n looper waiting position u) rests)
    (λ (u : Sits l n at_hand position). was_put_by looper position (is_at w n looper at_hand position u) rests)
    t.1))
    (rest_back l h n count here position there))
    (λ n opened here position there. rest_forth l h n count allowed.2 allowed.3 here position there))

-- ---- each of them
pub keeps_at_port
    : (w : World) (entry : Entry) (w' : World) → IsSound w → (by looper : ℕ) (e : PortEvent) → entry.object ≡ object.Port looper → entry.event ≡ event.Port e
    → w'.objects.ports ≡ put looper (state_after (w.objects.ports looper) e) w.objects.ports → w'.objects.desks ≡ w.objects.desks → w'.objects.slots ≡ w.objects.slots
    → IsAllowed (looper_thread looper) by (w.objects.ports looper) e → WorkAtPort w by looper e w'.works → Keeps w entry w'
keeps_at_port w entry w' sound by looper (port_event.Made capacity life) at is ports desks slots allowed works =
    let none = no_write (port_event.Made capacity life) entry (λ t. t) is in
    keeps_quiet w entry w' sound looper (port_event.Made capacity life) at is ports desks slots none refl refl (made_holds (lot w looper) (holds_of w looper (sound.holds looper)) capacity life) works
keeps_at_port w entry w' sound by looper (port_event.Written position item) at is ports desks slots allowed works =
    keeps_written w entry w' sound looper position item at is allowed.0 allowed.3 ports desks slots by works
keeps_at_port w entry w' sound by looper port_event.Full at is ports desks slots allowed works =
    keeps_quiet w entry w' sound looper port_event.Full at is ports desks slots (no_write port_event.Full entry (λ t. t) is) refl refl (holds_of w looper (sound.holds looper)) works
keeps_at_port w entry w' sound by looper port_event.Refused at is ports desks slots allowed works =
    keeps_quiet w entry w' sound looper port_event.Refused at is ports desks slots (no_write port_event.Refused entry (λ t. t) is) refl refl (holds_of w looper (sound.holds looper)) works
keeps_at_port w entry w' sound by looper port_event.Spent at is ports desks slots allowed works =
    keeps_quiet w entry w' sound looper port_event.Spent at is ports desks slots (no_write port_event.Spent entry (λ t. t) is) refl refl (holds_of w looper (sound.holds looper)) works
keeps_at_port w entry w' sound by looper (port_event.Took count) at is ports desks slots allowed works =
    keeps_took w entry w' sound by looper count at is ports desks slots allowed works
keeps_at_port w entry w' sound by looper (port_event.Rest count) at is ports desks slots allowed works =
    keeps_rest w entry w' sound by looper count at is ports desks slots allowed works
keeps_at_port w entry w' sound by looper port_event.Shut at is ports desks slots allowed works =
    let none = no_write port_event.Shut entry (λ t. t) is in
    keeps_quiet w entry w' sound looper port_event.Shut at is ports desks slots none refl refl (shut_holds (lot w looper) (holds_of w looper (sound.holds looper))) works
