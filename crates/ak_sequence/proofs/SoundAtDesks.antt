-- An entry at the desk of a looper keeps a world sound.
use Rattle.std.proofs.Common.{◌≡◌, ◌∙◌, ℕ, ◌+◌, Bool, true, false, List, Option, refl, sym, ap, subst, ⊎_elim}
use Rattle.std.proofs.lemmas.Bool.{cases_Bool}
use Rattle.ak_flatten.specs.Item.{ItemData}
use Rattle.ak_action.specs.declared.answer.AnswerWord.{AnswerWord}
use Rattle.ak_desk.specs.declared.entry.DeskEvent.{DeskEvent}
use Rattle.ak_desk.specs.declared.entry.DeskEvent.TheVariants as desk_event
use Rattle.ak_desk.specs.declared.entry.EntryRoute.{EntryRoute}
use Rattle.ak_desk.specs.Machine.{counted}
use Rattle.ak_journal.specs.declared.entry.Entry.{Entry}
use Rattle.ak_journal.specs.declared.entry.Event.TheVariants as event
use Rattle.ak_journal.specs.declared.entry.ObjectName.TheVariants as object
use Rattle.ak_world.specs.World.{DeskPlace, Dispatches, Work, WorkAtDesk, World, owed_for, put}
use Rattle.ak_sequence.specs.Places.{IsSound}
use Rattle.ak_sequence.specs.Worlds.{DispatchesAt, WritesSlot}
use Rattle.ak_sequence.proofs.Parts.{Comes, stays, was_dispatched}
use Rattle.ak_sequence.proofs.Lots.{Changes, Here, Holds, Lot, Sits, at_hand, changes, due, holds_of, is_at, lot, place_of, put_own}
use Rattle.ak_sequence.proofs.Holds.{after_dispatch, dispatch_holds, hand_unrested}
use Rattle.ak_sequence.proofs.Moves.{dispatch_back, dispatch_forth}
use Rattle.ak_sequence.proofs.Keeping.{Keeps, KeepsItems}
use Rattle.ak_sequence.proofs.Changing.{items_by, items_staying}
use Rattle.ak_sequence.proofs.Slots.{slots_same}

-- no entry at a desk writes an item
desk_writes_none : (entry : Entry) (e : DeskEvent) → entry.event ≡ event.Desk e → (n : ℕ) → ¬ (WritesSlot n entry)
desk_writes_none entry e is n writes = let written = writes.writes.is in cc

module _
    (w : World) (entry : Entry) (w' : World) (sound : IsSound w) (looper : ℕ) (e : DeskEvent) (at : entry.object ≡ object.Desk looper) (is : entry.event ≡ event.Desk e)
    (place : DeskPlace) (count : place.dispatched ≡ counted (w.objects.desks looper).dispatched e)
    (ports : w'.objects.ports ≡ w.objects.ports) (desks : w'.objects.desks ≡ put looper place w.objects.desks) (slots : w'.objects.slots ≡ w.objects.slots) where
  none : (n : ℕ) → ¬ (WritesSlot n entry)
  none = desk_writes_none entry e is

  keeps_none : KeepsItems w entry w' → Keeps w entry w'
  keeps_none items = record { items = items; slots = slots_same w w' sound slots; new = λ n writes. absurd (none n writes) }

  changing
      : (work : Work) → w'.works ≡ put looper work w.works
      → Changes w looper (record { port = w.objects.ports looper; dispatched = counted (w.objects.desks looper).dispatched e; work = work }) w'
  changing work works =
      subst (λ (k : ℕ). Changes w looper (record { port = w.objects.ports looper; dispatched = k; work = work }) w') count
      (changes w looper (w.objects.ports looper) place work w' (ports ∙ put_own looper w.objects.ports) desks works)

-- ---- the first in hand is dispatched
keeps_dispatch
    : (short : List ℕ) (w : World) (entry : Entry) (w' : World) → IsSound w → (looper position : ℕ) (route : EntryRoute) (words : List AnswerWord) (quit : Bool) (item : Option ItemData)
    → entry.object ≡ object.Desk looper → entry.event ≡ event.Desk (desk_event.Dispatched position route words quit)
    → (place : DeskPlace) → place.dispatched ≡ (w.objects.desks looper).dispatched + 1
    → w'.objects.ports ≡ w.objects.ports → w'.objects.desks ≡ put looper place w.objects.desks → w'.objects.slots ≡ w.objects.slots
    → Dispatches short w looper position route words item w'.works → Keeps w entry w'
keeps_dispatch short w entry w' sound looper position route words quit item at is place count ports desks slots works =
    let e : DeskEvent = desk_event.Dispatched position route words quit in
    let l : Lot = lot w looper in
    let h : Holds l = holds_of w looper (sound.holds looper) in
    let after : Lot = after_dispatch works.others (owed_for works.first.owing works.reply) l in
    let c : Changes w looper after w' = changing w entry w' sound looper e at is place count ports desks slots after.work works.owes in
    let nothing : (n : ℕ) → ¬ (WritesSlot n entry) = desk_writes_none entry e is in
    let unrested : l.port.rested ≡ false =
    ⊎_elim (λ (t : l.port.rested ≡ true). absurd (hand_unrested l h works.first works.others works.oldest t)) (λ (t : l.port.rested ≡ false). t) (cases_Bool l.port.rested) in
    let dispatches : DispatchesAt looper works.first.taken.position entry = record {
      at = at;
      route = route;
      words = words;
      quit = quit;
      is = is ∙ ap (λ (k : ℕ). event.Desk (desk_event.Dispatched k route words quit)) works.position_is;
    } in
    keeps_none w entry w' sound looper e at is place count ports desks slots
    (items_by w looper after w' c entry nothing sound (dispatch_holds l h works.first works.others (owed_for works.first.owing works.reply) works.oldest unrested) refl
    (λ n here number there.
    ⊎_elim
    (λ (t : Sits l n here number). stays (place_of looper here number) (is_at w n looper here number t) (nothing n))
    (λ (t : (here ≡ due) × Sits l n at_hand number × (number ≡ works.first.taken.position)).
    subst (λ (k : Here). Comes w entry n (place_of looper k number)) (sym t.0)
    (was_dispatched looper number (is_at w n looper at_hand number t.1) (subst (λ (k : ℕ). DispatchesAt looper k entry) (sym t.2) dispatches)))
    (dispatch_back l h n works.first works.others works.oldest works.reply here number there))
    (λ n opened here number there. dispatch_forth l h n works.first works.others works.oldest works.reply works.owes_none here number there))

-- ---- each of them
pub keeps_at_desk
    : (short : List ℕ) (w : World) (entry : Entry) (w' : World) → IsSound w → (looper : ℕ) (e : DeskEvent) (item : Option ItemData) → entry.object ≡ object.Desk looper → entry.event ≡ event.Desk e
    → (place : DeskPlace) → place.dispatched ≡ counted (w.objects.desks looper).dispatched e
    → w'.objects.ports ≡ w.objects.ports → w'.objects.desks ≡ put looper place w.objects.desks → w'.objects.slots ≡ w.objects.slots
    → WorkAtDesk short w looper e item w'.works → Keeps w entry w'
keeps_at_desk short w entry w' sound looper (desk_event.Dispatched position route words quit) item at is place count ports desks slots works =
    keeps_dispatch short w entry w' sound looper position route words quit item at is place count ports desks slots works
keeps_at_desk short w entry w' sound looper (desk_event.Edited edit answer) item at is place count ports desks slots works =
    let e : DeskEvent = desk_event.Edited edit answer in
    let c : Changes w looper (lot w looper) w' = changing w entry w' sound looper e at is place count ports desks slots (w.works looper) (works ∙ put_own looper w.works) in
    keeps_none w entry w' sound looper e at is place count ports desks slots
    (items_staying w looper (lot w looper) w' c entry (desk_writes_none entry e is) sound (holds_of w looper (sound.holds looper)) refl (λ n here number there. there) (λ n opened here number there. there))
