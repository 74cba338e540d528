-- An entry at the reply book keeps a world sound.
use Rattle.std.proofs.Common.{◌≡◌, ◌∙◌, ℕ, zero, suc, List, [], ◌∷◌, Some, None, All, refl, sym, ap, subst, ⊎_elim}
use Rattle.std.specs.Prelude.{slice_get}
use Rattle.std.proofs.lemmas.List.Elements.{All-head, All-tail}
use Rattle.ak_flatten.specs.declared.item.Duty.TheVariants as duty
use Rattle.ak_flatten.specs.Item.{ItemData}
use Rattle.ak_port.specs.declared.reply_entry.ReplyEvent.{ReplyEvent}
use Rattle.ak_port.specs.declared.reply_entry.ReplyEvent.TheVariants as slot
use Rattle.ak_port.specs.Reply.{SlotData, cancelled_stage, filled_stage, open_stage, taken_stage, with_stage}
use Rattle.ak_journal.specs.declared.entry.Entry.{Entry}
use Rattle.ak_journal.specs.declared.entry.Event.TheVariants as event
use Rattle.ak_world.specs.World.{BookMove, IsUnwritten, Objects, PaysLeft, PaysOwed, WorkAtBook, World}
use Rattle.ak_sequence.specs.Places.{HasStage, IsAt, IsOpen, IsSound, IsWritten, Place, left_over, owed}
use Rattle.ak_sequence.specs.Worlds.{WritesSlot}
use Rattle.ak_port.proofs.Surface.{get_same}
use Rattle.ak_sequence.proofs.Lots.{Changes, Holds, Lot, changes_none, changes_work, due, holds_of, is_at, lot, put_by}
use Rattle.ak_sequence.proofs.Amid.{slots_same as duties_same}
use Rattle.ak_sequence.proofs.Holds.{after_left, after_paid, left_holds, paid_holds}
use Rattle.ak_sequence.proofs.Moves.{left_back, left_forth, left_was, paid_back, paid_forth, paid_was}
use Rattle.ak_sequence.proofs.Stages.{filled_not_cancelled, filled_not_taken, one_stage, open_not_cancelled, open_not_filled, open_not_taken, taken_not_cancelled}
use Rattle.ak_sequence.proofs.Keeping.{Keeps, KeepsItems, KeepsSlots, placed_written}
use Rattle.ak_sequence.proofs.Changing.{emptied_by, items_same, items_staying, same_back}
use Rattle.ak_sequence.proofs.Slots.{slots_opened, slots_staged}

-- ---- a slot that is unwritten is in no place
all_at : (P : ItemData → Type 0) (items : List ItemData) (place : ℕ) (item : ItemData) → All P items → slice_get items place ≡ Some item → P item
all_at P [] place item all there = absurd (cc)
all_at P (first ∷ items) zero item all there = let same : first ≡ item = cc in subst P same (All-head P first items all)
all_at P (first ∷ items) (suc place) item all there = all_at P items place item (All-tail P first items all) there

pub not_written : (w : World) (n : ℕ) → IsUnwritten w n → IsWritten w n → ⊥
not_written w n unwritten written =
    let one = written.accepts in
    all_at (λ (item : ItemData). item.duty ≡ duty.Slot n → ⊥) (w.objects.ports written.looper).written written.position one.item (unwritten written.looper) one.there one.owes

-- ---- no entry at the book writes an item
book_writes_none : (entry : Entry) (e : ReplyEvent) → entry.event ≡ event.Book e → (n : ℕ) → ¬ (WritesSlot n entry)
book_writes_none entry e is n writes = let written = writes.writes.is in cc

module _ (short : List ℕ) (w : World) (entry : Entry) (w' : World) (sound : IsSound w) (by : ℕ) (e : ReplyEvent) (is : entry.event ≡ event.Book e) (move : BookMove w.objects by e w'.objects) where
  none : (n : ℕ) → ¬ (WritesSlot n entry)
  none = book_writes_none entry e is

  ports_same : w'.objects.ports ≡ w.objects.ports
  ports_same = ap (λ (o : Objects). o.ports) move.after

  desks_same : w'.objects.desks ≡ w.objects.desks
  desks_same = ap (λ (o : Objects). o.desks) move.after

  still : w'.works ≡ w.works → Changes w 0 (lot w 0) w'
  still works = changes_none w w' ports_same desks_same works

  keeps_none : KeepsItems w entry w' → KeepsSlots w w' → Keeps w entry w'
  keeps_none items slots = record { items = items; slots = slots; new = λ n writes. absurd (none n writes) }

  -- ---- a slot is filled
  module _ (number : ℕ) (text : List ℕ) (changed : w'.objects.slots ≡ with_stage w.objects.slots number (filled_stage text)) (opened : IsOpen w number) where
    pub not_open : IsOpen w' number → ⊥
    not_open now =
        let has : HasStage w' number (filled_stage text) = (
          opened.0,
          ap (λ (slots : List SlotData). slice_get slots number) changed ∙ get_same w.objects.slots number opened.0 open_stage (filled_stage text) opened.1,
        ) in
        open_not_filled text (one_stage w' number open_stage (filled_stage text) now has)

    other_open : (n : ℕ) → IsOpen w' n → n ≡ number → ⊥
    other_open n now same = not_open (subst (λ (k : ℕ). IsOpen w' k) same now)

    filled_slots : ((place : Place) → IsAt w' number place → ⊥) → IsWritten w number → KeepsSlots w w'
    filled_slots emptied written = slots_staged w w' sound number (filled_stage text) changed (open_not_filled text) emptied (λ other same. written) (λ same. written) (λ same. absurd (filled_not_cancelled text (sym same)))

    keeps_paid : PaysOwed short w by number text w'.works → Keeps w entry w'
    keeps_paid pays =
        let l : Lot = lot w pays.looper in
        let h : Holds l = holds_of w pays.looper (sound.holds pays.looper) in
        let c : Changes w pays.looper (after_paid l) w' = changes_work w pays.looper (record (w.works pays.looper) { owed = None }) w' ports_same desks_same pays.owes_no_more in
        let was = paid_was l h number (Some pays.reply) pays.owes in
        keeps_none
        (items_staying w pays.looper (after_paid l) w' c entry none sound (paid_holds l h) refl
        (λ n here position there. (paid_back l h n here position there).0)
        (λ n now here position there. paid_forth l h n number (Some pays.reply) pays.owes (other_open n now) here position there))
        (filled_slots
        (emptied_by w pays.looper (after_paid l) w' c sound number due was.0 was.1
        (λ here position there. let t = paid_back l h number here position there in (t.0, λ same at. t.1 same)))
        (placed_written w sound number (owed pays.looper was.0) (is_at w number pays.looper due was.0 was.1)))

    keeps_left : PaysLeft w by number text w'.works → Keeps w entry w'
    keeps_left pays =
        let l : Lot = lot w pays.looper in
        let h : Holds l = holds_of w pays.looper (sound.holds pays.looper) in
        let after : Lot = after_left pays.before pays.one pays.behind l in
        let c : Changes w pays.looper after w' = changes_work w pays.looper after.work w' ports_same desks_same pays.owes_no_more in
        let was = left_was l h number pays.before pays.one pays.behind pays.left pays.owes in
        keeps_none
        (items_staying w pays.looper after w' c entry none sound (left_holds l h pays.before pays.one pays.behind pays.left pays.rested) refl
        (λ n here position there. (left_back l h n pays.before pays.one pays.behind pays.left pays.rested here position there).0)
        (λ n now here position there.
        left_forth l h n pays.before pays.one pays.behind pays.left
        (λ (owes : pays.one.owing ≡ duty.Slot n). other_open n now (duties_same n number (sym owes ∙ pays.owes))) here position there))
        (filled_slots
        (emptied_by w pays.looper after w' c sound number put_by pays.one.taken.position was
        (λ here position there. left_back l h number pays.before pays.one pays.behind pays.left pays.rested here position there))
        (placed_written w sound number (left_over pays.looper pays.one.taken.position) (is_at w number pays.looper put_by pays.one.taken.position was)))

-- ---- each of them
pub keeps_at_book
    : (short : List ℕ) (w : World) (entry : Entry) (w' : World) → IsSound w → (by : ℕ) (e : ReplyEvent) → entry.event ≡ event.Book e → BookMove w.objects by e w'.objects → WorkAtBook short w by e w'.works
    → Keeps w entry w'
keeps_at_book short w entry w' sound by (slot.Opened n) is move works =
    let e = slot.Opened n in
    keeps_none short w entry w' sound by e is move
    (items_same w entry w' (none short w entry w' sound by e is move) sound (still short w entry w' sound by e is move works))
    (slots_opened w w' sound by (ap (λ (o : Objects). o.slots) move.after))
keeps_at_book short w entry w' sound by (slot.Filled n text) is move works =
    let e = slot.Filled n text in
    let changed : w'.objects.slots ≡ with_stage w.objects.slots n (filled_stage text) = ap (λ (o : Objects). o.slots) move.after in
    ⊎_elim
    (λ (t : PaysOwed short w by n text w'.works). keeps_paid short w entry w' sound by e is move n text changed move.step t)
    (λ (t : PaysLeft w by n text w'.works). keeps_left short w entry w' sound by e is move n text changed move.step t)
    works
keeps_at_book short w entry w' sound by (slot.Cancelled n) is move works =
    let e = slot.Cancelled n in
    let c = still short w entry w' sound by e is move works.1 in
    keeps_none short w entry w' sound by e is move
    (items_same w entry w' (none short w entry w' sound by e is move) sound c)
    (slots_staged w w' sound n cancelled_stage (ap (λ (o : Objects). o.slots) move.after) open_not_cancelled
    (λ place at. not_written w n works.0 (placed_written w sound n place (same_back w w' c n place at)))
    (λ text same. absurd (filled_not_cancelled text same))
    (λ same. absurd (taken_not_cancelled same))
    (λ same. not_written w n works.0))
keeps_at_book short w entry w' sound by (slot.Taken n) is move works =
    let e = slot.Taken n in
    let c = still short w entry w' sound by e is move works in
    let filled : HasStage w n (filled_stage move.step.0) = (by, move.step.1) in
    keeps_none short w entry w' sound by e is move
    (items_same w entry w' (none short w entry w' sound by e is move) sound c)
    (slots_staged w w' sound n taken_stage (ap (λ (o : Objects). o.slots) move.after) open_not_taken
    (λ place at. open_not_filled move.step.0 (one_stage w n open_stage (filled_stage move.step.0) (sound.placed_open n place (same_back w w' c n place at)) filled))
    (λ text same. absurd (filled_not_taken text same))
    (λ same. sound.filled_written n move.step.0 filled)
    (λ same. absurd (taken_not_cancelled (sym same))))
