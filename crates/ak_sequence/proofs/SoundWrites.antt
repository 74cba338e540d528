-- An entry by which a port accepts an item keeps a world sound.
use Rattle.std.proofs.Common.{◌≡◌, ◌≢◌, ◌⊎◌, ◌∙◌, ℕ, false, length, refl, sym, ap, subst, inl, inr, ⊎_elim}
use Rattle.std.proofs.lemmas.Bool.{cases_eq}
use Rattle.ak_flatten.specs.declared.item.Duty.{Duty}
use Rattle.ak_flatten.specs.declared.item.Duty.TheVariants as duty
use Rattle.ak_flatten.specs.Item.{ItemData}
use Rattle.ak_port.specs.declared.port_entry.PortEvent.TheVariants as port_event
use Rattle.ak_port.specs.PortMachine.{state_after}
use Rattle.ak_port.specs.Reply.{open_stage}
use Rattle.ak_journal.specs.declared.entry.Entry.{Entry}
use Rattle.ak_journal.specs.declared.entry.Event.TheVariants as event
use Rattle.ak_journal.specs.declared.entry.ObjectName.TheVariants as object
use Rattle.ak_world.specs.World.{Asks, SendsOn, Work, World, Writes, put}
use Rattle.ak_sequence.specs.Places.{Accepts, HoldsInOrder, IsAt, IsOpen, IsSound, IsWritten, Place, in_hand, pending}
use Rattle.ak_sequence.specs.Worlds.{WritesSlot}
use Rattle.ak_sequence.proofs.Parts.{Comes, stays, was_written}
use Rattle.ak_sequence.proofs.Lots.{Changes, Here, Holds, Lot, Sits, at_hand, changes, changes_work, holds_of, is_at, lot, place_of, put_own, waiting}
use Rattle.ak_sequence.proofs.Amid.{slots_same as duties_same}
use Rattle.ak_sequence.proofs.Holds.{after_sent, after_wrote, sent_holds, wrote_holds}
use Rattle.ak_sequence.proofs.Moves.{sent_back, sent_forth, sent_was, wrote_back, wrote_forth, wrote_new}
use Rattle.ak_sequence.proofs.Keeping.{Keeps, KeepsItems, placed_written}
use Rattle.ak_sequence.proofs.Changing.{accepts_more, back_by, emptied_by, go_by, order_still, still_by, there_after, written_or_new}
use Rattle.ak_sequence.proofs.SoundAtBook.{not_written}
use Rattle.ak_sequence.proofs.Stages.{stage_on}
use Rattle.ak_sequence.proofs.Slots.{slots_same}

-- the slot that an entry writes is that which its item owes
written_owes : (entry : Entry) (position : ℕ) (item : ItemData) (n : ℕ) → entry.event ≡ event.Port (port_event.Written position item) → WritesSlot n entry → item.duty ≡ duty.Slot n
written_owes entry position item n is writes =
    let other = writes.writes.is in
    let same : writes.item ≡ item = cc in
    ap (λ (i : ItemData). i.duty) (sym same) ∙ writes.owes

-- what the loopers have to do is so far already, and the item is not written yet
abbrev midway : World → World → World
midway w w' = record w { works = w'.works }

module _
    (w : World) (entry : Entry) (w' : World) (sound : IsSound w) (looper position : ℕ) (item : ItemData)
    (at : entry.object ≡ object.Port looper) (is : entry.event ≡ event.Port (port_event.Written position item))
    (unshut : (w.objects.ports looper).shut ≡ false) (numbered_so : position ≡ length (w.objects.ports looper).written)
    (ports : w'.objects.ports ≡ put looper (state_after (w.objects.ports looper) (port_event.Written position item)) w.objects.ports)
    (desks : w'.objects.desks ≡ w.objects.desks) (slots : w'.objects.slots ≡ w.objects.slots) where
  writes_slot : (n : ℕ) → item.duty ≡ duty.Slot n → WritesSlot n entry
  writes_slot n owes = record { looper = looper; position = position; item = item; writes = record { at = at; is = is }; owes = owes }

  owes_slot : (n : ℕ) → WritesSlot n entry → item.duty ≡ duty.Slot n
  owes_slot n writes = written_owes entry position item n is writes

  same_slot : (n m : ℕ) → item.duty ≡ duty.Slot m → WritesSlot n entry → n ≡ m
  same_slot n m owes writes = duties_same n m (sym (owes_slot n writes) ∙ owes)

  -- ---- the item is written
  writing : Changes (midway w w') looper (after_wrote item (lot (midway w w') looper)) w'
  writing =
      changes (midway w w') looper (state_after (w.objects.ports looper) (port_event.Written position item)) (w.objects.desks looper) (w'.works looper) w'
      ports (desks ∙ put_own looper w.objects.desks) (put_own looper w'.works)

  -- the new place
  comes_new
      : (n : ℕ) (here : Here) (place : ℕ) → here ≡ waiting → place ≡ length (w.objects.ports looper).written → item.duty ≡ duty.Slot n
      → Comes w entry n (place_of looper here place)
  comes_new n here place is_here there owes =
      let one : Comes w entry n (pending looper position) = was_written looper position item (record { at = at; is = is }) owes in
      subst (λ (t : Here × ℕ). Comes w entry n (place_of looper t.0 t.1)) (λ i. (sym is_here i, (numbered_so ∙ sym there) i)) one

  midway_accepts : (n number place : ℕ) → Accepts w n number place → Accepts (midway w w') n number place
  midway_accepts n number place was = record { item = was.item; there = was.there; owes = was.owes }

  before_midway : (n : ℕ) → IsWritten (midway w w') n → IsWritten w n
  before_midway n was = record {
    looper = was.looper;
    position = was.position;
    accepts = record { item = was.accepts.item; there = was.accepts.there; owes = was.accepts.owes };
  }

  -- ---- so it keeps what is so of what the loopers have to do
  module _
      (holds : (other : ℕ) → HoldsInOrder (midway w w') other)
      (back : (n : ℕ) (place : Place) → IsAt (midway w w') n place → IsAt w n place × (WritesSlot n entry → ⊥))
      (go : (n : ℕ) (place : Place) → IsAt w n place → WritesSlot n entry ⊎ IsAt (midway w w') n place)
      (ready : (n : ℕ) → WritesSlot n entry → IsOpen w n) where
    old : Holds (lot (midway w w') looper)
    old = holds_of (midway w w') looper (holds looper)

    comes_old : (n : ℕ) (place : Place) → IsAt (midway w w') n place → Comes w entry n place
    comes_old n place there = let t = back n place there in stays place t.0 t.1

    new_place : (n : ℕ) → WritesSlot n entry → IsAt w' n (pending looper (length (w.objects.ports looper).written))
    new_place n writes =
        there_after (midway w w') looper (after_wrote item (lot (midway w w') looper)) w' writing n waiting (length (w.objects.ports looper).written)
        (wrote_new (lot (midway w w') looper) old n item (owes_slot n writes))

    written_items : KeepsItems w entry w'
    written_items = record {
      holds = order_still (midway w w') looper (after_wrote item (lot (midway w w') looper)) w' writing holds (wrote_holds (lot (midway w w') looper) old item unshut);
      come = λ n place there.
          back_by (midway w w') looper (after_wrote item (lot (midway w w') looper)) w' writing n (Comes w entry n)
          (λ other ne was. comes_old n other was)
          (λ here number was.
          ⊎_elim
          (λ (t : Sits (lot (midway w w') looper) n here number). comes_old n (place_of looper here number) (is_at (midway w w') n looper here number t))
          (λ (t : (here ≡ waiting) × (number ≡ length (w.objects.ports looper).written) × (item.duty ≡ duty.Slot n)). comes_new n here number t.0 t.1 t.2)
          (wrote_back (lot (midway w w') looper) old n item here number was))
          place there;
      go = λ n place there opened.
          ⊎_elim
          (λ (t : WritesSlot n entry). (pending looper (length (w.objects.ports looper).written), new_place n t))
          (λ (t : IsAt (midway w w') n place).
          go_by (midway w w') looper (after_wrote item (lot (midway w w') looper)) w' writing n
          (λ here number was. (here, wrote_forth (lot (midway w w') looper) old n item here number was))
          place t)
          (go n place there);
      accepted = λ n number place was.
          accepts_more (midway w w') looper (after_wrote item (lot (midway w w') looper)) w' writing item refl n number place (midway_accepts n number place was);
      unwritten = λ n now.
          ⊎_elim
          (λ (t : IsWritten (midway w w') n). inl (before_midway n t))
          (λ (t : item.duty ≡ duty.Slot n). inr (writes_slot n t))
          (written_or_new (midway w w') looper (after_wrote item (lot (midway w w') looper)) w' writing item refl n now);
    }

    pub written_keeps : Keeps w entry w'
    written_keeps = record {
      items = written_items;
      slots = slots_same w w' sound slots;
      new = λ n writes. record { opened = stage_on w w' slots n open_stage (ready n writes); place = pending looper (length (w.objects.ports looper).written); there = new_place n writes };
    }

  -- ---- nobody's work changes, and the slot is in no item yet
  keeps_fresh : w'.works ≡ w.works → ((n : ℕ) → WritesSlot n entry → IsWritten w n → ⊥) → ((n : ℕ) → WritesSlot n entry → IsOpen w n) → Keeps w entry w'
  keeps_fresh works fresh ready =
      written_keeps
      (λ other. subst (λ (all : ℕ → Work). HoldsInOrder (record w { works = all }) other) (sym works) (sound.holds other))
      (λ n place there.
      let was : IsAt w n place = subst (λ (all : ℕ → Work). IsAt (record w { works = all }) n place) works there in
      (was, λ (writes : WritesSlot n entry). fresh n writes (placed_written w sound n place was)))
      (λ n place there. inr (subst (λ (all : ℕ → Work). IsAt (record w { works = all }) n place) (sym works) there))
      ready

  -- ---- the first in a looper's hand is sent on
  keeps_sent : (by m : ℕ) → item.duty ≡ duty.Slot m → SendsOn w by m item w'.works → Keeps w entry w'
  keeps_sent by m owes sends =
      let l : Lot = lot w sends.looper in
      let h : Holds l = holds_of w sends.looper (sound.holds sends.looper) in
      let after : Lot = after_sent sends.first sends.others l in
      let v : World = midway w w' in
      let c : Changes w sends.looper after v = changes_work w sends.looper after.work v refl refl sends.owes_no_more in
      let was : Sits l m at_hand sends.first.taken.position = sent_was l h m sends.first sends.others sends.oldest sends.owes in
      written_keeps
      (order_still w sends.looper after v c sound.holds (sent_holds l h sends.first sends.others sends.oldest))
      (λ n place there. (
        back_by w sends.looper after v c n (λ (p : Place). IsAt w n p)
            (λ other ne t. t)
            (λ here number t. is_at w n sends.looper here number (sent_back l h n sends.first sends.others sends.oldest here number t).0)
            place there,
        λ (writes : WritesSlot n entry).
            emptied_by w sends.looper after v c sound m at_hand sends.first.taken.position was
            (λ here number t. sent_back l h m sends.first sends.others sends.oldest here number t)
            place (subst (λ (k : ℕ). IsAt v k place) (same_slot n m owes writes) there),
      ))
      (λ n place there.
      ⊎_elim
      (λ (e : n ≡ m). inl (writes_slot n (owes ∙ ap (λ (k : ℕ). duty.Slot k) (sym e))))
      (λ (ne : n ≢ m).
      inr (still_by w sends.looper after v c n
      (λ here number t.
      sent_forth l h n sends.first sends.others sends.oldest (λ (owed : sends.first.owing ≡ duty.Slot n). ne (duties_same n m (sym owed ∙ sends.owes))) here number t)
      place there))
      (cases_eq n m))
      (λ n writes.
      subst (λ (k : ℕ). IsOpen w k) (sym (same_slot n m owes writes))
      (sound.placed_open m (in_hand sends.looper sends.first.taken.position) (is_at w m sends.looper at_hand sends.first.taken.position was)))

  -- ---- whatever its item owes
  keeps_owing : (by : ℕ) (owed : Duty) → item.duty ≡ owed → Writes w by item owed w'.works → Keeps w entry w'
  keeps_owing by (duty.Slot m) owes works =
      ⊎_elim
      (λ (t : Asks w by m w'.works).
      keeps_fresh t.same
      (λ n writes written. not_written w m t.unwritten (subst (λ (k : ℕ). IsWritten w k) (same_slot n m owes writes) written))
      (λ n writes. subst (λ (k : ℕ). IsOpen w k) (sym (same_slot n m owes writes)) (by, t.opened)))
      (λ (t : SendsOn w by m item w'.works). keeps_sent by m owes t)
      works
  keeps_owing by duty.None owes works =
      keeps_fresh works (λ n writes written. let owed = owes_slot n writes in cc) (λ n writes. let owed = owes_slot n writes in absurd (cc))
  keeps_owing by (duty.Back to) owes works =
      keeps_fresh works (λ n writes written. let owed = owes_slot n writes in cc) (λ n writes. let owed = owes_slot n writes in absurd (cc))

  pub keeps_written : (by : ℕ) → Writes w by item item.duty w'.works → Keeps w entry w'
  keeps_written by works = keeps_owing by item.duty refl works
