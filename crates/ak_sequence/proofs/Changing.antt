-- The lot of one looper changes, and those of the others stay.
use Rattle.std.proofs.Common.{◌≡◌, ◌≢◌, ◌⊎◌, ◌∙◌, ℕ, List, [], ◌∷◌, ◌++◌, length, Some, refl, sym, ap, subst, inl, inr, ⊎_elim}
use Rattle.std.specs.Prelude.{slice_get}
use Rattle.std.proofs.lemmas.Bool.{cases_eq}
use Rattle.std.proofs.lemmas.Option.{slice_get_within}
use Rattle.ak_flatten.specs.declared.item.Duty.TheVariants as duty
use Rattle.ak_flatten.specs.Item.{ItemData}
use Rattle.ak_journal.specs.declared.entry.Entry.{Entry}
use Rattle.ak_world.specs.World.{World}
use Rattle.ak_sequence.specs.Places.{Accepts, HoldsInOrder, IsAt, IsOpen, IsSound, IsWritten, Place, looper_of, position_of}
use Rattle.ak_sequence.specs.Worlds.{WritesSlot}
use Rattle.ak_port.proofs.Surface.{get_left, get_push}
use Rattle.ak_sequence.proofs.Parts.{Comes, stays}
use Rattle.ak_sequence.proofs.Lots.{Changes, Here, Holds, Lot, Sits, at_hand, due, here_of, holds_of, in_order_of, is_at, lot, place_is, place_of, put_by, sits, waiting}
use Rattle.ak_sequence.proofs.Keeping.{KeepsItems}

-- ---- what is so at the place of a looper, is so at that place
at_place : (T : Place → Type 0) (place : Place) (looper : ℕ) → looper_of place ≡ looper → T (place_of looper (here_of place) (position_of place)) → T place
at_place T place looper e t =
    subst T (place_is place) (subst (λ (l : ℕ). T (place_of l (here_of place) (position_of place))) (sym e) t)

looper_there : (looper : ℕ) (here : Here) (position : ℕ) → looper_of (place_of looper here position) ≡ looper
looper_there looper waiting position = refl
looper_there looper at_hand position = refl
looper_there looper put_by position = refl
looper_there looper due position = refl

here_there : (looper : ℕ) (here : Here) (position : ℕ) → here_of (place_of looper here position) ≡ here
here_there looper waiting position = refl
here_there looper at_hand position = refl
here_there looper put_by position = refl
here_there looper due position = refl

position_there : (looper : ℕ) (here : Here) (position : ℕ) → position_of (place_of looper here position) ≡ position
position_there looper waiting position = refl
position_there looper at_hand position = refl
position_there looper put_by position = refl
position_there looper due position = refl

same_lot_at : (w w' : World) (n : ℕ) (place : Place) → lot w (looper_of place) ≡ lot w' (looper_of place) → IsAt w n place → IsAt w' n place
same_lot_at w w' n place same at =
    subst (λ (p : Place). IsAt w' n p) (place_is place)
    (is_at w' n (looper_of place) (here_of place) (position_of place) (subst (λ (l : Lot). Sits l n (here_of place) (position_of place)) same (sits w n place at)))

module _ (w : World) (looper : ℕ) (after : Lot) (w' : World) (c : Changes w looper after w') where
  lot_there : (other : ℕ) → other ≡ looper → lot w' other ≡ after
  lot_there other e = ap (lot w') e ∙ c.there

  -- ---- order
  pub order_still : ((other : ℕ) → HoldsInOrder w other) → Holds after → (other : ℕ) → HoldsInOrder w' other
  order_still before holds other =
      ⊎_elim
      (λ (e : other ≡ looper). in_order_of w' other (subst Holds (sym (lot_there other e)) holds))
      (λ (ne : other ≢ looper). in_order_of w' other (subst Holds (sym (c.elsewhere other ne)) (holds_of w other (before other))))
      (cases_eq other looper)

  -- ---- places at other loopers
  pub elsewhere_back : (n : ℕ) (place : Place) → looper_of place ≢ looper → IsAt w' n place → IsAt w n place
  elsewhere_back n place ne at = same_lot_at w' w n place (c.elsewhere (looper_of place) ne) at

  pub elsewhere_still : (n : ℕ) (place : Place) → looper_of place ≢ looper → IsAt w n place → IsAt w' n place
  elsewhere_still n place ne at = same_lot_at w w' n place (sym (c.elsewhere (looper_of place) ne)) at

  -- ---- places at that looper
  pub there_after : (n : ℕ) (here : Here) (position : ℕ) → Sits after n here position → IsAt w' n (place_of looper here position)
  there_after n here position there = is_at w' n looper here position (subst (λ (l : Lot). Sits l n here position) (sym c.there) there)

  lot_of_place : (n : ℕ) (place : Place) → looper_of place ≡ looper → IsAt w n place → Sits (lot w looper) n (here_of place) (position_of place)
  lot_of_place n place e at = subst (λ (l : ℕ). Sits (lot w l) n (here_of place) (position_of place)) e (sits w n place at)

  after_of_place : (n : ℕ) (place : Place) → looper_of place ≡ looper → IsAt w' n place → Sits after n (here_of place) (position_of place)
  after_of_place n place e at = subst (λ (l : Lot). Sits l n (here_of place) (position_of place)) (lot_there (looper_of place) e) (sits w' n place at)

  -- where a slot is now, told of that looper's and of the others'
  pub back_by
      : (n : ℕ) (T : Place → Type 0) → ((place : Place) → looper_of place ≢ looper → IsAt w n place → T place)
      → ((here : Here) (position : ℕ) → Sits after n here position → T (place_of looper here position)) → (place : Place) → IsAt w' n place → T place
  back_by n T others own place at =
      ⊎_elim
      (λ (e : looper_of place ≡ looper). at_place T place looper e (own (here_of place) (position_of place) (after_of_place n place e at)))
      (λ (ne : looper_of place ≢ looper). others place ne (elsewhere_back n place ne at))
      (cases_eq (looper_of place) looper)

  -- where a slot that was at a place is now
  pub go_by
      : (n : ℕ) → ((here : Here) (position : ℕ) → Sits (lot w looper) n here position → (later : Here) × Sits after n later position)
      → (place : Place) → IsAt w n place → (other : Place) × IsAt w' n other
  go_by n own place at =
      ⊎_elim
      (λ (e : looper_of place ≡ looper).
      let t = own (here_of place) (position_of place) (lot_of_place n place e at) in
      (place_of looper t.0 (position_of place), there_after n t.0 (position_of place) t.1))
      (λ (ne : looper_of place ≢ looper). (place, elsewhere_still n place ne at))
      (cases_eq (looper_of place) looper)

  -- and stays there
  pub still_by
      : (n : ℕ) → ((here : Here) (position : ℕ) → Sits (lot w looper) n here position → Sits after n here position) → (place : Place) → IsAt w n place → IsAt w' n place
  still_by n own place at =
      ⊎_elim
      (λ (e : looper_of place ≡ looper).
      at_place (λ (p : Place). IsAt w' n p) place looper e
      (there_after n (here_of place) (position_of place) (own (here_of place) (position_of place) (lot_of_place n place e at))))
      (λ (ne : looper_of place ≢ looper). elsewhere_still n place ne at)
      (cases_eq (looper_of place) looper)

  -- a slot that was at one place of that looper, and is there no more, is nowhere
  pub emptied_by
      : IsSound w → (n : ℕ) (here : Here) (position : ℕ) → Sits (lot w looper) n here position
      → ((other : Here) (place : ℕ) → Sits after n other place → Sits (lot w looper) n other place × (other ≡ here → position ≡ place → ⊥))
      → (place : Place) → IsAt w' n place → ⊥
  emptied_by sound n here position was back place at =
      let there : IsAt w n (place_of looper here position) = is_at w n looper here position was in
      back_by n (λ (p : Place). ⊥)
      (λ other ne now.
      let same : place_of looper here position ≡ other = sound.once n (place_of looper here position) other there now in
      ne (sym (ap looper_of same) ∙ looper_there looper here position))
      (λ other at_position now.
      let t = back other at_position now in
      let same : place_of looper here position ≡ place_of looper other at_position =
      sound.once n (place_of looper here position) (place_of looper other at_position) there (is_at w n looper other at_position t.0) in
      t.1
      (sym (here_there looper other at_position) ∙ ap here_of (sym same) ∙ here_there looper here position)
      (sym (position_there looper here position) ∙ ap position_of same ∙ position_there looper other at_position))
      place at

  -- ---- what was written
  module _ (same : after.port.written ≡ (w.objects.ports looper).written) where
    written_at : (other : ℕ) → (w'.objects.ports other).written ≡ (w.objects.ports other).written
    written_at other =
        ⊎_elim
        (λ (e : other ≡ looper).
        ap (λ (l : Lot). l.port.written) (lot_there other e) ∙ same ∙ ap (λ (k : ℕ). (w.objects.ports k).written) (sym e))
        (λ (ne : other ≢ looper). ap (λ (l : Lot). l.port.written) (c.elsewhere other ne))
        (cases_eq other looper)

    pub accepts_still : (n number position : ℕ) → Accepts w n number position → Accepts w' n number position
    accepts_still n number position is = record {
      item = is.item;
      there = ap (λ (items : List ItemData). slice_get items position) (written_at number) ∙ is.there;
      owes = is.owes;
    }

    pub written_back : (n : ℕ) → IsWritten w' n → IsWritten w n
    written_back n is = record {
      looper = is.looper;
      position = is.position;
      accepts = record {
        item = is.accepts.item;
        there = ap (λ (items : List ItemData). slice_get items is.position) (sym (written_at is.looper)) ∙ is.accepts.there;
        owes = is.accepts.owes;
      };
    }

  -- one item more was written
  module _ (item : ItemData) (more : after.port.written ≡ (w.objects.ports looper).written ++ item ∷ []) where
    written_there : (w'.objects.ports looper).written ≡ (w.objects.ports looper).written ++ item ∷ []
    written_there = ap (λ (l : Lot). l.port.written) c.there ∙ more

    pub accepts_more : (n number position : ℕ) → Accepts w n number position → Accepts w' n number position
    accepts_more n number position is =
        let at : (other : ℕ) → slice_get (w.objects.ports other).written position ≡ Some is.item → slice_get (w'.objects.ports other).written position ≡ Some is.item = λ other there.
        ⊎_elim
        (λ (e : other ≡ looper).
        let here : slice_get (w.objects.ports looper).written position ≡ Some is.item = ap (λ (k : ℕ). slice_get (w.objects.ports k).written position) (sym e) ∙ there in
        ap (λ (k : ℕ). slice_get (w'.objects.ports k).written position) e
        ∙ ap (λ (items : List ItemData). slice_get items position) written_there
        ∙ get_left (w.objects.ports looper).written (item ∷ []) position (slice_get_within (w.objects.ports looper).written position is.item here)
        ∙ here)
        (λ (ne : other ≢ looper). ap (λ (l : Lot). slice_get l.port.written position) (c.elsewhere other ne) ∙ there)
        (cases_eq other looper) in
        record { item = is.item; there = at number is.there; owes = is.owes }

    pub written_or_new : (n : ℕ) → IsWritten w' n → IsWritten w n ⊎ (item.duty ≡ duty.Slot n)
    written_or_new n is =
        let now = is.accepts in
        let old : (other : ℕ) → slice_get (w.objects.ports other).written is.position ≡ Some now.item → IsWritten w n = λ other there.
        record { looper = other; position = is.position; accepts = record { item = now.item; there = there; owes = now.owes } } in
        ⊎_elim
        (λ (e : is.looper ≡ looper).
        let here : slice_get ((w.objects.ports looper).written ++ item ∷ []) is.position ≡ Some now.item =
        ap (λ (items : List ItemData). slice_get items is.position) (sym written_there)
        ∙ ap (λ (k : ℕ). slice_get (w'.objects.ports k).written is.position) (sym e)
        ∙ now.there in
        ⊎_elim
        (λ (t : slice_get (w.objects.ports looper).written is.position ≡ Some now.item). inl (old looper t))
        (λ (t : (is.position ≡ length (w.objects.ports looper).written) × (item ≡ now.item)). inr (ap (λ (i : ItemData). i.duty) t.1 ∙ now.owes))
        (get_push (w.objects.ports looper).written item now.item is.position here))
        (λ (ne : is.looper ≢ looper). inl (old is.looper (ap (λ (l : Lot). slice_get l.port.written is.position) (sym (c.elsewhere is.looper ne)) ∙ now.there)))
        (cases_eq is.looper looper)

  -- ---- the items of a step that writes none
  pub items_by
      : (entry : Entry) → ((n : ℕ) → ¬ (WritesSlot n entry)) → IsSound w → Holds after → after.port.written ≡ (w.objects.ports looper).written
      → ((n : ℕ) (here : Here) (position : ℕ) → Sits after n here position → Comes w entry n (place_of looper here position))
      → ((n : ℕ) → IsOpen w' n → (here : Here) (position : ℕ) → Sits (lot w looper) n here position → (later : Here) × Sits after n later position)
      → KeepsItems w entry w'
  items_by entry none sound holds same back forth = record {
    holds = order_still sound.holds holds;
    come = λ n place at. back_by n (Comes w entry n) (λ other ne there. stays other there (none n)) (back n) place at;
    go = λ n place at opened. go_by n (forth n opened) place at;
    accepted = λ n number position is. accepts_still same n number position is;
    unwritten = λ n is. inl (written_back same n is);
  }

  -- and where nothing of that looper's comes to another place
  pub items_staying
      : (entry : Entry) → ((n : ℕ) → ¬ (WritesSlot n entry)) → IsSound w → Holds after → after.port.written ≡ (w.objects.ports looper).written
      → ((n : ℕ) (here : Here) (position : ℕ) → Sits after n here position → Sits (lot w looper) n here position)
      → ((n : ℕ) → IsOpen w' n → (here : Here) (position : ℕ) → Sits (lot w looper) n here position → Sits after n here position)
      → KeepsItems w entry w'
  items_staying entry none sound holds same back forth =
      items_by entry none sound holds same
      (λ n here position there. stays (place_of looper here position) (is_at w n looper here position (back n here position there)) (none n))
      (λ n opened here position there. (here, forth n opened here position there))

-- ---- nothing changes
pub items_same : (w : World) (entry : Entry) (w' : World) → ((n : ℕ) → ¬ (WritesSlot n entry)) → IsSound w → Changes w 0 (lot w 0) w' → KeepsItems w entry w'
items_same w entry w' none sound c =
    items_staying w 0 (lot w 0) w' c entry none sound (holds_of w 0 (sound.holds 0)) refl (λ n here position there. there) (λ n opened here position there. there)

pub same_back : (w w' : World) → Changes w 0 (lot w 0) w' → (n : ℕ) (place : Place) → IsAt w' n place → IsAt w n place
same_back w w' c n place at = back_by w 0 (lot w 0) w' c n (λ (p : Place). IsAt w n p) (λ other ne there. there) (λ here position there. is_at w n 0 here position there) place at
