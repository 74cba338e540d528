-- Where an item that owes a slot came to rest: its looper dispatched it and did not send it on, or left it.
use Rattle.std.proofs.Common.{◌≡◌, ◌⊎◌, ℕ, ◌+◌, ◌≤◌, ◌&&◌, not, Bool, true, List, [], ◌∷◌, ◌++◌, length, take, Some, slice_get, refl, sym, ap, ◌∙◌, ⊎_elim, arith, take_at}
use Rattle.ak_flatten.specs.declared.item.Taken.{Taken}
use Rattle.ak_desk.specs.Entry.{EntryData}
use Rattle.ak_desk.specs.Machine.{dispatches}
use Rattle.ak_headline.specs.Answers.{owes}
use Rattle.ak_headline.specs.Tally.{kept_in, owes_at, owing_in, was_sent_on}
use Rattle.ak_headline.proofs.Counts.{same_place, there_counts}

-- the entry for the item at that position keeps what is owed, where the port accepted these
pub record KeepsAt (n : ℕ) (accepted : List Taken) (desk : List EntryData) (position : ℕ) : Type 0 where
  pub before : List EntryData
  pub entry : EntryData
  pub behind : List EntryData
  pub there : desk ≡ before ++ entry ∷ behind
  pub keeps : (owes_at n accepted entry.plain.event && not (was_sent_on entry)) ≡ true
  pub position_is : position ≡ dispatches before

-- the item at that position is left, and owes it
pub record LeavesAt (n : ℕ) (left : List Taken) (position : ℕ) : Type 0 where
  pub place : ℕ
  pub taken : Taken
  pub there : slice_get left place ≡ Some taken
  pub owed : owes n taken.item.duty ≡ true
  pub position_is : taken.position ≡ position

abbrev pub RestsAt : ℕ → List Taken → List EntryData → List Taken → ℕ → Type 0
RestsAt n accepted desk left position = KeepsAt n accepted desk position ⊎ LeavesAt n left position

pub get_middle : {X : Type 0} (xs : List X) (y : X) (ys : List X) → slice_get (xs ++ y ∷ ys) (length xs) ≡ Some y
get_middle [] y ys = refl
get_middle (x ∷ xs) y ys = get_middle xs y ys

module _ (n : ℕ) (accepted : List Taken) (desk : List EntryData) (left : List Taken) where
  abbrev keeps_it : EntryData → Bool
  keeps_it entry = owes_at n accepted entry.plain.event && not (was_sent_on entry)

  abbrev owes_it : Taken → Bool
  owes_it taken = owes n taken.item.duty

  kept_there : (position : ℕ) → (k : KeepsAt n accepted desk position) → slice_get desk (length k.before) ≡ Some k.entry
  kept_there position k = ap (λ l. slice_get l (length k.before)) k.there ∙ get_middle k.before k.entry k.behind

  kept_counts : (position : ℕ) → KeepsAt n accepted desk position → 1 ≤ kept_in n accepted desk
  kept_counts position k = there_counts keeps_it desk (length k.before) k.entry (kept_there position k) k.keeps

  left_counts : (position : ℕ) → LeavesAt n left position → 1 ≤ owing_in n left
  left_counts position k = there_counts owes_it left k.place k.taken k.there k.owed

  pub rests_counts : (position : ℕ) → RestsAt n accepted desk left position → 1 ≤ kept_in n accepted desk + owing_in n left
  rests_counts position r = ⊎_elim (λ (k : KeepsAt n accepted desk position). omega (arith, kept_counts position k)) (λ (k : LeavesAt n left position). omega (arith, left_counts position k)) r

  -- ---- where there is one at most, it is at one position
  kept_once : (a b : ℕ) → kept_in n accepted desk ≤ 1 → KeepsAt n accepted desk a → KeepsAt n accepted desk b → a ≡ b
  kept_once a b few k m =
      let long : length k.before ≡ length m.before = same_place keeps_it desk (length k.before) (length m.before) k.entry m.entry few (kept_there a k) k.keeps (kept_there b m) m.keeps in
      let front : k.before ≡ m.before =
      sym (take_at k.before (k.entry ∷ k.behind) (length k.before) refl) ∙ ap (take (length k.before)) (sym k.there ∙ m.there)
      ∙ take_at m.before (m.entry ∷ m.behind) (length k.before) (sym long) in
      k.position_is ∙ ap dispatches front ∙ sym m.position_is

  left_once : (a b : ℕ) → owing_in n left ≤ 1 → LeavesAt n left a → LeavesAt n left b → a ≡ b
  left_once a b few k m =
      let at : k.place ≡ m.place = same_place owes_it left k.place m.place k.taken m.taken few k.there k.owed m.there m.owed in
      let both : Some k.taken ≡ Some m.taken = sym k.there ∙ ap (slice_get left) at ∙ m.there in
      let same : k.taken ≡ m.taken = cc both in
      sym k.position_is ∙ ap (λ (t : Taken). t.position) same ∙ m.position_is

  pub rests_once : (a b : ℕ) → kept_in n accepted desk + owing_in n left ≤ 1 → RestsAt n accepted desk left a → RestsAt n accepted desk left b → a ≡ b
  rests_once a b few r s =
      ⊎_elim
      (λ (k : KeepsAt n accepted desk a).
      ⊎_elim (λ (m : KeepsAt n accepted desk b). kept_once a b (omega (arith, few)) k m) (λ (m : LeavesAt n left b). absurd (omega (arith, few, kept_counts a k, left_counts b m))) s)
      (λ (k : LeavesAt n left a).
      ⊎_elim (λ (m : KeepsAt n accepted desk b). absurd (omega (arith, few, left_counts a k, kept_counts b m))) (λ (m : LeavesAt n left b). left_once a b (omega (arith, few)) k m) s)
      r
