-- Lists at a place, and what a thread noted up to one of its entries.
use Rattle.std.proofs.Common.{◌≡◌, ◌≢◌, ◌⊎◌, ◌==◌, ℕ, zero, suc, ◌+◌, ◌≤◌, List, [], ◌∷◌, ◌++◌, length, drop, get_or, cond, Some, refl, sym, ap, ◌∙◌, inl, inr, arith, append_assoc, append-nil, length-drop, eq-eqb, ne_eqb}
use Rattle.std.specs.Prelude.{slice_get}
use Rattle.std.proofs.lemmas.List.{append_cancel_left}
use Rattle.std.proofs.lemmas.List.Elements.{filter-append}
use Rattle.std.proofs.lemmas.Option.{slice_get_within}
use mathlib.Core.Logic.{dite}
use native.Mathlib.Decide.{ℕ_discrete}
use Rattle.ak_turn.specs.Entries.{made_by}
use Rattle.ak_turn.specs.Noted.{Noted, note, noted_from}
use Rattle.ak_port.proofs.Surface.{get_left}

-- ---- lists
module _ {A : Type 0} where
  pub nil_no_cons : (xs : List A) (y : A) (ys : List A) → [] ≡ xs ++ y ∷ ys → ⊥
  nil_no_cons [] y ys e = cc
  nil_no_cons (x ∷ xs) y ys e = cc

  -- the last things of two lists that are the same
  pub same_last : (xs : List A) (x y : A) → xs ++ x ∷ [] ≡ xs ++ y ∷ [] → x ≡ y
  same_last xs x y e = ap (λ l. get_or l 0 x) (append_cancel_left xs (x ∷ []) (y ∷ []) e)

  pub same_first : (x y : A) (xs ys : List A) → x ∷ xs ≡ y ∷ ys → x ≡ y
  same_first x y xs ys e = ap (λ l. get_or l 0 x) e

  pub same_rest : (x y : A) (xs ys : List A) → x ∷ xs ≡ y ∷ ys → xs ≡ ys
  same_rest x y xs ys e = ap (drop 1) e

  -- what stands in a front stands in the whole
  pub get_front : (xs ys : List A) (i : ℕ) (x : A) → slice_get xs i ≡ Some x → slice_get (xs ++ ys) i ≡ Some x
  get_front xs ys i x at = get_left xs ys i (slice_get_within xs i x at) ∙ at

  -- what stands at a place of two lists stands in one of them
  pub get_parts : (xs ys : List A) (i : ℕ) (x : A) → slice_get (xs ++ ys) i ≡ Some x → slice_get xs i ≡ Some x ⊎ ((j : ℕ) × (i ≡ length xs + j) × (slice_get ys j ≡ Some x))
  get_parts [] ys i x at = inr (i, omega arith, at)
  get_parts (y ∷ xs) ys zero x at = inl at
  get_parts (y ∷ xs) ys (suc i) x at = more y xs ys i x (get_parts xs ys i x at)
    where
      more : (y : A) (xs ys : List A) (i : ℕ) (x : A) → slice_get xs i ≡ Some x ⊎ ((j : ℕ) × (i ≡ length xs + j) × (slice_get ys j ≡ Some x))
          → slice_get xs i ≡ Some x ⊎ ((j : ℕ) × (suc i ≡ length (y ∷ xs) + j) × (slice_get ys j ≡ Some x))
      more y xs ys i x (inl there) = inl there
      more y xs ys i x (inr behind) = inr (behind.0, omega (arith, behind.1), behind.2)

  -- the first of those that are left behind n
  pub drop_get : (n : ℕ) (xs : List A) (y : A) (ys : List A) → drop n xs ≡ y ∷ ys → slice_get xs n ≡ Some y
  drop_get zero [] y ys e = absurd (cc e)
  drop_get zero (x ∷ xs) y ys e = ap Some (same_first x y xs ys e)
  drop_get (suc n) [] y ys e = absurd (cc e)
  drop_get (suc n) (x ∷ xs) y ys e = drop_get n xs y ys e

  -- where things are left behind n of them, n are not all
  pub more_than : (n : ℕ) (xs : List A) (y : A) (ys : List A) → drop n xs ≡ y ∷ ys → n + 1 ≤ length xs
  more_than n xs y ys e = omega (arith, length-drop n xs, ap (λ l. length l) e)

  pub no_more_than : (n : ℕ) (xs : List A) → drop n xs ≡ [] → length xs ≤ n
  no_more_than n xs e = omega (arith, length-drop n xs, ap (λ l. length l) e)

-- ---- one of the entries that a thread noted
module _ {L : Type 0} (by : L → ℕ) (thread : ℕ) where
  -- one of its own entries, among all of these
  pub own_split : (before : List L) (x : L) (behind : List L) → by x ≡ thread → made_by by thread (before ++ x ∷ behind) ≡ made_by by thread before ++ x ∷ made_by by thread behind
  own_split before x behind own =
      filter-append (λ entry. by entry == thread) before (x ∷ behind)
      ∙ ap (λ b. made_by by thread before ++ cond b (x ∷ made_by by thread behind) (made_by by thread behind)) (eq-eqb (by x) thread own)

  -- with all that stands before it, and behind it
  pub record StandsAt (before xs : List L) (mine : List (Noted L)) (n : Noted L) : Type 0 where
    pub middle : List L
    pub behind : List L
    pub whole : xs ≡ middle ++ n.entry ∷ behind
    pub before_is : n.before ≡ before ++ middle
    pub mine_is : mine ≡ noted_from by thread before middle

  from_own : (before : List L) (x : L) (xs : List L) → by x ≡ thread → noted_from by thread before (x ∷ xs) ≡ note before x ∷ noted_from by thread (before ++ x ∷ []) xs
  from_own before x xs own = ap (λ b. cond b (note before x ∷ noted_from by thread (before ++ x ∷ []) xs) (noted_from by thread (before ++ x ∷ []) xs)) (eq-eqb (by x) thread own)

  from_other : (before : List L) (x : L) (xs : List L) → by x ≢ thread → noted_from by thread before (x ∷ xs) ≡ noted_from by thread (before ++ x ∷ []) xs
  from_other before x xs other = ap (λ b. cond b (note before x ∷ noted_from by thread (before ++ x ∷ []) xs) (noted_from by thread (before ++ x ∷ []) xs)) (ne_eqb (by x) thread other)

  -- behind one entry more
  one_behind : (before : List L) (x : L) (xs : List L) (mine rest : List (Noted L)) (n : Noted L) → StandsAt (before ++ x ∷ []) xs rest n → mine ≡ noted_from by thread before (x ∷ []) ++ rest
      → ((ys : List L) → noted_from by thread before (x ∷ ys) ≡ noted_from by thread before (x ∷ []) ++ noted_from by thread (before ++ x ∷ []) ys)
      → StandsAt before (x ∷ xs) mine n
  one_behind before x xs mine rest n at is parts = record {
    middle = x ∷ at.middle;
    behind = at.behind;
    whole = ap (λ l. x ∷ l) at.whole;
    before_is = at.before_is ∙ append_assoc before (x ∷ []) at.middle;
    mine_is = is ∙ ap (λ l. noted_from by thread before (x ∷ []) ++ l) at.mine_is ∙ sym (parts at.middle);
  }

  own_parts : (before : List L) (x : L) → by x ≡ thread → (ys : List L) → noted_from by thread before (x ∷ ys) ≡ noted_from by thread before (x ∷ []) ++ noted_from by thread (before ++ x ∷ []) ys
  own_parts before x own ys = from_own before x ys own ∙ ap (λ l. l ++ noted_from by thread (before ++ x ∷ []) ys) (sym (from_own before x [] own))

  other_parts : (before : List L) (x : L) → by x ≢ thread → (ys : List L) → noted_from by thread before (x ∷ ys) ≡ noted_from by thread before (x ∷ []) ++ noted_from by thread (before ++ x ∷ []) ys
  other_parts before x other ys = from_other before x ys other ∙ ap (λ l. l ++ noted_from by thread (before ++ x ∷ []) ys) (sym (from_other before x [] other))

  -- where the first one is its own
  at_own : (before : List L) (x : L) (xs : List L) (mine : List (Noted L)) (n : Noted L) (rest : List (Noted L)) → by x ≡ thread
      → ((later : List (Noted L)) → noted_from by thread (before ++ x ∷ []) xs ≡ later ++ n ∷ rest → StandsAt (before ++ x ∷ []) xs later n)
      → note before x ∷ noted_from by thread (before ++ x ∷ []) xs ≡ mine ++ n ∷ rest → StandsAt before (x ∷ xs) mine n
  at_own before x xs [] n rest own deeper e =
      let is : note before x ≡ n = same_first (note before x) n (noted_from by thread (before ++ x ∷ []) xs) rest e in
      record {
        middle = [];
        behind = xs;
        whole = ap (λ (k : Noted L). k.entry ∷ xs) is;
        before_is = sym (ap (λ (k : Noted L). k.before) is) ∙ sym (append-nil before);
        mine_is = refl;
      }
  at_own before x xs (m ∷ mine) n rest own deeper e =
      let is : note before x ≡ m = same_first (note before x) m (noted_from by thread (before ++ x ∷ []) xs) (mine ++ n ∷ rest) e in
      let behind = same_rest (note before x) m (noted_from by thread (before ++ x ∷ []) xs) (mine ++ n ∷ rest) e in
      one_behind before x xs (m ∷ mine) mine n (deeper mine behind) (ap (λ l. l ++ mine) (ap (λ k. k ∷ []) (sym is) ∙ sym (from_own before x [] own))) (own_parts before x own)

  pub stands_at : (before xs : List L) (mine : List (Noted L)) (n : Noted L) (rest : List (Noted L)) → noted_from by thread before xs ≡ mine ++ n ∷ rest → StandsAt before xs mine n
  stands_at before [] mine n rest e = absurd (nil_no_cons mine n rest e)
  stands_at before (x ∷ xs) mine n rest e =
      dite (ℕ_discrete (by x) thread)
      (λ own. at_own before x xs mine n rest own (λ later is. stands_at (before ++ x ∷ []) xs later n rest is) (sym (from_own before x xs own) ∙ e))
      (λ other.
      one_behind before x xs mine mine n (stands_at (before ++ x ∷ []) xs mine n rest (sym (from_other before x xs other) ∙ e)) (ap (λ l. l ++ mine) (sym (from_other before x [] other)))
      (other_parts before x other))
