-- Whether a looper's thread has a door, by the doors that it is held to have.
use Rattle.std.proofs.Common.{◌≡◌, ◌≢◌, ℕ, ◌+◌, ◌-◌, ◌<◌, ◌≤◌, inl, inr, Bool, true, false, cond, List, [], ◌∷◌, ◌++◌, length, map, get_or, find, position, All, Contains, Option, None, Some, is_some, nat_le, nat_lt, ◌==◌, ◌&&◌, ◌||◌, refl, sym, ap, ◌∙◌, subst, length-append, get_or-append-add, eq-eqb, ne_eqb, lt-ltb, ltb-true, leb-true, le-leb, arith}
use Rattle.std.specs.List.{list_any, range_with_len}
use Rattle.std.proofs.lemmas.Bool.{and_from, and_parts, cases_Bool, cond-true, cond-false, eqb-true, eqb-false, false_from_ne_true, or_left, or_right}
use Rattle.std.proofs.lemmas.List.{get_or_append_left}
use Rattle.std.proofs.lemmas.List.Elements.{All-contains, All-cons, All-nil, All-weaker, Contains-append_cases, Contains-append_left}
use Rattle.std.proofs.lemmas.List.Folds.{list_any_at, list_any_none}
use Rattle.std.proofs.lemmas.List.FromFn.{get_or-range_with_len, length-range_with_len}
use Rattle.ak_base.proofs.Surface.{is_some-position, position-map}
use Rattle.ak_diary.specs.Looper.{LooperFacts, doors_got, has_door, is_kept, is_of_team, is_own}
use Rattle.ak_diary.specs.Step.{Step}
use Rattle.ak_diary.specs.Wants.{GetsDoor, Opens, OpensFor}
use Rattle.ak_looper.specs.declared.door.Door.{Door}
use Rattle.ak_looper.specs.Stands.{doors_kept}

-- ---- lists
pub All-right : {X : Type 0} (P : X → Type 0) (xs ys : List X) → All P (xs ++ ys) → All P ys
All-right P xs ys all = λ k d lt. subst P (get_or-append-add xs ys k d) (all (length xs + k) d (omega (arith, length-append xs ys, lt)))

pub All-left : {X : Type 0} (P : X → Type 0) (xs ys : List X) → All P (xs ++ ys) → All P xs
All-left P xs ys all = λ k d lt. subst P (get_or_append_left xs ys d k lt) (all k d (omega (arith, length-append xs ys, lt)))

-- a range has just the numbers from its first on
range_has : (first n number : ℕ) → first ≤ number → number < first + n → Contains (range_with_len first n) number
range_has first n number low high =
    let within : number - first < n = omega arith in
    let here : first + (number - first) ≡ number = omega arith in
    (number - first, omega (arith, length-range_with_len first n, within), get_or-range_with_len first n (number - first) number within ∙ here)

in_range : (first n number : ℕ) → Contains (range_with_len first n) number → (first ≤ number) × (number < first + n)
in_range first n number there =
    let within : there.0 < n = omega (arith, length-range_with_len first n, there.1) in
    let is : first + there.0 ≡ number = sym (get_or-range_with_len first n there.0 number within) ∙ there.2 in
    (omega arith, omega arith)

-- ---- what a search that found nothing tells
none_first : {X : Type 0} (b : Bool) (x : X) (o : Option X) → cond b (Some x) o ≡ None → (b ≡ false) × (o ≡ None)
none_first true x o e = absurd (cc)
none_first false x o e = (refl, e)

none_found : {X : Type 0} (p : X → Bool) (xs : List X) → find p xs ≡ None → All (λ x. p x ≡ false) xs
none_found p [] e = All-nil (λ x. p x ≡ false)
none_found p (x ∷ xs) e =
    let parts = none_first (p x) x (find p xs) e in
    All-cons (λ y. p y ≡ false) x xs parts.0 (none_found p xs parts.1)

none_too : {X : Type 0} (a : Option ℕ) (b : Option X) → is_some a ≡ is_some b → a ≡ None → b ≡ None
none_too a None same e = refl
none_too a (Some x) same e =
    let no : false ≡ true = ap is_some (sym e) ∙ same in
    absurd (cc)

pub none_placed : {X : Type 0} (p : X → Bool) (xs : List X) → position p xs ≡ None → All (λ x. p x ≡ false) xs
none_placed p xs e = none_found p xs (none_too (position p xs) (find p xs) (is_some-position p xs) e)

-- no door is that looper's
pub no_number : (looper : ℕ) (doors : List (ℕ × Door)) → position (λ door. door.0 == looper) doors ≡ None → All (λ number. number ≢ looper) (map (λ (door : ℕ × Door). door.0) doors)
no_number looper doors e =
    All-weaker (λ (number : ℕ). (number == looper) ≡ false) (λ number. number ≢ looper) (λ number other same. eqb-false number looper other same) (map (λ (door : ℕ × Door). door.0) doors)
    (none_placed (λ (number : ℕ). number == looper) (map (λ (door : ℕ × Door). door.0) doors) (position-map (λ (door : ℕ × Door). door.0) (λ (number : ℕ). number == looper) doors ∙ e))

-- ---- whether it has the door
-- its own
pub has_own : (l : LooperFacts) (so_far : List Step) (looper : ℕ) → looper ≡ l.number → has_door l so_far looper ≡ true
has_own l so_far looper is =
    or_left (is_kept l looper) (list_any (λ got. got == looper) (doors_got so_far)) (or_left (looper == l.number) (is_own l && is_of_team l looper) (eq-eqb looper l.number is))

any_equal : (numbers : List ℕ) (number : ℕ) → Contains numbers number → list_any (λ got. got == number) numbers ≡ true
any_equal numbers number there = list_any_at (λ got. got == number) numbers there.0 number there.1 (eq-eqb (get_or numbers there.0 number) number there.2)

nothing_in : (number : ℕ) → Contains [] number → ⊥
nothing_in number there = omega (arith, there.1)

or_both : (a b : Bool) → a ≡ false → b ≡ false → (a || b) ≡ false
or_both true b first second = absurd (cc)
or_both false b first second = second

module _ (l : LooperFacts) (looper : ℕ) where
  pub of_team_is : l.first ≤ looper → looper < l.first + l.loopers → is_of_team l looper ≡ true
  of_team_is low high = and_from (nat_le l.first looper) (nat_lt looper (l.first + l.loopers)) (le-leb l.first looper low) (lt-ltb looper (l.first + l.loopers) high)

  pub of_team_has : is_of_team l looper ≡ true → (l.first ≤ looper) × (looper < l.first + l.loopers)
  of_team_has of =
      let parts = and_parts (nat_le l.first looper) (nat_lt looper (l.first + l.loopers)) of in
      (leb-true l.first looper parts.0, ltb-true looper (l.first + l.loopers) parts.1)

  -- the doors of its team, where it is the application's own
  kept_is : is_own l ≡ true → doors_kept l ≡ range_with_len (l.first + 1) (l.loopers - 1)
  kept_is own = cond-true (is_own l) (range_with_len (l.first + 1) (l.loopers - 1)) [] own

  kept_none : is_own l ≡ false → doors_kept l ≡ []
  kept_none other = cond-false (is_own l) (range_with_len (l.first + 1) (l.loopers - 1)) [] other

  -- it is of the team, where it is among those
  kept_of_team : is_own l ≡ true → Contains (doors_kept l) looper → is_of_team l looper ≡ true
  kept_of_team own there =
      let in' = in_range (l.first + 1) (l.loopers - 1) looper (subst (λ (ns : List ℕ). Contains ns looper) (kept_is own) there) in
      of_team_is (omega arith) (omega arith)

  -- it is among those, where it is of the team and another one
  pub team_has_doors : is_own l ≡ true → is_of_team l looper ≡ true → looper ≢ l.number → Contains (doors_kept l) looper
  team_has_doors own of other =
      let in' = of_team_has of in
      let first : l.number ≡ l.first = eqb-true l.number l.first own in
      let past : looper ≢ l.first = λ e. other (e ∙ sym first) in
      subst (λ (ns : List ℕ). Contains ns looper) (sym (kept_is own)) (range_has (l.first + 1) (l.loopers - 1) looper (omega arith) (omega arith))

  kept_has : Contains (doors_kept l) looper → is_kept l looper ≡ true
  kept_has there =
      elim (cases_Bool (is_own l)) [
        | inl own ↦ or_right (looper == l.number) (is_own l && is_of_team l looper) (and_from (is_own l) (is_of_team l looper) own (kept_of_team own there))
        | inr other ↦ absurd (nothing_in looper (subst (λ (ns : List ℕ). Contains ns looper) (kept_none other) there))
      ]

  kept_not : looper ≢ l.number → (Contains (doors_kept l) looper → ⊥) → is_kept l looper ≡ false
  kept_not other none =
      or_both (looper == l.number) (is_own l && is_of_team l looper) (ne_eqb looper l.number other)
      (false_from_ne_true (is_own l && is_of_team l looper) (λ both. let parts = and_parts (is_own l) (is_of_team l looper) both in none (team_has_doors parts.0 parts.1 other)))

  -- one of the doors that it has beside its own
  pub has_other : (so_far : List Step) → Contains (doors_kept l ++ doors_got so_far) looper → has_door l so_far looper ≡ true
  has_other so_far there =
      elim (Contains-append_cases (doors_kept l) (doors_got so_far) looper there) [
        | inl kept ↦ or_left (is_kept l looper) (list_any (λ got. got == looper) (doors_got so_far)) (kept_has kept)
        | inr got ↦ or_right (is_kept l looper) (list_any (λ got. got == looper) (doors_got so_far)) (any_equal (doors_got so_far) looper got)
      ]

  -- none
  pub has_none : (so_far : List Step) → looper ≢ l.number → All (λ number. number ≢ looper) (doors_kept l ++ doors_got so_far) → has_door l so_far looper ≡ false
  has_none so_far other none =
      or_both (is_kept l looper) (list_any (λ got. got == looper) (doors_got so_far))
      (kept_not other (λ there. All-contains (λ number. number ≢ looper) (doors_kept l ++ doors_got so_far) looper none (Contains-append_left (doors_kept l) (doors_got so_far) looper there) refl))
      (list_any_none (λ got. got == looper) (doors_got so_far)
      (All-weaker (λ number. number ≢ looper) (λ got. (got == looper) ≡ false) (λ number differs. ne_eqb number looper differs) (doors_got so_far) (All-right (λ number. number ≢ looper) (doors_kept l) (doors_got so_far) none)))

-- ---- the way is open
pub opens_none : (l : LooperFacts) (so_far : List Step) (looper : ℕ) → has_door l so_far looper ≡ true → Opens l so_far looper []
opens_none l so_far looper has = subst (λ (b : Bool). OpensFor l so_far b looper []) (sym has) refl

pub opens_now : (l : LooperFacts) (so_far : List Step) (looper : ℕ) (steps : List Step) → has_door l so_far looper ≡ false → GetsDoor looper steps → Opens l so_far looper steps
opens_now l so_far looper steps none gets = subst (λ (b : Bool). OpensFor l so_far b looper steps) (sym none) gets
