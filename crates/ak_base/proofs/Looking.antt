-- Looking up in a list: in its images, and what is found.
use Rattle.std.proofs.Common.{◌≡◌, ◌+◌, Bool, true, false, cond, not, List, [], ◌∷◌, length, map, find, position, option_map, Option, None, Some, IfSome, All, is_some, nat_lt, ℕ, refl, sym, ap, ◌∙◌, ◌<◌, one-add, ltb-true, lt-ltb, arith}
use Prim.Native.Nat.compare
use Rattle.std.specs.List.{position_or_len}
use Rattle.std.proofs.lemmas.Bool.{cond_both}
use Rattle.std.proofs.lemmas.List.{length-map}
use Rattle.std.proofs.lemmas.List.Elements.{All-head, All-tail}

module _ {A B : Type 0} (f : A → B) (p : B → Bool) where
  either : (b : Bool) (x : A) (o : Option A) → cond b (Some (f x)) (option_map f o) ≡ option_map f (cond b (Some x) o)
  either true x o = refl
  either false x o = refl

  pub find-map : (xs : List A) → find p (map f xs) ≡ option_map f (find (λ x. p (f x)) xs)
  find-map [] = refl
  find-map (x ∷ xs) = ap (λ o. cond (p (f x)) (Some (f x)) o) (find-map xs) ∙ either (p (f x)) x (find (λ x. p (f x)) xs)

  pub position_or_len-map : (xs : List A) → position_or_len p (map f xs) ≡ position_or_len (λ x. p (f x)) xs
  position_or_len-map [] = refl
  position_or_len-map (x ∷ xs) = ap (λ n. cond (not (p (f x))) (1 + n) 0) (position_or_len-map xs)

  pub position-map : (xs : List A) → position p (map f xs) ≡ position (λ x. p (f x)) xs
  position-map xs =
      ap (λ n. cond (nat_lt n (length (map f xs))) (Some n) None) (position_or_len-map xs) ∙ ap (λ n. cond (nat_lt (position_or_len (λ x. p (f x)) xs) n) (Some (position_or_len (λ x. p (f x)) xs)) None) (length-map xs f)

module _ {X : Type 0} (p : X → Bool) where
  if_found : (P : X → Type 0) (b : Bool) (x : X) (o : Option X) → P x → IfSome o P → IfSome (cond b (Some x) o) P
  if_found P true x o h rest = h
  if_found P false x o h rest = rest

  -- what holds of each holds of the one that is found
  pub find-All : (P : X → Type 0) (xs : List X) → All P xs → IfSome (find p xs) P
  find-All P [] h = tt
  find-All P (x ∷ xs) h = if_found P (p x) x (find p xs) (All-head P x xs h) (find-All P xs (All-tail P x xs h))

module _ {X : Type 0} (p : X → Bool) where
  -- ---- that it stands somewhere is that it is found
  found_behind : (b : Bool) (x : X) (xs : List X) → p x ≡ b → is_some (find p xs) ≡ nat_lt (position_or_len p xs) (length xs) → is_some (find p (x ∷ xs)) ≡ nat_lt (position_or_len p (x ∷ xs)) (length (x ∷ xs))
  found_behind true x xs is rest = rw is (sym (lt-ltb 0 (length (x ∷ xs)) (omega arith)))
  found_behind false x xs is rest = rw (is, one-add, compare.suc-suc) rest

  found_if_placed : (xs : List X) → is_some (find p xs) ≡ nat_lt (position_or_len p xs) (length xs)
  found_if_placed [] = refl
  found_if_placed (x ∷ xs) = found_behind (p x) x xs refl (found_if_placed xs)

  some_place : (b : Bool) (n : ℕ) → is_some (cond b (Some n) None) ≡ b
  some_place true n = refl
  some_place false n = refl

  pub is_some-position : (xs : List X) → is_some (position p xs) ≡ is_some (find p xs)
  is_some-position xs =
      some_place (nat_lt (position_or_len p xs) (length xs)) (position_or_len p xs) ∙ sym (found_if_placed xs)

  pub position-within : (xs : List X) → IfSome (position p xs) (λ i. i < length xs)
  position-within xs =
      cond_both (nat_lt (position_or_len p xs) (length xs)) (Some (position_or_len p xs)) None (λ o. IfSome o (λ i. i < length xs)) (λ e. ltb-true _ _ e) (λ _. tt)
