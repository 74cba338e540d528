-- Items that are added one by one, up to a limit, give the list of all of them if these are not too many, and else nothing.
use Rattle.std.proofs.Common.{◌≡◌, ℕ, ◌≤◌, Bool, true, false, cond, ltb, leb, List, [], ◌∷◌, ◌++◌, length, refl, sym, ap, ◌∙◌, append_assoc, arith}
use Rattle.std.proofs.lemmas.Bool.{le-leb, lt-leb, ltb-true, ltb-false}
use Rattle.std.proofs.lemmas.List.{append-nil, length-append}
use Rattle.ak_base.specs.declared.limited.Limited.{Limited}
use Rattle.ak_base.specs.declared.limited.Limited.TheVariants.{Within, Over}
use Rattle.ak_input.specs.Said.{onto_all, at_most}

-- one item more, if there is room for it
abbrev pub pushed : {A : Type 0} → ℕ → Limited (List A) → Limited A → Limited (List A)
pushed limit Over x = Over
pushed limit (Within xs) Over = Over
pushed limit (Within xs) (Within x) = cond (ltb (length xs) limit) (Within (xs ++ x ∷ [])) Over

-- more items after those that are there
abbrev pub behind : {A : Type 0} → List A → Limited (List A) → Limited (List A)
behind xs Over = Over
behind xs (Within ys) = Within (xs ++ ys)

pub nothing_before : {A : Type 0} (xs : Limited (List A)) → behind [] xs ≡ xs
nothing_before Over = refl
nothing_before (Within xs) = refl

one_before : {A : Type 0} (xs : List A) (x : A) (ys : Limited (List A)) → behind (xs ++ x ∷ []) ys ≡ behind xs (onto_all (Within x) ys)
one_before xs x Over = refl
one_before {A = A} xs x (Within ys) = ap within (append_assoc xs (x ∷ []) ys) where
  within : List A → Limited (List A)
  within zs = Within zs

too_many : {A : Type 0} (limit : ℕ) (xs : List A) (x : A) (ys : Limited (List A)) → limit ≤ length xs → at_most limit (behind xs (onto_all (Within x) ys)) ≡ Over
too_many limit xs x Over full = refl
too_many limit xs x (Within ys) full =
    let long : leb (length (xs ++ x ∷ ys)) limit ≡ false = lt-leb (length (xs ++ x ∷ ys)) limit (omega (arith, length-append xs (x ∷ ys))) in
    rw long refl

module _ {A B : Type 0} (of : B → Limited A) where
  abbrev pub all_of : List B → Limited (List A)
  all_of [] = Within []
  all_of (b ∷ bs) = onto_all (of b) (all_of bs)

  abbrev pub pushed_all : ℕ → Limited (List A) → List B → Limited (List A)
  pushed_all limit xs [] = xs
  pushed_all limit xs (b ∷ bs) = pushed_all limit (pushed limit xs (of b)) bs

  pub stays_over : (limit : ℕ) (bs : List B) → pushed_all limit Over bs ≡ Over
  stays_over limit [] = refl
  stays_over limit (b ∷ bs) = stays_over limit bs

  one_pushed : (limit : ℕ) (bs : List B) (xs : List A) (x : Limited A) → length xs ≤ limit
      → ((ys : List A) → length ys ≤ limit → pushed_all limit (Within ys) bs ≡ at_most limit (behind ys (all_of bs)))
      → pushed_all limit (pushed limit (Within xs) x) bs ≡ at_most limit (behind xs (onto_all x (all_of bs)))
  one_pushed limit bs xs Over few later = stays_over limit bs
  one_pushed limit bs xs (Within x) few later = by_room (ltb (length xs) limit) refl where
    by_room : (room : Bool) → ltb (length xs) limit ≡ room → pushed_all limit (cond (ltb (length xs) limit) (Within (xs ++ x ∷ [])) Over) bs ≡ at_most limit (behind xs (onto_all (Within x) (all_of bs)))
    by_room true is =
        let grown : length (xs ++ x ∷ []) ≤ limit = omega (arith, length-append xs (x ∷ []), ltb-true (length xs) limit is) in
        ap (λ (t : Bool). pushed_all limit (cond t (Within (xs ++ x ∷ [])) Over) bs) is ∙ later (xs ++ x ∷ []) grown ∙ ap (λ (ys : Limited (List A)). at_most limit ys) (one_before xs x (all_of bs))
    by_room false is =
        ap (λ (t : Bool). pushed_all limit (cond t (Within (xs ++ x ∷ [])) Over) bs) is ∙ stays_over limit bs ∙ sym (too_many limit xs x (all_of bs) (ltb-false (length xs) limit is))

  pub pushed_is : (limit : ℕ) (bs : List B) (xs : List A) → length xs ≤ limit → pushed_all limit (Within xs) bs ≡ at_most limit (behind xs (all_of bs))
  pushed_is limit [] xs few = let short : leb (length (xs ++ [])) limit ≡ true = le-leb (length (xs ++ [])) limit (omega (arith, length-append xs [])) in rw (short, append-nil xs) refl
  pushed_is limit (b ∷ bs) xs few = one_pushed limit bs xs (of b) few (λ ys le. pushed_is limit bs ys le)

  -- starting from the empty list
  pub gathered_is : (limit : ℕ) (bs : List B) → pushed_all limit (Within []) bs ≡ at_most limit (all_of bs)
  gathered_is limit bs = pushed_is limit bs [] (omega arith) ∙ ap (λ (ys : Limited (List A)). at_most limit ys) (nothing_before (all_of bs))
