-- How many things of a list meet a test, and which.
use Rattle.std.proofs.Common.{◌≡◌, ℕ, zero, suc, ◌+◌, ◌≤◌, Bool, true, false, cond, List, [], ◌∷◌, ◌++◌, length, map, filter, Contains, Some, slice_get, length-append, append_assoc, refl, sym, ap, ◌∙◌, arith}
use Rattle.std.proofs.lemmas.List.Elements.{filter-append}
use Rattle.ak_headline.specs.Tally.{how_many}

-- 1 where it is so
abbrev pub one_if : Bool → ℕ
one_if b = cond b 1 0

module _ {X : Type 0} where
  long_if : (b : Bool) (x : X) (xs : List X) → length (cond b (x ∷ xs) xs) ≡ one_if b + length xs
  long_if true x xs = omega arith
  long_if false x xs = omega arith

  pub how_many-cons : (test : X → Bool) (x : X) (xs : List X) → how_many test (x ∷ xs) ≡ one_if (test x) + how_many test xs
  how_many-cons test x xs = long_if (test x) x (filter test xs)

  pub how_many-append : (test : X → Bool) (xs ys : List X) → how_many test (xs ++ ys) ≡ how_many test xs + how_many test ys
  how_many-append test xs ys = ap (λ l. length l) (filter-append test xs ys) ∙ length-append (filter test xs) (filter test ys)

  pub how_many_most : (a b : X → Bool) → ((x : X) → one_if (a x) ≤ one_if (b x)) → (xs : List X) → how_many a xs ≤ how_many b xs
  how_many_most a b most [] = omega arith
  how_many_most a b most (x ∷ xs) = omega (arith, how_many-cons a x xs, how_many-cons b x xs, most x, how_many_most a b most xs)

  -- one test in two parts
  pub how_many_parts : (test a b : X → Bool) → ((x : X) → one_if (test x) ≡ one_if (a x) + one_if (b x)) → (xs : List X) → how_many test xs ≡ how_many a xs + how_many b xs
  how_many_parts test a b parts [] = omega arith
  how_many_parts test a b parts (x ∷ xs) =
      omega (arith, how_many-cons test x xs, how_many-cons a x xs, how_many-cons b x xs, parts x, how_many_parts test a b parts xs)

  -- two tests that are the same of each thing that is there
  same_from : (a b : X → Bool) (before xs : List X) → ((front : List X) (x : X) (behind : List X) → before ++ xs ≡ front ++ x ∷ behind → a x ≡ b x) → how_many a xs ≡ how_many b xs
  same_from a b before [] same = refl
  same_from a b before (x ∷ xs) same =
      let here : one_if (a x) ≡ one_if (b x) = ap one_if (same before x xs refl) in
      let rest : how_many a xs ≡ how_many b xs =
      same_from a b (before ++ x ∷ []) xs (λ front y behind is. same front y behind (sym (append_assoc before (x ∷ []) xs) ∙ is)) in
      omega (arith, how_many-cons a x xs, how_many-cons b x xs, here, rest)

  pub same_many : (a b : X → Bool) (xs : List X) → ((front : List X) (x : X) (behind : List X) → xs ≡ front ++ x ∷ behind → a x ≡ b x) → how_many a xs ≡ how_many b xs
  same_many a b xs same = same_from a b [] xs same

  -- ---- tests one after the other
  filter_if : (test : X → Bool) (b : Bool) (x : X) (xs : List X) → filter test (cond b (x ∷ xs) xs) ≡ cond b (cond (test x) (x ∷ filter test xs) (filter test xs)) (filter test xs)
  filter_if test true x xs = refl
  filter_if test false x xs = refl

  either_first : (b c : Bool) (x : X) (xs : List X) → cond c (cond b (x ∷ xs) xs) xs ≡ cond b (cond c (x ∷ xs) xs) xs
  either_first true true x xs = refl
  either_first true false x xs = refl
  either_first false true x xs = refl
  either_first false false x xs = refl

  pub filter_both : (p q : X → Bool) (xs : List X) → filter p (filter q xs) ≡ filter q (filter p xs)
  filter_both p q [] = refl
  filter_both p q (x ∷ xs) =
      filter_if p (q x) x (filter q xs) ∙ ap (λ l. cond (q x) (cond (p x) (x ∷ l) l) l) (filter_both p q xs) ∙ either_first (p x) (q x) x (filter q (filter p xs))
      ∙ sym (filter_if q (p x) x (filter p xs))

  -- ---- the things that meet it
  pub none_of : (xs : List X) → length xs ≡ 0 → xs ≡ []
  none_of [] e = refl
  none_of (x ∷ xs) e = absurd (omega (arith, e))

  pub one_of : (xs : List X) → length xs ≡ 1 → (x : X) × (xs ≡ x ∷ [])
  one_of [] e = absurd (omega (arith, e))
  one_of (x ∷ xs) e = (x, ap (λ l. x ∷ l) (none_of xs (omega (arith, e))))

  first_is : (test : X → Bool) (y : X) (b : Bool) (fs : List X) (x : X) (zs : List X) → test y ≡ b → (fs ≡ x ∷ zs → test x ≡ true) → cond b (y ∷ fs) fs ≡ x ∷ zs → test x ≡ true
  first_is test y true fs x zs is deeper e = let same : y ≡ x = cc e in ap test (sym same) ∙ is
  first_is test y false fs x zs is deeper e = deeper e

  pub first_meets : (test : X → Bool) (xs : List X) (x : X) (zs : List X) → filter test xs ≡ x ∷ zs → test x ≡ true
  first_meets test [] x zs e = absurd (cc e)
  first_meets test (y ∷ xs) x zs e = first_is test y (test y) (filter test xs) x zs refl (first_meets test xs x zs) e

  is_so : (b : Bool) (x : X) → 1 ≤ length (cond b (x ∷ []) []) → b ≡ true
  is_so true x some = refl
  is_so false x some = absurd (omega (arith, some))

  -- the one that meets a test is among those that meet another one, where one of them meets it
  pub one_among : (test mine : X → Bool) (xs : List X) (x : X) → filter test xs ≡ x ∷ [] → 1 ≤ how_many test (filter mine xs) → mine x ≡ true
  one_among test mine xs x one some =
      let is : how_many test (filter mine xs) ≡ length (cond (mine x) (x ∷ []) []) = ap (λ l. length l) (filter_both test mine xs ∙ ap (filter mine) one) in
      is_so (mine x) x (omega (arith, is, some))

  -- ---- at a place
  pub there_counts : (test : X → Bool) (xs : List X) (i : ℕ) (x : X) → slice_get xs i ≡ Some x → test x ≡ true → 1 ≤ how_many test xs
  there_counts test [] i x at is = absurd (cc at)
  there_counts test (y ∷ xs) zero x at is =
      let same : y ≡ x = cc at in
      let one : one_if (test y) ≡ 1 = ap (λ z. one_if (test z)) same ∙ ap one_if is in
      omega (arith, how_many-cons test y xs, one)
  there_counts test (y ∷ xs) (suc i) x at is = omega (arith, how_many-cons test y xs, there_counts test xs i x at is)

  -- where one thing at most meets it, that is at one place
  pub same_place : (test : X → Bool) (xs : List X) (i j : ℕ) (x y : X) → how_many test xs ≤ 1 → slice_get xs i ≡ Some x → test x ≡ true → slice_get xs j ≡ Some y → test y ≡ true → i ≡ j
  same_place test [] i j x y few at is at' is' = absurd (cc at)
  same_place test (z ∷ xs) zero zero x y few at is at' is' = refl
  same_place test (z ∷ xs) zero (suc j) x y few at is at' is' =
      let same : z ≡ x = cc at in
      let one : one_if (test z) ≡ 1 = ap (λ k. one_if (test k)) same ∙ ap one_if is in
      absurd (omega (arith, how_many-cons test z xs, one, there_counts test xs j y at' is', few))
  same_place test (z ∷ xs) (suc i) zero x y few at is at' is' =
      let same : z ≡ y = cc at' in
      let one : one_if (test z) ≡ 1 = ap (λ k. one_if (test k)) same ∙ ap one_if is' in
      absurd (omega (arith, how_many-cons test z xs, one, there_counts test xs i x at is, few))
  same_place test (z ∷ xs) (suc i) (suc j) x y few at is at' is' = ap suc (same_place test xs i j x y (omega (arith, how_many-cons test z xs, few)) at is at' is')

-- ---- seen by what a function gives of them
module _ {X Y : Type 0} (f : X → Y) where
  map_if : (b : Bool) (x : X) (xs : List X) → map f (cond b (x ∷ xs) xs) ≡ cond b (f x ∷ map f xs) (map f xs)
  map_if true x xs = refl
  map_if false x xs = refl

  pub filter-map : (test : Y → Bool) (xs : List X) → filter test (map f xs) ≡ map f (filter (λ x. test (f x)) xs)
  filter-map test [] = refl
  filter-map test (x ∷ xs) = ap (λ l. cond (test (f x)) (f x ∷ l) l) (filter-map test xs) ∙ sym (map_if (test (f x)) x (filter (λ k. test (f k)) xs))

  pub how_many-map : (test : Y → Bool) (xs : List X) → how_many test (map f xs) ≡ how_many (λ x. test (f x)) xs
  how_many-map test [] = refl
  how_many-map test (x ∷ xs) = omega (arith, how_many-cons test (f x) (map f xs), how_many-cons (λ k. test (f k)) x xs, how_many-map test xs)

  found_if : (x : X) (xs : List X) (b : Bool) (fs : List Y) (y : Y) (zs : List Y) → (fs ≡ y ∷ zs → (k : X) × Contains xs k × (f k ≡ y)) → cond b (f x ∷ fs) fs ≡ y ∷ zs → (k : X) × Contains (x ∷ xs) k × (f k ≡ y)
  found_if x xs true fs y zs deeper e = (x, (zero, omega arith, refl), cc e)
  found_if x xs false fs y zs deeper e = let found = deeper e in (found.0, (suc found.1.0, omega (arith, found.1.1), found.1.2), found.2)

  -- where one of those is found, it is of one of these
  pub found_of : (test : Y → Bool) (xs : List X) (y : Y) (zs : List Y) → filter test (map f xs) ≡ y ∷ zs → (k : X) × Contains xs k × (f k ≡ y)
  found_of test [] y zs e = absurd (cc e)
  found_of test (x ∷ xs) y zs e = found_if x xs (test (f x)) (filter test (map f xs)) y zs (found_of test xs y zs) e
