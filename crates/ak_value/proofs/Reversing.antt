-- What stands at a place from the end stands at that place of the reversed list.
use Rattle.std.proofs.Common.{◌≡◌, ℕ, suc, pos, ◌+◌, ◌-◌, ◌≤◌, Bool, true, false, ◌&&◌, leb, List, [], ◌∷◌, ◌++◌, length, reverse, take, drop, slice_range, Option, None, Some, option_map, refl, sym, ap, ◌∙◌, subst, append_assoc, arith}
use Rattle.std.proofs.lemmas.Bool.{leb-true, le-leb, and_parts}
use Rattle.std.proofs.lemmas.List.{reverse-append, reverse-reverse, length-reverse, length-take, length-take-le, length-drop, take-append-drop, take_at, drop_at, drop-drop}
use Rattle.ak_message.specs.declared.specifier.At.TheVariants as at
use Rattle.ak_value.specs.Elements.{ElementData}
use Rattle.ak_value.specs.Choice.{Part, part, part_if, elements_in}
use Rattle.ak_value.specs.Laws.{elements_of, ReverseIsForward, ReverseRangeIsForward}

-- ---- a part of a list, between what stands before and behind it
reverse_of_three : {X : Type 0} (before middle behind : List X) → reverse (before ++ (middle ++ behind)) ≡ reverse behind ++ (reverse middle ++ reverse before)
reverse_of_three before middle behind =
    rw (reverse-append before (middle ++ behind), reverse-append middle behind) (append_assoc (reverse behind) (reverse middle) (reverse before))

middle_of_three : {X : Type 0} (before middle behind : List X) (i c : ℕ) → length behind ≡ i → length middle ≡ c → take c (drop i (reverse (before ++ (middle ++ behind)))) ≡ reverse middle
middle_of_three before middle behind i c short long =
    rw (
      reverse_of_three before middle behind,
      drop_at (reverse behind) (reverse middle ++ reverse before) i (length-reverse behind ∙ short),
    )
    (take_at (reverse middle) (reverse before) c (length-reverse middle ∙ long))

three : {X : Type 0} (xs : List X) (a c : ℕ) → take a xs ++ (take c (drop a xs) ++ drop (a + c) xs) ≡ xs
three xs a c =
    ap (λ ys. take a xs ++ (take c (drop a xs) ++ ys)) (sym (drop-drop c a xs)) ∙ ap (λ ys. take a xs ++ ys) (take-append-drop c (drop a xs)) ∙ take-append-drop a xs

reversed_middle : {X : Type 0} (xs : List X) (a i c : ℕ) → a + c + i ≡ length xs → take c (drop i (reverse xs)) ≡ reverse (take c (drop a xs))
reversed_middle xs a i c all =
    let middle : length (take c (drop a xs)) ≡ c = length-take-le c (drop a xs) (omega (arith, length-drop a xs)) in
    let behind : length (drop (a + c) xs) ≡ i = omega (arith, length-drop (a + c) xs) in
    ap (λ ys. take c (drop i (reverse ys))) (sym (three xs a c)) ∙ middle_of_three (take a xs) (take c (drop a xs)) (drop (a + c) xs) i c behind middle

-- from a place on, and from its reverse place on
slice_is : {X : Type 0} (xs : List X) (a c : ℕ) → slice_range xs a (a + c) ≡ take c (drop a xs)
slice_is xs a c = let same : a + c - a ≡ c = omega arith in ap (λ n. take n (drop a xs)) same

slice_from_end : {X : Type 0} (xs : List X) (i c : ℕ) → i + c ≤ length xs → slice_range xs (length xs - (i + c)) (length xs - (i + c) + c) ≡ reverse (slice_range (reverse xs) i (i + c))
slice_from_end xs i c within =
    let a : ℕ = length xs - (i + c) in
    let r = reversed_middle xs a i c (omega arith) in
    slice_is xs a c ∙ sym (reverse-reverse (take c (drop a xs))) ∙ ap reverse (sym r) ∙ ap reverse (sym (slice_is (reverse xs) i c))

-- ---- one element
reverse_one : {X : Type 0} (xs : List X) → length xs ≤ 1 → reverse xs ≡ xs
reverse_one [] short = refl
reverse_one (x ∷ []) short = refl
reverse_one (x ∷ y ∷ xs) short = absurd (omega arith)

-- ---- a part that is there in both lists, or in neither
both_chosen : (f g : Part → List ElementData) (b c : Bool) (p q : Part) → b ≡ c → (b ≡ true → f p ≡ g q) → option_map f (part_if b p) ≡ option_map g (part_if c q)
both_chosen f g true true p q same equal = ap (λ xs. Some xs) (equal refl)
both_chosen f g true false p q same equal = absurd cc
both_chosen f g false true p q same equal = absurd cc
both_chosen f g false false p q same equal = refl

mapped_twice : {X Y Z : Type 0} (f : X → Y) (g : Y → Z) (o : Option X) → option_map g (option_map f o) ≡ option_map (λ x. g (f x)) o
mapped_twice f g None = refl
mapped_twice f g (Some x) = refl

-- as many elements as a reverse index counts are never too many
same_test : (list : List ElementData) (i c : ℕ) → leb 1 c && (leb c (i + c) && leb (i + c) (length list)) ≡ leb 1 c && leb (i + c) (length (reverse list))
same_test list i c = rw (length-reverse list, le-leb c (i + c) (omega arith)) refl

within_list : (list : List ElementData) (i c : ℕ) → leb 1 c && (leb c (i + c) && leb (i + c) (length list)) ≡ true → i + c ≤ length list
within_list list i c test = leb-true _ _ (and_parts _ _ (and_parts _ _ test).1).1

range_from_end : (list : List ElementData) (i c : ℕ) → leb 1 c && (leb c (i + c) && leb (i + c) (length list)) ≡ true → elements_in (part (length list - (i + c)) c) list ≡ reverse (elements_in (part i c) (reverse list))
range_from_end list i c test = slice_from_end list i c (within_list list i c test)

one_from_end : (list : List ElementData) (i : ℕ) → leb 1 1 && (leb 1 (i + 1) && leb (i + 1) (length list)) ≡ true → elements_in (part (length list - (i + 1)) 1) list ≡ elements_in (part i 1) (reverse list)
one_from_end list i test =
    let short : length (elements_in (part i 1) (reverse list)) ≤ 1 = omega (arith, length-take (i + 1 - i) (drop i (reverse list))) in
    range_from_end list i 1 test ∙ reverse_one (elements_in (part i 1) (reverse list)) short

pub reverse_is_forward : ReverseIsForward
reverse_is_forward list i =
    let next : i + 1 ≡ suc i = omega arith in
    subst (λ (n : ℕ). elements_of list (at.Reverse (pos n)) ≡ elements_of (reverse list) (at.Index (pos i))) next
    (both_chosen (λ p. elements_in p list) (λ p. elements_in p (reverse list)) _ _ (part (length list - (i + 1)) 1) (part i 1) (same_test list i 1) (one_from_end list i))

pub reverse_range_is_forward : ReverseRangeIsForward
reverse_range_is_forward list i count =
    let back : Part → List ElementData = λ p. elements_in p (reverse list) in
    both_chosen (λ p. elements_in p list) (λ p. reverse (back p)) _ _ (part (length list - (i + count)) count) (part i count) (same_test list i count) (range_from_end list i count)
    ∙ sym (mapped_twice back reverse (part_if _ (part i count)))
