-- Parts of a list that are removed or written element by element.
use Rattle.std.proofs.Common.{◌≡◌, ℕ, ◌+◌, ◌-◌, ◌<◌, ◌≤◌, List, [], ◌∷◌, ◌++◌, length, get_or, set, map, take, drop, refl, ap, sym, ◌∙◌, arith}
use Rattle.std.specs.List.{remove, slice_range}
use Rattle.std.proofs.lemmas.List.{length-append, length-drop, length-take-le, drop-drop, take-append-drop, map-append, take-map, drop-map, length-map, drop_more, append_assoc, get_or_at, get_or-map, set_at, map-set, map_push}
use Rattle.std.proofs.lemmas.List.Edits.{remove-append_right, between_none, between_more, length-between}
use Rattle.ak_value.specs.declared.elements.Element.{Element}
use Rattle.ak_message.specs.Message.{ValueData}
use Rattle.ak_message.specs.Seen.{value_of}
use Rattle.ak_value.specs.Access.{with_value}
use Rattle.ak_value.specs.Choice.{part, with_part}
use Rattle.ak_value.specs.Seen.{element_of, elements_of_list}

module _ {X : Type 0} where
  -- without so many from a place on
  abbrev pub without : ℕ → ℕ → List X → List X
  without from n xs = take from xs ++ drop (from + n) xs

  pub without_none : (from : ℕ) (xs : List X) → without from 0 xs ≡ xs
  without_none from xs = ap (λ k. take from xs ++ drop k xs) (omega arith) ∙ take-append-drop from xs

  pub length-without : (from n : ℕ) (xs : List X) → from + n ≤ length xs → length (without from n xs) + n ≡ length xs
  length-without from n xs h =
      omega (arith, length-append (take from xs) (drop (from + n) xs), length-take-le from xs (omega arith), length-drop (from + n) xs)

  pub without_more : (from n : ℕ) (xs : List X) → from + n < length xs → remove (without from n xs) from ≡ without from (n + 1) xs
  without_more from n xs h =
      let first : from - from ≡ 0 = omega arith in
      let next : from + n + 1 ≡ from + (n + 1) = omega arith in
      remove-append_right (take from xs) (drop (from + n) xs) from from (length-take-le from xs (omega arith)) (omega arith)
      ∙ ap (λ t. take from xs ++ t) (ap (λ k. remove (drop (from + n) xs) k) first ∙ drop-drop 1 (from + n) xs ∙ ap (λ k. drop k xs) next)

  -- with f of each of those from a place to another one
  abbrev pub changed_within : (X → X) → ℕ → ℕ → List X → List X
  changed_within f from to xs = take from xs ++ (map f (slice_range xs from to) ++ drop to xs)

  pub changed_none : (f : X → X) (from : ℕ) (xs : List X) → changed_within f from from xs ≡ xs
  changed_none f from xs = rw (between_none xs from) (take-append-drop from xs)

  -- those before a place, of which some are changed
  front : (X → X) → ℕ → ℕ → List X → List X
  front f from to xs = take from xs ++ map f (slice_range xs from to)

  length-front : (f : X → X) (from to : ℕ) (xs : List X) → from ≤ to → to ≤ length xs → length (front f from to xs) ≡ to
  unfolding front
  length-front f from to xs below within =
      omega (arith, length-append (take from xs) (map f (slice_range xs from to)), length-take-le from xs (omega arith), length-map (slice_range xs from to) f, length-between xs from to within)

  at_place : (f : X → X) (from to : ℕ) (xs : List X) (d : X) → to < length xs → changed_within f from to xs ≡ front f from to xs ++ get_or xs to d ∷ drop (to + 1) xs
  unfolding front
  at_place f from to xs d within =
      ap (λ t. take from xs ++ (map f (slice_range xs from to) ++ t)) (drop_more xs to d within) ∙ sym (append_assoc (take from xs) (map f (slice_range xs from to)) _)

  pub unchanged_at : (f : X → X) (from to : ℕ) (xs : List X) (d : X) → from ≤ to → to < length xs → get_or (changed_within f from to xs) to d ≡ get_or xs to d
  unchanged_at f from to xs d below within =
      ap (λ t. get_or t to d) (at_place f from to xs d within) ∙ get_or_at (front f from to xs) (get_or xs to d) (drop (to + 1) xs) d to (length-front f from to xs below (omega arith))

  pub changed_more : (f : X → X) (from to : ℕ) (xs : List X) (d : X) → from ≤ to → to < length xs → set (changed_within f from to xs) to (f (get_or xs to d)) ≡ changed_within f from (to + 1) xs
  unfolding front
  changed_more f from to xs d below within =
      ap (λ t. set t to (f (get_or xs to d))) (at_place f from to xs d within)
      ∙ set_at (front f from to xs) (get_or xs to d) (drop (to + 1) xs) (f (get_or xs to d)) to (length-front f from to xs below (omega arith))
      ∙ append_assoc (take from xs) (map f (slice_range xs from to)) _
      ∙ ap (λ t. take from xs ++ t) (sym (append_assoc (map f (slice_range xs from to)) (f (get_or xs to d) ∷ []) (drop (to + 1) xs))
      ∙ ap (λ t. t ++ drop (to + 1) xs) (sym (map_push f (slice_range xs from to) (get_or xs to d)) ∙ ap (map f) (sym (between_more xs from to d below within))))

-- ---- in the code's elements
pub removed : (list : List Element) (from count : ℕ) → elements_of_list (without from count list) ≡ with_part (part from count) (elements_of_list list) []
removed list from count =
    map-append element_of (take from list) (drop (from + count) list)
    ∙ ap (λ t. t ++ elements_of_list (drop (from + count) list)) (sym (take-map element_of from list))
    ∙ ap (λ t. take from (elements_of_list list) ++ t) (sym (drop-map element_of (from + count) list))

pub ruleset removals = (without_more, removed)

-- an element gets the value
pub put_more : (value : ValueData) (old : List Element) (from to : ℕ) (list : List Element) (x new : Element) → from ≤ to → to < length list → elements_of_list list ≡ changed_within (with_value value) from to (elements_of_list old) → length list ≡ length old → x ≡ get_or list to x → element_of new ≡ with_value value (element_of x) → elements_of_list (set list to new) ≡ changed_within (with_value value) from (to + 1) (elements_of_list old)
put_more value old from to list x new below within before len at is =
    let d = element_of x in
    let olds = elements_of_list old in
    let there : to < length olds = omega (arith, length-map old element_of) in
    let same : element_of x ≡ get_or olds to d = ap element_of at ∙ sym (get_or-map element_of list to x d within) ∙ ap (λ l. get_or l to d) before ∙ unchanged_at (with_value value) from to olds d below there in
    map-set element_of list to new
    ∙ ap (λ l. set l to (element_of new)) before
    ∙ ap (λ t. set (changed_within (with_value value) from to olds) to t) (is ∙ ap (with_value value) same)
    ∙ changed_more (with_value value) from to olds d below there

-- ---- the values
values_are : (list : List Element) → map (λ x. x.value) (elements_of_list list) ≡ map (λ x. value_of x.value) list
values_are [] = refl
values_are (x ∷ xs) = ap (λ t. value_of x.value ∷ t) (values_are xs)

pub values_within : (list : List Element) (from to : ℕ) → map (λ x. x.value) (slice_range (elements_of_list list) from to) ≡ map (λ x. value_of x.value) (slice_range list from to)
values_within list from to =
    ap (λ t. map (λ x. x.value) (take (to - from) t)) (drop-map element_of from list)
    ∙ ap (map (λ x. x.value)) (take-map element_of (to - from) (drop from list))
    ∙ values_are (slice_range list from to)
