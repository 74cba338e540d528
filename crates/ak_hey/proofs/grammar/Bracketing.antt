-- What brackets mean is what is read of them.
use Rattle.std.proofs.Common.{◌≡◌, ℕ, suc, ◌+◌, ◌-◌, ◌<◌, ◌≤◌, Bool, true, false, cond, not, ◌&&◌, ◌||◌, eqb, ltb, List, [], ◌∷◌, ◌++◌, length, get_or, take, drop, ℤ, pos, Option, Some, None, refl, sym, ap, subst, ◌∙◌, arith}
use Rattle.std.specs.Prelude.{codes, option_map, is_none}
use Rattle.std.specs.Fmt.{decimal}
use Rattle.std.specs.Str.{bytes_eq}
use Rattle.std.proofs.lemmas.Bool.{and_parts, eqb-true, ltb-false, le-ltb, lt-ltb}
use Rattle.std.proofs.lemmas.List.{length-append, take_at, get_or_at}
use Rattle.ak_base.specs.Option.{◌>>=◌}
use Rattle.ak_base.proofs.Surface.{bind_some, cond_some, some_is, none_is}
use Rattle.ak_message.specs.declared.specifier.At.{At}
use Rattle.ak_message.specs.declared.specifier.At.TheVariants as at
use Rattle.ak_hey.specs.Bracketed.{FirstPart, AreParts, Mean, IsBracket, BracketsAreRead}
use Rattle.ak_hey.specs.Brackets.{most, bracketed, part_at, number_from, behind_sign, index_or_id, reverse_or, one_at, count_between, range, reverse_range, range_behind, range_at, last_of, behind_to, one_or_range, bracket_at}
use Rattle.ak_input.specs.Written.{number_within}
use Rattle.ak_input.proofs.Surface.{mapped_some, number_again, number_takes}
use Rattle.ak_hey.proofs.grammar.Keys.{eq_of}
use Rattle.ak_hey.proofs.grammar.Numerals.{no_sign}
use Rattle.ak_hey.proofs.grammar.Splitting.{part_takes, part_again, none_takes, none_again}

-- ---- the brackets
bracketed_again : (inner : List ℕ) → bracketed (91 ∷ (inner ++ 93 ∷ [])) ≡ Some inner
bracketed_again inner =
    let size : length (91 ∷ (inner ++ 93 ∷ [])) - 1 ≡ suc (length inner) = omega (arith, length-append inner (93 ∷ [])) in
    let long : ltb (length (91 ∷ (inner ++ 93 ∷ []))) 2 ≡ false = le-ltb (length (91 ∷ (inner ++ 93 ∷ []))) 2 (omega (arith, length-append inner (93 ∷ []))) in
    let last : get_or (inner ++ 93 ∷ []) (length inner) 0 ≡ 93 = get_or_at inner 93 [] 0 (length inner) refl in
    let front : take (length inner) (inner ++ 93 ∷ []) ≡ inner = take_at inner (93 ∷ []) (length inner) refl in
    rw (long, size, last, front) refl

-- all but the last, and the last
last_split : (b : ℕ) (text : List ℕ) → (b ∷ text) ≡ take (length text) (b ∷ text) ++ get_or (b ∷ text) (length text) 0 ∷ []
last_split b [] = refl
last_split b (c ∷ text) = ap (λ (rest : List ℕ). b ∷ rest) (last_split c text)

bracketed_takes : (word inner : List ℕ) → bracketed word ≡ Some inner → word ≡ 91 ∷ (inner ++ 93 ∷ [])
bracketed_takes [] inner e = absurd cc
bracketed_takes (a ∷ []) inner e = absurd cc
bracketed_takes (a ∷ b ∷ text) inner e =
    let size : length (a ∷ b ∷ text) - 1 ≡ suc (length text) = omega arith in
    let e2 = rw size at e in
    let t = cond_some (not (ltb (length (a ∷ b ∷ text)) 2) && eqb a 91 && eqb (get_or (a ∷ b ∷ text) (suc (length text)) 0) 93) (drop 1 (take (suc (length text)) (a ∷ b ∷ text))) inner e2 in
    let p = and_parts (not (ltb (length (a ∷ b ∷ text)) 2) && eqb a 91) (eqb (get_or (a ∷ b ∷ text) (suc (length text)) 0) 93) t.0 in
    let q = and_parts (not (ltb (length (a ∷ b ∷ text)) 2)) (eqb a 91) p.0 in
    ap (λ (c : ℕ). c ∷ b ∷ text) (eqb-true a 91 q.1)
    ∙ ap (λ (rest : List ℕ). 91 ∷ rest) (last_split b text)
    ∙ ap (λ (c : ℕ). 91 ∷ (take (length text) (b ∷ text) ++ c ∷ [])) (eqb-true (get_or (b ∷ text) (length text) 0) 93 p.1)
    ∙ ap (λ (front : List ℕ). 91 ∷ (front ++ 93 ∷ [])) t.1

-- ---- signs and numbers
sign_takes : (part : List ℕ) (sign : ℕ) (rest : List ℕ) → behind_sign part sign ≡ Some rest → part ≡ sign ∷ rest
sign_takes [] sign rest e = absurd cc
sign_takes (b ∷ part) sign rest e =
    let t = cond_some (eqb b sign) part rest e in
    ap (λ (c : ℕ). c ∷ part) (eqb-true b sign t.0) ∙ ap (λ (r : List ℕ). sign ∷ r) t.1

abbrev Written : ℕ → List ℕ → ℤ → Type 0
Written least part z = (n : ℕ) × (part ≡ decimal n) × (least ≤ n) × (n ≤ most) × (z ≡ pos n)

from_takes : (least : ℕ) (part : List ℕ) (z : ℤ) → number_from part least ≡ Some z → Written least part z
from_takes least part z e =
    let m = mapped_some pos (number_within part least most) z e in
    let w = number_takes least most part m.0 (omega arith) m.1 in
    (m.0, w.0, w.1, w.2, sym m.2)

from_again : (least n : ℕ) → least ≤ n → n ≤ most → number_from (decimal n) least ≡ Some (pos n)
from_again least n low over = ap (option_map pos) (number_again least most (decimal n) n (omega arith) (refl, low, over))

-- ---- one number
one_takes : (part : List ℕ) (a : At) → one_at part ≡ Some a → Mean (part ∷ []) a
one_takes part a e = by_minus (behind_sign part 45) refl e where
  by_hash : (o : Option (List ℕ)) → behind_sign part 35 ≡ o → index_or_id o part ≡ Some a → Mean (part ∷ []) a
  by_hash (Some id) is e =
      let m = mapped_some at.Id (number_from id 0) a e in
      let w = from_takes 0 id m.0 m.1 in
      subst (λ (x : At). Mean (part ∷ []) x) m.2 (w.0, ap (λ (p : List ℕ). p ∷ []) (sign_takes part 35 id is ∙ ap (λ (t : List ℕ). 35 ∷ t) w.1), w.3, w.4)
  by_hash None is e =
      let m = mapped_some at.Index (number_from part 0) a e in
      let w = from_takes 0 part m.0 m.1 in
      subst (λ (x : At). Mean (part ∷ []) x) m.2 (w.0, ap (λ (p : List ℕ). p ∷ []) w.1, w.3, w.4)

  by_minus : (o : Option (List ℕ)) → behind_sign part 45 ≡ o → reverse_or o part ≡ Some a → Mean (part ∷ []) a
  by_minus (Some index) is e =
      let m = mapped_some at.Reverse (number_from index 1) a e in
      let w = from_takes 1 index m.0 m.1 in
      subst (λ (x : At). Mean (part ∷ []) x) m.2 (w.0, ap (λ (p : List ℕ). p ∷ []) (sign_takes part 45 index is ∙ ap (λ (t : List ℕ). 45 ∷ t) w.1), w.2, w.3, w.4)
  by_minus None is e = by_hash (behind_sign part 35) refl e

-- ---- ranges
abbrev some_number : ℕ → Option ℤ
some_number n = Some (pos n)

count_takes : (lower upper : ℕ) (count : ℤ) → count_between lower upper ≡ Some count → (lower ≤ upper) × (upper - lower < most) × (count ≡ pos (upper - lower + 1))
count_takes lower upper count e = by_tests (ltb upper lower) (ltb (upper - lower) most) refl refl e where
  by_tests : (less within : Bool) → ltb upper lower ≡ less → ltb (upper - lower) most ≡ within → cond (less || not within) None (some_number (upper - lower + 1)) ≡ Some count → (lower ≤ upper) × (upper - lower < most) × (count ≡ pos (upper - lower + 1))
  by_tests true within less_is within_is e = absurd cc
  by_tests false false less_is within_is e = absurd cc
  by_tests false true less_is within_is e = (ltb-false upper lower less_is, grind (arith, within_is), sym (some_is (pos (upper - lower + 1)) count e))

count_again : (lower upper : ℕ) → lower ≤ upper → upper - lower < most → count_between lower upper ≡ some_number (upper - lower + 1)
count_again lower upper low within = rw (le-ltb upper lower low, lt-ltb (upper - lower) most within) refl

range_takes : (first last : List ℕ) (a : At) → range_at first last ≡ Some a → Mean (first ∷ codes "to" ∷ last ∷ []) a
unfolding range reverse_range
range_takes first last a e = by_minus (behind_sign first 45) refl e where
  three : List ℕ → List ℕ → List (List ℕ)
  three x y = x ∷ codes "to" ∷ y ∷ []

  by_minus : (o : Option (List ℕ)) → behind_sign first 45 ≡ o → range_behind o first last ≡ Some a → Mean (first ∷ codes "to" ∷ last ∷ []) a
  by_minus (Some front) is e =
      let back = bind_some (behind_sign last 45) (λ b. reverse_range front b) a e in
      let x = bind_some (number_within front 1 most) (λ i. number_within back.0 1 most >>= λ j. count_between j i >>= λ count. Some (at.ReverseRange (pos i) count)) a back.2 in
      let y = bind_some (number_within back.0 1 most) (λ j. count_between j x.0 >>= λ count. Some (at.ReverseRange (pos x.0) count)) a x.2 in
      let count = bind_some (count_between y.0 x.0) (λ count. Some (at.ReverseRange (pos x.0) count)) a y.2 in
      let u = number_takes 1 most front x.0 (omega arith) x.1 in
      let v = number_takes 1 most back.0 y.0 (omega arith) y.1 in
      let c = count_takes y.0 x.0 count.0 count.1 in
      subst (λ (z : At). Mean (first ∷ codes "to" ∷ last ∷ []) z) (some_is (at.ReverseRange (pos x.0) count.0) a count.2) (
        x.0,
        y.0,
        ap (λ (p : List ℕ). p ∷ codes "to" ∷ last ∷ []) (sign_takes first 45 front is ∙ ap (λ (t : List ℕ). 45 ∷ t) u.0)
            ∙ ap (λ (p : List ℕ). (45 ∷ decimal x.0) ∷ codes "to" ∷ p ∷ []) (sign_takes last 45 back.0 back.1 ∙ ap (λ (t : List ℕ). 45 ∷ t) v.0),
        v.1,
        c.0,
        u.2,
        refl,
        c.2,
      )
  by_minus None is e =
      let x = bind_some (number_within first 0 most) (λ i. number_within last 0 most >>= λ j. count_between i j >>= λ count. Some (at.Range (pos i) count)) a e in
      let y = bind_some (number_within last 0 most) (λ j. count_between x.0 j >>= λ count. Some (at.Range (pos x.0) count)) a x.2 in
      let count = bind_some (count_between x.0 y.0) (λ count. Some (at.Range (pos x.0) count)) a y.2 in
      let u = number_takes 0 most first x.0 (omega arith) x.1 in
      let v = number_takes 0 most last y.0 (omega arith) y.1 in
      let c = count_takes x.0 y.0 count.0 count.1 in
      subst (λ (z : At). Mean (first ∷ codes "to" ∷ last ∷ []) z) (some_is (at.Range (pos x.0) count.0) a count.2) (
        x.0,
        y.0,
        ap (λ (p : List ℕ). p ∷ codes "to" ∷ last ∷ []) u.0 ∙ ap (λ (p : List ℕ). decimal x.0 ∷ codes "to" ∷ p ∷ []) v.0,
        c.0,
        v.2,
        c.1,
        refl,
        c.2,
      )

range_again : (first last : ℕ) → first ≤ last → last ≤ most → last - first < most → range_at (decimal first) (decimal last) ≡ Some (at.Range (pos first) (pos (last - first + 1)))
unfolding range
range_again first last low over within =
    rw (no_sign first 45 (omega (arith, low, over)) (omega arith), number_again 0 most (decimal first) first (omega arith) (refl, omega arith, omega (arith, low, over)), number_again 0 most (decimal last) last (omega arith) (refl, omega arith, over), count_again first last low within) refl

reverse_again : (first last : ℕ) → 1 ≤ last → last ≤ first → first ≤ most → range_at (45 ∷ decimal first) (45 ∷ decimal last) ≡ Some (at.ReverseRange (pos first) (pos (first - last + 1)))
unfolding reverse_range
reverse_again first last some low over =
    rw (number_again 1 most (decimal first) first (omega arith) (refl, omega (arith, some, low), over), number_again 1 most (decimal last) last (omega arith) (refl, some, omega (arith, low, over)), count_again last first low (omega (arith, some, low, over))) refl

-- ---- all of it
one_or_takes : (first rest : List ℕ) (o : Option (List ℕ × List ℕ)) (a : At) → part_at rest ≡ o → one_or_range first o ≡ Some a → (parts : List (List ℕ)) × AreParts parts rest × Mean (first ∷ parts) a
unfolding behind_to
one_or_takes first rest None a is e = ([], none_takes rest is, one_takes first a e)
one_or_takes first rest (Some key) a is e =
    let last = bind_some (behind_to key.0 key.1) (λ last. range_at first last) a e in
    by_key (bytes_eq key.0 (codes "to")) refl last.0 last.1 last.2 where
      by_last : (o : Option (List ℕ × List ℕ)) (last : List ℕ) → part_at key.1 ≡ o → last_of o ≡ Some last → key.0 ≡ codes "to" → range_at first last ≡ Some a → (parts : List (List ℕ)) × AreParts parts rest × Mean (first ∷ parts) a
      by_last None last at e to means = absurd cc
      by_last (Some part) last at e to means =
          let t = cond_some (is_none (part_at part.1)) part.0 last e in (
            codes "to" ∷ last ∷ [],
            (
              key.1,
              subst (λ (k : List ℕ). FirstPart rest k key.1) to (part_takes rest key.0 key.1 is),
              (part.1, subst (λ (p : List ℕ). FirstPart key.1 p part.1) t.1 (part_takes key.1 part.0 part.1 at), none_takes part.1 (none_is (part_at part.1) t.0)),
            ),
            range_takes first last a means,
          )

      by_key : (same : Bool) → bytes_eq key.0 (codes "to") ≡ same → (last : List ℕ) → cond same (last_of (part_at key.1)) None ≡ Some last → range_at first last ≡ Some a → (parts : List (List ℕ)) × AreParts parts rest × Mean (first ∷ parts) a
      by_key true same last e means = by_last (part_at key.1) last refl e (eq_of key.0 (codes "to") same) means
      by_key false same last e means = absurd cc

bracket_takes : (word : List ℕ) (a : At) → bracket_at word ≡ Some a → IsBracket word a
unfolding bracket_at
bracket_takes word a e =
    let inner = bind_some (bracketed word) (λ inner. part_at inner >>= λ first. one_or_range first.0 (part_at first.1)) a e in
    let first = bind_some (part_at inner.0) (λ first. one_or_range first.0 (part_at first.1)) a inner.2 in
    let m = one_or_takes first.0.0 first.0.1 (part_at first.0.1) a refl first.2 in
    (inner.0, first.0.0 ∷ m.0, bracketed_takes word inner.0 inner.1, (first.0.1, part_takes inner.0 first.0.0 first.0.1 first.1, m.1), m.2)

-- a part alone, or three
abbrev read_parts : List ℕ → Option At
read_parts inner = part_at inner >>= λ first. one_or_range first.0 (part_at first.1)

one_read : (part inner : List ℕ) (a : At) → AreParts (part ∷ []) inner → one_at part ≡ Some a → read_parts inner ≡ Some a
one_read part inner a are e = rw (part_again inner part are.0 are.1, none_again are.0 are.2) e

three_read : (first last inner : List ℕ) (a : At) → AreParts (first ∷ codes "to" ∷ last ∷ []) inner → range_at first last ≡ Some a → read_parts inner ≡ Some a
unfolding behind_to
three_read first last inner a are e =
    rw (part_again inner first are.0 are.1, part_again are.0 (codes "to") are.2.0 are.2.1, part_again are.2.0 last are.2.2.0 are.2.2.1, none_again are.2.2.0 are.2.2.2) e

means_read : (parts : List (List ℕ)) (inner : List ℕ) (a : At) → AreParts parts inner → Mean parts a → read_parts inner ≡ Some a
means_read parts inner at.Direct are m = absurd m
means_read parts inner (at.Name name) are m = absurd m
means_read parts inner (at.Index z) are m =
    let one : one_at (decimal m.0) ≡ Some (at.Index (pos m.0)) = rw (no_sign m.0 45 m.2 (omega arith), no_sign m.0 35 m.2 (omega arith), from_again 0 m.0 (omega arith) m.2) refl in
    one_read (decimal m.0) inner (at.Index z) (subst (λ (ps : List (List ℕ)). AreParts ps inner) m.1 are) (one ∙ ap (λ (x : ℤ). index_of x) (sym m.3)) where
      index_of : ℤ → Option At
      index_of x = Some (at.Index x)
means_read parts inner (at.Reverse z) are m =
    let one : one_at (45 ∷ decimal m.0) ≡ Some (at.Reverse (pos m.0)) = ap (option_map at.Reverse) (from_again 1 m.0 m.2 m.3) in
    one_read (45 ∷ decimal m.0) inner (at.Reverse z) (subst (λ (ps : List (List ℕ)). AreParts ps inner) m.1 are) (one ∙ ap (λ (x : ℤ). reverse_of x) (sym m.4)) where
      reverse_of : ℤ → Option At
      reverse_of x = Some (at.Reverse x)
means_read parts inner (at.Id z) are m =
    let one : one_at (35 ∷ decimal m.0) ≡ Some (at.Id (pos m.0)) = ap (option_map at.Id) (from_again 0 m.0 (omega arith) m.2) in
    one_read (35 ∷ decimal m.0) inner (at.Id z) (subst (λ (ps : List (List ℕ)). AreParts ps inner) m.1 are) (one ∙ ap (λ (x : ℤ). id_of x) (sym m.3)) where
      id_of : ℤ → Option At
      id_of x = Some (at.Id x)
means_read parts inner (at.Range z count) are m =
    three_read (decimal m.0) (decimal m.1) inner (at.Range z count) (subst (λ (ps : List (List ℕ)). AreParts ps inner) m.2 are)
    (range_again m.0 m.1 m.3 m.4 m.5 ∙ ap (λ (x : ℤ). range_of x (pos (m.1 - m.0 + 1))) (sym m.6) ∙ ap (λ (c : ℤ). range_of z c) (sym m.7)) where
      range_of : ℤ → ℤ → Option At
      range_of x c = Some (at.Range x c)
means_read parts inner (at.ReverseRange z count) are m =
    three_read (45 ∷ decimal m.0) (45 ∷ decimal m.1) inner (at.ReverseRange z count) (subst (λ (ps : List (List ℕ)). AreParts ps inner) m.2 are)
    (reverse_again m.0 m.1 m.3 m.4 m.5 ∙ ap (λ (x : ℤ). range_of x (pos (m.0 - m.1 + 1))) (sym m.6) ∙ ap (λ (c : ℤ). range_of z c) (sym m.7)) where
      range_of : ℤ → ℤ → Option At
      range_of x c = Some (at.ReverseRange x c)

bracket_again : (word : List ℕ) (a : At) → IsBracket word a → bracket_at word ≡ Some a
unfolding bracket_at
bracket_again word a is =
    ap (λ (w : List ℕ). bracketed w >>= read_parts) is.2
    ∙ ap (λ (o : Option (List ℕ)). o >>= read_parts) (bracketed_again is.0)
    ∙ means_read is.1 is.0 a is.3 is.4

pub brackets_are_read : BracketsAreRead
brackets_are_read word a = (bracket_takes word a, bracket_again word a)
