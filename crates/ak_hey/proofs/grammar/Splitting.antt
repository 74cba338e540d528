-- The parts between blanks: the first one is read where the text begins with it, and none where there are blanks alone.
use Rattle.std.proofs.Common.{◌≡◌, ℕ, suc, ◌+◌, ◌<◌, Bool, true, false, cond, not, ◌&&◌, eqb, ltb, List, [], ◌∷◌, ◌++◌, length, take, drop, Some, None, refl, sym, ap, ap₂, subst, ◌∙◌, arith}
use Rattle.std.specs.Prelude.{position, unwrap_or}
use Rattle.std.specs.List.{list_all, position_or_len}
use Rattle.std.proofs.lemmas.Bool.{and_parts, ne_eqb, ltb-false}
use Rattle.std.proofs.lemmas.List.{drop_all, take_at, drop_at, take-append-drop}
use Rattle.std.proofs.lemmas.List.Sums.{prefix_len-le-length}
use Rattle.ak_base.specs.Option.{where_true}
use Rattle.ak_base.proofs.Surface.{cond_some, done}
use Rattle.ak_hey.specs.Bracketed.{is_part_end, FirstPart}
use Rattle.ak_hey.specs.Brackets.{is_blank, is_other, from_place, behind_blanks, part_len, some_part, part_at}

-- ---- places are lengths
from_is : (p : ℕ → Bool) (xs : List ℕ) → from_place (position p xs) xs ≡ drop (position_or_len p xs) xs
from_is p xs = by_test (ltb (position_or_len p xs) (length xs)) refl where
  by_test : (test : Bool) → ltb (position_or_len p xs) (length xs) ≡ test → from_place (cond test (Some (position_or_len p xs)) None) xs ≡ drop (position_or_len p xs) xs
  by_test true e = refl
  by_test false e = sym (drop_all (position_or_len p xs) xs (ltb-false (position_or_len p xs) (length xs) e))

len_is : (p : ℕ → Bool) (xs : List ℕ) → unwrap_or (position p xs) (length xs) ≡ position_or_len p xs
len_is p xs = by_test (ltb (position_or_len p xs) (length xs)) refl where
  by_test : (test : Bool) → ltb (position_or_len p xs) (length xs) ≡ test → unwrap_or (cond test (Some (position_or_len p xs)) None) (length xs) ≡ position_or_len p xs
  by_test true e = refl
  by_test false e =
      let past = ltb-false (position_or_len p xs) (length xs) e in
      let within = prefix_len-le-length (λ x. not (p x)) xs in
      omega (arith, past, within)

-- ---- blanks are skipped
skipped : List ℕ → List ℕ
skipped text = drop (position_or_len is_other text) text

skipped_blank : (b : ℕ) (text : List ℕ) (blank : Bool) → is_blank b ≡ blank → drop (cond (not (not blank)) (1 + position_or_len is_other text) 0) (b ∷ text) ≡ cond blank (drop (position_or_len is_other text) text) (b ∷ text)
skipped_blank b text true e = ap (λ (n : ℕ). drop n (b ∷ text)) one ∙ refl where
  one : 1 + position_or_len is_other text ≡ suc (position_or_len is_other text)
  one = omega arith
skipped_blank b text false e = refl

-- one byte
skip_one : (b : ℕ) (text : List ℕ) (blank : Bool) → is_blank b ≡ blank → behind_blanks (b ∷ text) ≡ cond blank (behind_blanks text) (b ∷ text)
skip_one b text blank e =
    from_is is_other (b ∷ text)
    ∙ ap (λ (t : Bool). drop (cond (not (not t)) (1 + position_or_len is_other text) 0) (b ∷ text)) e
    ∙ skipped_blank b text blank e
    ∙ ap (λ (rest : List ℕ). cond blank rest (b ∷ text)) (sym (from_is is_other text))

-- what is no blank stands first, or nothing does
abbrev pub IsLeft : List ℕ → Type 0
IsLeft [] = Unit {0}
IsLeft (b ∷ rest) = is_blank b ≡ false

pub record Skips (text : List ℕ) : Type 0 where
  pub gap : List ℕ
  pub all : text ≡ gap ++ behind_blanks text
  pub blanks : list_all is_blank gap ≡ true
  pub left : IsLeft (behind_blanks text)

pub skips : (text : List ℕ) → Skips text
skips [] = record { gap = []; all = refl; blanks = refl; left = tt }
skips (b ∷ text) = by_blank (is_blank b) refl (skips text) where
  by_blank : (blank : Bool) → is_blank b ≡ blank → Skips text → Skips (b ∷ text)
  by_blank true e s =
      record {
        gap = b ∷ s.gap;
        all = ap (λ (rest : List ℕ). b ∷ rest) s.all ∙ ap (λ (rest : List ℕ). b ∷ (s.gap ++ rest)) (sym (skip_one b text true e));
        blanks = ap₂ ◌&&◌ e s.blanks;
        left = subst IsLeft (sym (skip_one b text true e)) s.left;
      }
  by_blank false e s =
      record { gap = []; all = sym (skip_one b text false e); blanks = refl; left = subst IsLeft (sym (skip_one b text false e)) e }

-- and so they are read
pub skip_all : (gap rest : List ℕ) → list_all is_blank gap ≡ true → behind_blanks (gap ++ rest) ≡ behind_blanks rest
skip_all [] rest e = refl
skip_all (b ∷ gap) rest e =
    let parts = and_parts (is_blank b) (list_all is_blank gap) e in
    skip_one b (gap ++ rest) true parts.0 ∙ skip_all gap rest parts.1

not_true_is : (test : Bool) → not test ≡ true → test ≡ false
not_true_is true e = absurd cc
not_true_is false e = refl

-- ---- the first part
len_one : (b : ℕ) (text : List ℕ) (blank : Bool) → is_blank b ≡ blank → part_len (b ∷ text) ≡ cond blank 0 (suc (part_len text))
len_one b text blank e =
    len_is is_blank (b ∷ text)
    ∙ ap (λ (t : Bool). cond (not t) (1 + position_or_len is_blank text) 0) e
    ∙ by_blank blank where
      by_blank : (blank : Bool) → cond (not blank) (1 + position_or_len is_blank text) 0 ≡ cond blank 0 (suc (part_len text))
      by_blank true = refl
      by_blank false = omega (arith, len_is is_blank text)

pub record Splits (text : List ℕ) : Type 0 where
  pub others : list_all is_other (take (part_len text) text) ≡ true
  pub ends : is_part_end (drop (part_len text) text) ≡ true

pub splits : (text : List ℕ) → Splits text
splits [] = record { others = refl; ends = refl }
splits (b ∷ text) = by_blank (is_blank b) refl (splits text) where
  at_len : (n : ℕ) → part_len (b ∷ text) ≡ n → list_all is_other (take n (b ∷ text)) ≡ true → is_part_end (drop n (b ∷ text)) ≡ true → Splits (b ∷ text)
  at_len n is others ends =
      record {
        others = ap (λ (m : ℕ). list_all is_other (take m (b ∷ text))) is ∙ others;
        ends = ap (λ (m : ℕ). is_part_end (drop m (b ∷ text))) is ∙ ends;
      }

  by_blank : (blank : Bool) → is_blank b ≡ blank → Splits text → Splits (b ∷ text)
  by_blank true e s = at_len 0 (len_one b text true e) refl e
  by_blank false e s = at_len (suc (part_len text)) (len_one b text false e) (ap₂ ◌&&◌ (ap not e) s.others) s.ends

-- a part and what stands behind it
pub len_again : (part rest : List ℕ) → list_all is_other part ≡ true → is_part_end rest ≡ true → part_len (part ++ rest) ≡ length part
len_again [] [] others ends = refl
len_again [] (b ∷ rest) others ends = len_one b rest true ends
len_again (b ∷ part) rest others ends =
    let parts = and_parts (is_other b) (list_all is_other part) others in
    len_one b (part ++ rest) false (not_true_is (is_blank b) parts.0) ∙ ap suc (len_again part rest parts.1 ends)

-- ---- what is read
pub part_takes : (text part rest : List ℕ) → part_at text ≡ Some (part, rest) → FirstPart text part rest
unfolding part_at
part_takes text part rest e =
    let u = behind_blanks text in
    let t = cond_some (not (eqb (part_len u) 0)) (take (part_len u) u, drop (part_len u) u) (part, rest) e in
    let s = skips text in
    let p = splits u in
    subst (λ (x : List ℕ × List ℕ). FirstPart text x.0 x.1) t.1
    (record {
      gap = s.gap;
      all = s.all ∙ ap (λ (r : List ℕ). s.gap ++ r) (sym (take-append-drop (part_len u) u));
      blanks = s.blanks;
      filled = some_len u t.0;
      others = p.others;
      ends = p.ends;
    }) where
      some_len : (u : List ℕ) → not (eqb (part_len u) 0) ≡ true → 0 < length (take (part_len u) u)
      some_len [] e = absurd cc
      some_len (b ∷ u) e = by_blank (is_blank b) refl where
        by_blank : (blank : Bool) → is_blank b ≡ blank → 0 < length (take (part_len (b ∷ u)) (b ∷ u))
        by_blank true is = absurd (let none = ap (λ (n : ℕ). not (eqb n 0)) (len_one b u true is) in no_true (sym none ∙ e)) where
          no_true : false ≡ true → ⊥
          no_true h = cc
        by_blank false is = subst (λ (n : ℕ). 0 < length (take n (b ∷ u))) (sym (len_one b u false is)) (omega arith)

pub part_again : (text part rest : List ℕ) → FirstPart text part rest → part_at text ≡ Some (part, rest)
unfolding part_at
part_again text part rest f =
    ap (λ (t : List ℕ). some_part (part_len (behind_blanks t)) (behind_blanks t)) f.all
    ∙ ap (λ (u : List ℕ). some_part (part_len u) u) (skip_all f.gap (part ++ rest) f.blanks ∙ left_alone part rest f.filled f.others)
    ∙ ap (λ (n : ℕ). some_part n (part ++ rest)) (len_again part rest f.others f.ends)
    ∙ whole where
      left_alone : (part rest : List ℕ) → 0 < length part → list_all is_other part ≡ true → behind_blanks (part ++ rest) ≡ part ++ rest
      left_alone [] rest some others = absurd (omega arith)
      left_alone (b ∷ part) rest some others =
          let parts = and_parts (is_other b) (list_all is_other part) others in
          skip_one b (part ++ rest) false (not_true_is (is_blank b) parts.0)

      whole : some_part (length part) (part ++ rest) ≡ Some (part, rest)
      whole =
          let some : eqb (length part) 0 ≡ false = ne_eqb (length part) 0 (λ e. omega (arith, e, f.filled)) in
          rw (some, take_at part rest (length part) refl, drop_at part rest (length part) refl) refl

-- blanks alone are no part
pub none_again : (text : List ℕ) → list_all is_blank text ≡ true → part_at text ≡ None
unfolding part_at
none_again [] e = refl
none_again (b ∷ text) e =
    let parts = and_parts (is_blank b) (list_all is_blank text) e in
    ap (λ (u : List ℕ). some_part (part_len u) u) (skip_one b text true parts.0) ∙ none_again text parts.1

some_step : (n : ℕ) (text : List ℕ) → some_part (suc n) text ≡ done (take (suc n) text, drop (suc n) text)
some_step n text =
    let some : eqb (suc n) 0 ≡ false = ne_eqb (suc n) 0 (λ e. omega (arith, e)) in
    ap (λ (t : Bool). where_true (not t) (take (suc n) text, drop (suc n) text)) some

some_there : (x : List ℕ × List ℕ) → done x ≡ None → ⊥
some_there x e = cc

pub none_takes : (text : List ℕ) → part_at text ≡ None → list_all is_blank text ≡ true
unfolding part_at
none_takes [] e = refl
none_takes (b ∷ text) e = by_blank (is_blank b) refl (λ h. none_takes text h) where
  by_blank : (blank : Bool) → is_blank b ≡ blank → (part_at text ≡ None → list_all is_blank text ≡ true) → list_all is_blank (b ∷ text) ≡ true
  by_blank true is later = ap₂ ◌&&◌ is (later (sym (ap (λ (u : List ℕ). some_part (part_len u) u) (skip_one b text true is)) ∙ e))
  by_blank false is later =
      absurd
      (let u = ap (λ (u : List ℕ). some_part (part_len u) u) (skip_one b text false is) in
      let n = ap (λ (n : ℕ). some_part n (b ∷ text)) (len_one b text false is) in
      some_there (take (suc (part_len text)) (b ∷ text), drop (suc (part_len text)) (b ∷ text)) (sym (some_step (part_len text) (b ∷ text)) ∙ sym n ∙ sym u ∙ e))
