-- The word of a field is its name, the first `=` of the word, and what stands behind.
use Rattle.std.proofs.Common.{◌≡◌, ℕ, ◌+◌, eqb, List, ◌∷◌, ◌++◌, length, get_or, take, drop, Option, Some, refl, sym, ap, subst, ◌∙◌, true}
use Rattle.std.proofs.lemmas.Bool.{eqb-true}
use Rattle.std.proofs.lemmas.List.{drop_more, take-append-drop, take_at}
use Rattle.std.proofs.lemmas.List.Quantifiers.{position-Some}
use Rattle.ak_base.specs.Word.{is_word_byte, is_word}
use Rattle.ak_base.proofs.Surface.{bind_some, cond_some, word_parts}
use Rattle.ak_base.specs.Option.{where_true, ◌>>=◌}
use Rattle.ak_input.specs.Reading.{equals_in, field_split}
use Rattle.ak_input.proofs.ValuesAgain.{position_again, drop_past}

pub split_again : (name text : List ℕ) → is_word name ≡ true → field_split (name ++ 61 ∷ text) ≡ Some (name, text)
unfolding field_split
split_again name text word =
    rw (position_again is_word_byte 61 name text (word_parts name word).1 refl, take_at name (61 ∷ text) (length name) refl, drop_past name 61 text, word) refl

abbrev split_at : List ℕ → ℕ → Option (List ℕ × List ℕ)
split_at word place = where_true (is_word (take place word)) (take place word, drop (place + 1) word)

split-place : (word : List ℕ) → field_split word ≡ (equals_in word >>= split_at word)
unfolding field_split
split-place word = refl

pub split_takes : (word : List ℕ) (field : List ℕ × List ℕ) → field_split word ≡ Some field → (word ≡ field.0 ++ 61 ∷ field.1) × (is_word field.0 ≡ true)
split_takes word field e =
    let s = bind_some (equals_in word) (split_at word) field (sym (split-place word) ∙ e) in
    let t = cond_some (is_word (take s.0 word)) (take s.0 word, drop (s.0 + 1) word) field s.2 in
    let p = position-Some (λ b. eqb b 61) word s.0 0 s.1 in
    let rest : drop s.0 word ≡ 61 ∷ drop (s.0 + 1) word = drop_more word s.0 0 p.0 ∙ ap (λ (b : ℕ). b ∷ drop (s.0 + 1) word) (eqb-true (get_or word s.0 0) 61 p.1) in
    let all : word ≡ take s.0 word ++ 61 ∷ drop (s.0 + 1) word = sym (take-append-drop s.0 word) ∙ ap (λ (r : List ℕ). take s.0 word ++ r) rest in
    subst (λ (f : List ℕ × List ℕ). (word ≡ f.0 ++ 61 ∷ f.1) × (is_word f.0 ≡ true)) t.1 (all, t.0)
