-- A key and a number, or nothing, are read as what they say.
use Rattle.std.proofs.Common.{◌≡◌, ◌<◌, ◌^◌, arith, ℕ, Bool, List, [], ◌∷◌, ◌++◌, codes, Option, Some, None, refl, ap, subst, ◌∙◌}
use Rattle.std.specs.Prelude.{option_map, nat_le}
use Rattle.std.proofs.lemmas.Bool.{le-leb}
use Rattle.ak_base.specs.Option.{where_true, ◌>>=◌}
use Rattle.ak_input.specs.Payload.{uint_within}
use Rattle.ak_input.specs.Written.{WritesNumber}
use Rattle.ak_input.proofs.Surface.{number_takes, number_again}
use Rattle.ak_describe.specs.Words.{behind, first_of}
use Rattle.ak_script.specs.Forms.{number_from, number_behind, looper_at, or_zero, most_looper}
use Rattle.ak_script.specs.Says.{SayNumber, SayPlace}
use Rattle.ak_script.proofs.InOrder.{behind_is, first_is, equal_is}
use Rattle.ak_script.proofs.Outcomes.{bind_is, mapped_is, where_is}

-- ---- the number that a word writes
pub within_takes : (most : ℕ) (word : List ℕ) (n : ℕ) → most < 10 ^ 20 → uint_within most word ≡ Some n → WritesNumber 0 most word n
within_takes most word n small e =
    number_takes 0 most word n small (ap (λ (o : Option ℕ). o >>= λ (m : ℕ). where_true (nat_le 0 m) m) e ∙ ap (λ (b : Bool). where_true b n) (le-leb 0 n (omega arith)))

pub within_again : (most : ℕ) (word : List ℕ) (n : ℕ) → most < 10 ^ 20 → WritesNumber 0 most word n → uint_within most word ≡ Some n
within_again most word n small written =
    let b = bind_is (uint_within most word) (λ (m : ℕ). where_true (nat_le 0 m) m) n (number_again 0 most word n small written) in
    let w = where_is (nat_le 0 b.value) b.value n b.then_is in
    b.is ∙ ap some_number w.1
  where
    some_number : ℕ → Option ℕ
    some_number m = Some m

-- ---- a key and a number, or nothing
-- the words of the part, and those behind it
pub record Numbered (key : List ℕ) (most : ℕ) (words : List (List ℕ)) (given : Option ℕ) (rest : List (List ℕ)) : Type 0 where
  pub part : List (List ℕ)
  pub parts : words ≡ part ++ rest
  pub says : SayNumber key most part given

from_key : (key : List ℕ) (most : ℕ) → most < 10 ^ 20 → (words : List (List ℕ)) (o : Option (List (List ℕ))) (x : Option ℕ × List (List ℕ)) → behind words key ≡ o → number_from most words o ≡ Some x → Numbered key most words x.0 x.1
from_key key most small words None x is e =
    let same : (None, words) ≡ x = cc in
    subst (λ (y : Option ℕ × List (List ℕ)). Numbered key most words y.0 y.1) same (record { part = []; parts = refl; says = refl })
from_key key most small words (Some rest) x is e =
    let first = bind_is (first_of rest) (λ (y : List ℕ × List (List ℕ)). uint_within most y.0 >>= λ (n : ℕ). Some (Some n, y.1)) x e in
    let number = bind_is (uint_within most first.value.0) (λ (n : ℕ). Some (Some n, first.value.1)) x first.then_is in
    let same : (Some number.value, first.value.1) ≡ x = cc in
    subst (λ (y : Option ℕ × List (List ℕ)). Numbered key most words y.0 y.1) same (record {
      part = key ∷ first.value.0 ∷ [];
      parts = behind_is words key rest is ∙ ap (λ (ws : List (List ℕ)). key ∷ ws) (first_is rest first.value first.is);
      says = (first.value.0, refl, within_takes most first.value.0 number.value small number.is);
    })

pub number_is : (key : List ℕ) (most : ℕ) → most < 10 ^ 20 → (words : List (List ℕ)) (x : Option ℕ × List (List ℕ)) → number_behind key most words ≡ Some x → Numbered key most words x.0 x.1
unfolding number_behind
number_is key most small words x e = from_key key most small words (behind words key) x refl e

-- where it is left out, what follows does not begin with the key
pub keyed_again : (key : List ℕ) (most : ℕ) → most < 10 ^ 20 → (part : List (List ℕ)) (given : Option ℕ) (rest : List (List ℕ)) → SayNumber key most part given → behind rest key ≡ None → number_behind key most (part ++ rest) ≡ Some (given, rest)
unfolding number_behind
keyed_again key most small part None rest says absent = ap (λ (ws : List (List ℕ)). number_from most (ws ++ rest) (behind (ws ++ rest) key)) says ∙ ap (number_from most rest) absent
keyed_again key most small part (Some n) rest says absent =
    ap (λ (ws : List (List ℕ)). number_from most (ws ++ rest) (behind (ws ++ rest) key)) says.1
    ∙ ap (λ (b : Bool). number_from most (key ∷ says.0 ∷ rest) (where_true b (says.0 ∷ rest))) (equal_is key key refl)
    ∙ ap (λ (o : Option ℕ). o >>= λ (m : ℕ). Some (Some m, rest)) (within_again most says.0 n small says.2)

-- ---- the place of a looper
pub record Placed (words : List (List ℕ)) (place : ℕ) (rest : List (List ℕ)) : Type 0 where
  pub part : List (List ℕ)
  pub parts : words ≡ part ++ rest
  pub says : SayPlace part place

pub place_is : (words : List (List ℕ)) (place : ℕ) (rest : List (List ℕ)) → looper_at words ≡ Some (place, rest) → Placed words place rest
place_is words place rest e =
    let m = mapped_is (number_behind (codes "looper") most_looper words) (λ (x : Option ℕ × List (List ℕ)). (or_zero x.0, x.1)) (place, rest) e in
    let n = number_is (codes "looper") most_looper (omega arith) words m.value m.is in
    let same_place : or_zero m.value.0 ≡ place = ap (λ (y : ℕ × List (List ℕ)). y.0) m.then_is in
    let same_rest : m.value.1 ≡ rest = ap (λ (y : ℕ × List (List ℕ)). y.1) m.then_is in
    record { part = n.part; parts = n.parts ∙ ap (λ (ws : List (List ℕ)). n.part ++ ws) same_rest; says = (m.value.0, n.says, same_place) }

pub place_again : (part : List (List ℕ)) (place : ℕ) (rest : List (List ℕ)) → SayPlace part place → behind rest (codes "looper") ≡ None → looper_at (part ++ rest) ≡ Some (place, rest)
place_again part place rest says absent =
    ap (option_map (λ (x : Option ℕ × List (List ℕ)). (or_zero x.0, x.1))) (keyed_again (codes "looper") most_looper (omega arith) part says.0 rest says.1 absent)
    ∙ ap (λ (n : ℕ). some_place n) says.2
  where
    some_place : ℕ → Option (ℕ × List (List ℕ))
    some_place n = Some (n, rest)
