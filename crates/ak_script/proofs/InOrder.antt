-- What is read of words in their order tells what they are.
use Rattle.std.proofs.Common.{◌≡◌, ℕ, true, List, [], ◌∷◌, Some, refl, ap, ◌∙◌}
use Rattle.std.specs.Str.{bytes_eq}
use Rattle.std.proofs.lemmas.Slice.Eq.{bytes_eq-Decides}
use Rattle.ak_base.specs.Option.{where_true}
use Rattle.ak_describe.specs.Words.{behind, ends, first_of}
use Rattle.ak_script.specs.Forms.{only}
use Rattle.ak_script.proofs.Outcomes.{bind_is, where_is}

pub first_is : (words : List (List ℕ)) (x : List ℕ × List (List ℕ)) → first_of words ≡ Some x → words ≡ x.0 ∷ x.1
first_is [] x e = absurd cc
first_is (w ∷ words) x e = let same : (w, words) ≡ x = cc in ap (λ (y : List ℕ × List (List ℕ)). y.0 ∷ y.1) same

pub ends_is : (words : List (List ℕ)) → ends words ≡ true → words ≡ []
ends_is [] e = refl
ends_is (w ∷ words) e = absurd cc

pub only_is : (words : List (List ℕ)) (word : List ℕ) → only words ≡ Some word → words ≡ word ∷ []
only_is words word e =
    let first = bind_is (first_of words) (λ (x : List ℕ × List (List ℕ)). where_true (ends x.1) x.0) word e in
    let alone = where_is (ends first.value.1) first.value.0 word first.then_is in
    first_is words first.value first.is ∙ ap (λ (ws : List (List ℕ)). first.value.0 ∷ ws) (ends_is first.value.1 alone.0) ∙ ap (λ (w : List ℕ). w ∷ []) alone.1

pub behind_is : (words : List (List ℕ)) (key : List ℕ) (rest : List (List ℕ)) → behind words key ≡ Some rest → words ≡ key ∷ rest
behind_is [] key rest e = absurd cc
behind_is (w ∷ words) key rest e =
    let found = where_is (bytes_eq w key) words rest e in
    ap (λ (v : List ℕ). v ∷ words) ((bytes_eq-Decides w key).0 found.0) ∙ ap (λ (ws : List (List ℕ)). key ∷ ws) found.1

pub equal_is : (w v : List ℕ) → w ≡ v → bytes_eq w v ≡ true
equal_is w v e = (bytes_eq-Decides w v).1 e
