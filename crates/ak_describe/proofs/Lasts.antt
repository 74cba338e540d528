-- The last word of a line, and the last one of a list as contracts see it.
use Rattle.std.proofs.Common.{◌≡◌, ℕ, ◌-◌, List, [], ◌∷◌, ◌++◌, length, map, Some, Result, Ok, Err, refl, ap, sym, ◌∙◌}
use Rattle.std.specs.Prelude.{slice_get, slice_set, option_map}
use Rattle.std.proofs.lemmas.List.{map-append, length-map, map-set}
use Rattle.std.proofs.lemmas.Option.{slice_get-map}
use Rattle.ak_base.specs.declared.ending.RefusalKind.{RefusalKind}
use Rattle.ak_input.specs.declared.line.Word.{Word}
use Rattle.ak_describe.specs.Pass.{last_item, with_item, on_item, on_last}
use Rattle.ak_describe.specs.Words.{texts, behind_first, last_of}

-- ---- the last word
pub last_of-push : (words : List (List ℕ)) (w : List ℕ) → last_of (words ++ w ∷ []) ≡ Some (w, words)
last_of-push [] w = refl
last_of-push (v ∷ words) w = ap (behind_first v) (last_of-push words w)

pub last_word : (words front : List Word) (w : Word) → words ≡ front ++ w ∷ [] → last_of (texts words) ≡ Some (w.bytes, texts front)
last_word words front w e =
    ap (λ (ws : List Word). last_of (texts ws)) e ∙ ap last_of (map-append (λ (v : Word). v.bytes) front (w ∷ [])) ∙ last_of-push (texts front) w.bytes

-- ---- the last one of a list
pub last_item-map : {A B : Type 0} (f : A → B) (xs : List A) → last_item (map f xs) ≡ option_map f (last_item xs)
last_item-map f xs = ap (λ (n : ℕ). slice_get (map f xs) (n - 1)) (length-map xs f) ∙ slice_get-map f xs (length xs - 1)

pub on_last-some : {A B C : Type 0} (f : A → B) (change : B → Result (B × C) RefusalKind) (xs : List A) (x : A) → last_item xs ≡ Some x → on_last change (map f xs) ≡ with_item (map f xs) (change (f x))
on_last-some f change xs x e = ap (on_item change (map f xs)) (last_item-map f xs ∙ ap (option_map f) e)

-- where it is refused, so is the list
pub with_item-err : {B C : Type 0} (ys : List B) (r : Result (B × C) RefusalKind) (kind : RefusalKind) → r ≡ Err kind → with_item ys r ≡ Err kind
with_item-err ys r kind e = ap (with_item ys) e

-- where it becomes another one, the list is written there
abbrev as_list : {B C : Type 0} → C → List B → Result (List B × C) RefusalKind
as_list c ys = Ok (ys, c)

pub with_item-ok : {A B C : Type 0} (f : A → B) (xs : List A) (y : A) (c : C) (r : Result (B × C) RefusalKind) → r ≡ Ok (f y, c) → with_item (map f xs) r ≡ as_list c (map f (slice_set xs (length xs - 1) y))
with_item-ok f xs y c r e =
    ap (with_item (map f xs)) e ∙ ap (λ (n : ℕ). as_list c (slice_set (map f xs) (n - 1) (f y))) (length-map xs f) ∙ ap (as_list c) (sym (map-set f xs (length xs - 1) y))
