-- A field of texts that grows by a text at a time.
use Rattle.std.proofs.Common.{◌≡◌, ℕ, ◌+◌, ◌<◌, Bool, true, false, cond, List, [], ◌∷◌, ◌++◌, length, map, get_or, take, Option, None, Some, refl, ap, sym, ◌∙◌, arith, tests}
use Rattle.std.specs.Option.{option_or}
use Rattle.std.specs.Str.{bytes_eq}
use Rattle.std.proofs.lemmas.List.{length-append, length-map, map-append, take_more}
use Rattle.std.proofs.lemmas.List.Folds.{find-append}
use Rattle.std.proofs.lemmas.Slice.Eq.{bytes_eq-Decides}
use Rattle.ak_base.specs.Word.{is_word}
use Rattle.ak_message.specs.declared.kind.Kind.TheVariants as k
use Rattle.ak_message.specs.Message.{FieldData, MessageData, ValueData, text_value}
use Rattle.ak_message.specs.Fields.{is_named, field_named, added, add_fault, place_fault}
use Rattle.ak_property.specs.Suites.{texts_field}

-- ---- behind fields of other names
found-after : (before more : List FieldData) (name : List ℕ) → field_named before name ≡ None → field_named (before ++ more) name ≡ field_named more name
found-after before more name n = find-append (is_named name) before more ∙ ap (λ o. option_or o (field_named more name)) n

first-differs : (f : FieldData) (o : Option FieldData) (b : Bool) → cond b (Some f) o ≡ None → (b ≡ false) × (o ≡ None)
first-differs f o true e = absurd cc
first-differs f o false e = (refl, e)

added-after : (before more : List FieldData) (name : List ℕ) (value : ValueData) → field_named before name ≡ None → added (before ++ more) name value ≡ before ++ added more name value
added-after [] more name value n = refl
added-after (f ∷ before) more name value n =
    let rest = first-differs f (field_named before name) (is_named name f) n in
    rw rest.0 (ap (λ fs. f ∷ fs) (added-after before more name value rest.1))

-- ---- one more text
is_named-refl : (name : List ℕ) → bytes_eq name name ≡ true
is_named-refl name = (bytes_eq-Decides name name).1 refl

text-in_field : (name : List ℕ) (ts : List (List ℕ)) (t : List ℕ) → added (texts_field name ts) name (text_value t) ≡ texts_field name (ts ++ t ∷ [])
text-in_field name [] t = refl
text-in_field name (x ∷ ts) t = rw (is_named-refl name, map-append text_value ts (t ∷ [])) refl

place-fits : (count : ℕ) (name : List ℕ) (ts : List (List ℕ)) → count < 64 → length ts < 255 → place_fault (count + length (texts_field name ts)) (field_named (texts_field name ts) name) k.Text ≡ None
place-fits count name [] room small = grind (arith, tests)
place-fits count name (x ∷ ts) room small = rw (is_named-refl name) (grind (arith, tests, length-map))

pub text-fits : (before : List FieldData) (name : List ℕ) (ts : List (List ℕ)) (t : List ℕ) → is_word name ≡ true → field_named before name ≡ None → length before < 64 → length ts < 255 → add_fault (before ++ texts_field name ts) name (text_value t) ≡ None
text-fits before name ts t w n room small =
    rw (w, found-after before (texts_field name ts) name n, length-append before (texts_field name ts), place-fits (length before) name ts room small) refl

pub text-added : (before : List FieldData) (name : List ℕ) (ts : List (List ℕ)) (t : List ℕ) → field_named before name ≡ None → added (before ++ texts_field name ts) name (text_value t) ≡ before ++ texts_field name (ts ++ t ∷ [])
text-added before name ts t n =
    added-after before (texts_field name ts) name (text_value t) n ∙ ap (λ fs. before ++ fs) (text-in_field name ts t)

-- the message after an addition of an equal text
pub texts-grown : (first old new : MessageData) (name : List ℕ) (ts more : List (List ℕ)) (t copy : List ℕ) → field_named first.fields name ≡ None → old ≡ record first { fields = first.fields ++ texts_field name ts } → copy ≡ t → new ≡ record old { fields = added old.fields name (text_value copy) } → more ≡ ts ++ t ∷ [] → new ≡ record first { fields = first.fields ++ texts_field name more }
texts-grown first old new name ts more t copy n before equal after grown =
    let one = text-added first.fields name ts t n in
    after
    ∙ ap (λ (u : List ℕ). record old { fields = added old.fields name (text_value u) }) equal
    ∙ ap (λ (m : MessageData). record m { fields = added m.fields name (text_value t) }) before
    ∙ ap (λ (fs : List FieldData). record first { fields = fs }) (one ∙ ap (λ us. first.fields ++ texts_field name us) (sym grown))

-- ---- the elements so far, and one more
pub one-more : {A : Type 0} (xs : List A) (i : ℕ) (x : A) → i < length xs → x ≡ get_or xs i x → take (i + 1) xs ≡ take i xs ++ x ∷ []
one-more xs i x h e = take_more xs i x h ∙ ap (λ y. take i xs ++ y ∷ []) (sym e)

pub map-one_more : {A : Type 0} (f : A → List ℕ) (xs : List A) (i : ℕ) (x : A) → i < length xs → x ≡ get_or xs i x → map f (take (i + 1) xs) ≡ map f (take i xs) ++ f x ∷ []
map-one_more f xs i x h e = ap (map f) (one-more xs i x h e) ∙ map-append f (take i xs) (x ∷ [])
