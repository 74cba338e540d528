-- What is written, piece by piece.
use Rattle.std.proofs.Common.{◌≡◌, ℕ, ◌+◌, List, ◌∷◌, ◌++◌, drop, Some, ap, sym, ◌∙◌, append_assoc}
use Rattle.std.specs.List.{slice_get}
use Rattle.std.proofs.lemmas.Option.{slice_get_within, get_or_from_slice_get}
use Rattle.std.proofs.lemmas.List.{drop_more}
use Rattle.ak_message.specs.Message.{FieldData, nested_fields}
use Rattle.ak_input.specs.MessageText.{nested_fields_text}
use Rattle.ak_print.specs.Fields.{field_text}

-- one more piece of what is left
pub goes_on : (out after text piece left rest : List ℕ) → out ++ left ≡ text → left ≡ piece ++ rest → after ≡ out ++ piece → after ++ rest ≡ text
goes_on out after text piece left rest so_far split is =
    ap (λ (t : List ℕ). t ++ rest) is ∙ append_assoc out piece rest ∙ ap (λ (t : List ℕ). out ++ t) (sym split) ∙ so_far

-- the next field, and those behind it
pub fields_split : (fs : List FieldData) (i : ℕ) (f : FieldData) → Some f ≡ slice_get fs i → nested_fields_text (nested_fields (drop i fs)) ≡ field_text f ++ nested_fields_text (nested_fields (drop (i + 1) fs))
fields_split fs i f is =
    let at_i = get_or_from_slice_get fs i f f (sym is) in
    let more : drop i fs ≡ f ∷ drop (i + 1) fs = drop_more fs i f (slice_get_within fs i f (sym is)) ∙ ap (λ (g : FieldData). g ∷ drop (i + 1) fs) at_i in
    ap (λ (gs : List FieldData). nested_fields_text (nested_fields gs)) more
