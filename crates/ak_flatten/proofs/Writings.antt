-- What is written, piece by piece.
use Rattle.std.proofs.Common.{◌≡◌, ℕ, ◌+◌, ◌<◌, ◌≤◌, List, [], ◌∷◌, ◌++◌, length, get_or, map, drop, All, Option, Some, refl, ap, sym, subst, ◌∙◌, append_assoc, arith}
use Rattle.std.specs.List.{slice_get}
use Rattle.std.proofs.lemmas.Option.{slice_get_within, get_or_from_slice_get}
use Rattle.ak_base.specs.Word.{is_word}
use Rattle.ak_message.specs.Kind.{kind_letters}
use Rattle.ak_message.specs.Message.{FieldData, MessageData, nested_values, nested_fields}
use Rattle.ak_message.specs.Fields.{IsField}
use Rattle.ak_flatten.specs.Spelling.{values_bytes, fields_bytes, field_bytes, head_bytes, value_count, field_count, opening_bytes, spelling}
use Rattle.ak_flatten.proofs.Heads.{word_len}
use Rattle.ak_flatten.proofs.Messages.{value_count-nested, field_count-nested}

-- three pieces, one after another
pub three_pieces : (out a b c x y z : List ℕ) → a ≡ out ++ x → b ≡ a ++ y → c ≡ b ++ z → c ≡ out ++ (x ++ y ++ z)
three_pieces out a b c x y z p q r =
    r ∙ ap (λ (t : List ℕ). t ++ z) (q ∙ ap (λ (t : List ℕ). t ++ y) p) ∙ simp append_assoc

-- the values behind what stands before them, and the fields behind what stands before them
pub field_begins : (out front : List ℕ) (f : FieldData) (n : ℕ) → front ≡ out ++ head_bytes f.kind f.name n → n ≡ length f.values → front ++ values_bytes (nested_values f.values) ≡ out ++ field_bytes f
field_begins out front f n is count =
    let values = values_bytes (nested_values f.values) in
    let many : n ≡ value_count (nested_values f.values) = count ∙ sym (value_count-nested f.values) in
    ap (λ (t : List ℕ). t ++ values) (is ∙ ap (λ (k : ℕ). out ++ head_bytes f.kind f.name k) many) ∙ simp append_assoc

pub message_begins : (out front : List ℕ) (m : MessageData) (what n : ℕ) → front ≡ out ++ opening_bytes what n → what ≡ m.what → n ≡ length m.fields → front ++ fields_bytes (nested_fields m.fields) ≡ out ++ spelling m
message_begins out front m what n is code count =
    let fields = fields_bytes (nested_fields m.fields) in
    let many : n ≡ field_count (nested_fields m.fields) = count ∙ sym (field_count-nested m.fields) in
    ap (λ (t : List ℕ). t ++ fields) (is ∙ ap (λ (k : ℕ). out ++ opening_bytes k n) code ∙ ap (λ (k : ℕ). out ++ opening_bytes m.what k) many)
    ∙ append_assoc out (opening_bytes m.what (field_count (nested_fields m.fields))) fields

-- one more piece of what is left
pub goes_on : (out after text piece left rest : List ℕ) → out ++ left ≡ text → left ≡ piece ++ rest → after ≡ out ++ piece → after ++ rest ≡ text
goes_on out after text piece left rest so_far split is =
    ap (λ (t : List ℕ). t ++ rest) is ∙ append_assoc out piece rest ∙ ap (λ (t : List ℕ). out ++ t) (sym split) ∙ so_far

pub is_field_at : (fs : List FieldData) (i : ℕ) (f : FieldData) → All IsField fs → Some f ≡ slice_get fs i → IsField f
is_field_at fs i f every is =
    subst IsField (get_or_from_slice_get fs i f f (sym is)) (every i f (slice_get_within fs i f (sym is)))

pub name_short : (f : FieldData) → IsField f → length f.name ≤ 64
name_short f h = (word_len f.name h.word).1
