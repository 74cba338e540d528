-- The text of a message, as a line, has the words of the message.
use Rattle.std.proofs.Common.{◌≡◌, ℕ, ◌+◌, true, false, eqb, List, [], ◌∷◌, ◌++◌, length, map, refl, sym, ap, subst, arith}
use Rattle.std.specs.Prelude.{All}
use Rattle.std.proofs.lemmas.Bool.{or_parts}
use Rattle.std.proofs.lemmas.List.Elements.{All-head, All-tail}
use Rattle.ak_base.specs.Code.{code_text}
use Rattle.ak_input.specs.declared.line.Word.{Word}
use Rattle.ak_input.specs.declared.marks.Marks.{Marks}
use Rattle.ak_message.specs.Fields.{IsField}
use Rattle.ak_input.specs.Laws.{PrintedWordsAreThere}
use Rattle.ak_input.specs.Marks.{is_blank, start, is_outside}
use Rattle.ak_message.specs.Message.{NestedFields, no_fields, then_field, FieldData, listed_values, nested_fields, listed_fields}
use Rattle.ak_message.specs.MessageCode.{listed_fields-nested}
use Rattle.ak_input.specs.MessageText.{nested_values_text, nested_fields_text, field_texts}
use Rattle.ak_message.specs.Whole.{FitsFields}
use Rattle.ak_input.specs.Words.{GoesOn, IsWordText, is_end, IsLine}
use Rattle.ak_input.proofs.MessagesAgain.{filled, code_filled}
use Rattle.ak_input.proofs.Passing.{word_end, Passes}
use Rattle.ak_input.proofs.PiecesAgain.{field_passes, code_passes_word}

-- ---- a word

goes_on : (text : List ℕ) (m last : Marks) → Passes word_end m text last → is_outside last ≡ true → GoesOn m text
goes_on [] m last h out = subst (λ (x : Marks). is_outside x ≡ true) (sym h) out
goes_on (b ∷ text) m last h out = (h.0, (h.1.0, h.1.1, goes_on text h.1.0 last h.1.2 out))

is_word_text : (text : List ℕ) → Passes word_end start text start → eqb (length text) 0 ≡ false → IsWordText text
is_word_text [] h some = some
is_word_text (b ∷ text) h some = ((or_parts (is_blank b) (eqb b 91) h.0).0, (h.1.0, h.1.1, goes_on text h.1.0 start h.1.2 refl))

-- ---- the words behind the first one, the first of which stands behind a blank at this column

abbrev words_at : ℕ → NestedFields → List Word
words_at column no_fields = []
words_at column (then_field name kind vs fs) =
    (record { column = column + 1; bytes = name ++ 61 ∷ nested_values_text vs }) ∷ words_at (column + 1 + length (name ++ 61 ∷ nested_values_text vs)) fs

ends_there : (fs : NestedFields) → is_end (nested_fields_text fs) ≡ true
ends_there no_fields = refl
ends_there (then_field name kind vs fs) = refl

bytes_at : (column : ℕ) (fs : NestedFields) → map (λ (word : Word). word.bytes) (words_at column fs) ≡ field_texts fs
bytes_at column no_fields = refl
bytes_at column (then_field name kind vs fs) =
    ap (λ (ws : List (List ℕ)). (name ++ 61 ∷ nested_values_text vs) ∷ ws) (bytes_at (column + 1 + length (name ++ 61 ∷ nested_values_text vs)) fs)

line_at : (column : ℕ) (fs : NestedFields) → All IsField (listed_fields fs) → FitsFields fs → IsLine column (nested_fields_text fs) (words_at column fs)
line_at column no_fields every fits = refl
line_at column (then_field name kind vs fs) every fits =
    let f : FieldData = record { name = name; kind = kind; values = listed_values vs } in
    let first = All-head IsField f (listed_fields fs) every in
    let later = All-tail IsField f (listed_fields fs) every in (
      32 ∷ [],
      nested_fields_text fs,
      record {
        parts = refl;
        blanks = refl;
        place = omega arith;
        form = is_word_text (name ++ 61 ∷ nested_values_text vs) (field_passes name vs first.word fits.0) (filled name 61 (nested_values_text vs));
        ends = ends_there fs;
      },
      line_at (column + 1 + length (name ++ 61 ∷ nested_values_text vs)) fs later fits.1,
    )

abbrev first_word : List ℕ → Word
first_word bytes = record { column = 1; bytes = bytes }

pub words_are_there : PrintedWordsAreThere
words_are_there m whole =
    let every : All IsField (listed_fields (nested_fields m.fields)) = subst (λ (fs : List FieldData). All IsField fs) (sym (listed_fields-nested m.fields)) whole.0.every_field in (
      first_word (code_text m.what) ∷ words_at (1 + length (code_text m.what)) (nested_fields m.fields),
      (
        [],
        nested_fields_text (nested_fields m.fields),
        record {
          parts = refl;
          blanks = refl;
          place = omega arith;
          form = is_word_text (code_text m.what) (code_passes_word m.what) (code_filled m.what);
          ends = ends_there (nested_fields m.fields);
        },
        line_at (1 + length (code_text m.what)) (nested_fields m.fields) every whole.1,
      ),
      ap (λ (ws : List (List ℕ)). code_text m.what ∷ ws) (bytes_at (1 + length (code_text m.what)) (nested_fields m.fields)),
    )
