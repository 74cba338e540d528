-- The message that tells the suites and properties of a handler.
use Rattle.std.specs.Prelude.{ℕ, List, [], ◌∷◌, ◌++◌, codes, map, pos}
use Rattle.ak_base.specs.Code.{code_of}
use Rattle.ak_message.specs.declared.kind.Kind.TheVariants as k
use Rattle.ak_message.specs.Message.{FieldData, MessageData, text_value, int32_value}
use Rattle.ak_message.specs.Fields.{new_field}
use Rattle.ak_property.specs.declared.table.PropertyRow.{PropertyRow}

-- the field of these texts; no field without a text
abbrev pub texts_field : List ℕ → List (List ℕ) → List FieldData
texts_field name [] = []
texts_field name (t ∷ ts) = (record { name = name; kind = k.Text; values = map text_value (t ∷ ts) }) ∷ []

abbrev pub names_of : List PropertyRow → List (List ℕ)
names_of rows = map (λ row. row.name) rows

abbrev pub suites_reply : List (List ℕ) → List PropertyRow → MessageData
suites_reply suites rows =
    record {
      what = code_of (codes "RPLY");
      fields = texts_field (codes "suites") suites ++ texts_field (codes "properties") (names_of rows)
          ++ new_field (codes "error") (int32_value (pos 0)) ∷ [];
      popped = 0;
    }
