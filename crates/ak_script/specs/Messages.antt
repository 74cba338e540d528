-- The messages that statements make.
use Rattle.std.specs.Prelude.{ℕ, pos, List, [], ◌∷◌, length, codes}
use Rattle.ak_base.specs.Code.{code_of}
use Rattle.ak_message.specs.declared.kind.Kind.{Kind}
use Rattle.ak_message.specs.declared.kind.Kind.TheVariants as k
use Rattle.ak_message.specs.Message.{ValueData, FieldData, MessageData, int32_value}
use Rattle.ak_property.specs.Suites.{texts_field}

abbrev pub field_of : List ℕ → Kind → ValueData → FieldData
field_of name kind value = record { name = name; kind = kind; values = value ∷ [] }

-- the message that tells of arguments: how many there are, and each of them
abbrev pub arguments_of : List (List ℕ) → MessageData
arguments_of texts =
    record { what = code_of (codes "_ARG"); fields = field_of (codes "argc") k.Int32 (int32_value (pos (length texts))) ∷ texts_field (codes "argv") texts; popped = 0 }
