-- The text of one field of a message
use Rattle.std.specs.Prelude.{ℕ, List, ◌∷◌, ◌++◌}
use Rattle.ak_message.specs.Message.{FieldData, nested_values}
use Rattle.ak_input.specs.MessageText.{nested_values_text}

-- a space, its name, `=` and its values
abbrev pub field_text : FieldData → List ℕ
field_text f = 32 ∷ f.name ++ 61 ∷ nested_values_text (nested_values f.values)
