-- What is printed is read back.
use Rattle.std.specs.Prelude.{◌≡◌, ◌<◌, List, map, Some, IsUtf8}
use Rattle.ak_base.specs.declared.limited.Limited.TheVariants.{Within}
use Rattle.ak_input.specs.declared.line.Word.{Word}
use Rattle.ak_message.specs.Fields.{IsField}
use Rattle.ak_message.specs.Limits.{depth_limit}
use Rattle.ak_message.specs.Message.{ValueData, FieldData, MessageData, nested_values, depth_of_nested_values}
use Rattle.ak_input.specs.MessageText.{value_text, nested_values_text, message_text, message_words}
use Rattle.ak_message.specs.Popped.{IsUnpoppedValue, AreUnpoppedValues, IsUnpopped, unpopped}
use Rattle.ak_input.specs.Reading.{got, read_value, read_values, read_message}
use Rattle.ak_message.specs.Whole.{FitsValue, FitsValues, IsWhole}
use Rattle.ak_input.specs.Words.{IsLine}

-- a value that is sound at every depth, with nothing popped in it, is read from its text
abbrev pub PrintedValuesAreRead : Type 0
PrintedValuesAreRead = (v : ValueData) → FitsValue v → IsUnpoppedValue v → read_value (value_text v) ≡ Some (got v)

-- and so are the values of a field, of which a message is at most 15 deep
abbrev pub PrintedFieldsAreRead : Type 0
PrintedFieldsAreRead =
    (f : FieldData)
    → IsField f
    → FitsValues (nested_values f.values)
    → AreUnpoppedValues (nested_values f.values)
    → depth_of_nested_values (nested_values f.values) < depth_limit
    → read_values (nested_values_text (nested_values f.values)) ≡ Some (record { kind = f.kind; values = Within f.values })

-- a message that is sound at every depth, with nothing popped, is read from the words of its text
abbrev pub PrintedMessagesAreRead : Type 0
PrintedMessagesAreRead = (m : MessageData) → IsWhole m → IsUnpopped m → read_message (message_words m) ≡ Some (Within m)

-- whatever is popped of it, at any depth, it is read with nothing popped
abbrev pub PrintedWithoutPopped : Type 0
PrintedWithoutPopped = (m : MessageData) → IsWhole m → read_message (message_words m) ≡ Some (Within (unpopped m))

-- the words of a message are those of its text, as a line has them
abbrev pub PrintedWordsAreThere : Type 0
PrintedWordsAreThere =
    (m : MessageData)
    → IsWhole m
    → (words : List Word) × IsLine 1 (message_text m) words × (map (λ (word : Word). word.bytes) words ≡ message_words m)

-- a line is split only where it is UTF-8
abbrev pub PrintedTextsAreUtf8 : Type 0
PrintedTextsAreUtf8 = (m : MessageData) → IsWhole m → IsUtf8 (message_text m)
