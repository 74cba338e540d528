-- What is read of a text is what the text says, and no text says two things.
use Rattle.std.specs.Prelude.{◌≡◌, ℕ, ◌↔◌, ◌<◌, List, Some}
use Rattle.ak_base.specs.declared.app_word.AppWord.{AppWord}
use Rattle.ak_base.specs.declared.code.Code.{Code}
use Rattle.ak_base.specs.declared.limited.Limited.{Limited}
use Rattle.ak_base.specs.declared.limited.Limited.TheVariants.{Within}
use Rattle.ak_message.specs.Fields.{IsField}
use Rattle.ak_message.specs.Limits.{depth_limit}
use Rattle.ak_message.specs.Message.{ValueData, FieldData, MessageData, nested_values, depth_of_nested_values}
use Rattle.ak_message.specs.Popped.{IsUnpoppedValue, AreUnpoppedValues, unpopped}
use Rattle.ak_message.specs.Whole.{FitsValue, FitsValues, IsWhole}
use Rattle.ak_input.specs.Got.{Got, GotValues, got}
use Rattle.ak_input.specs.MessageText.{value_text, nested_values_text, message_words}
use Rattle.ak_input.specs.Reading.{read_value, read_values, read_message}
use Rattle.ak_input.specs.Said.{SaysAppWord, WritesCode, WritesText, WritesValue, WritesValues, WritesMessage}
use Rattle.ak_input.specs.Written.{app_word_of, code_of, quoted_text}

-- ---- what is read is what is said
abbrev pub WrittenCodesAreRead : Type 0
WrittenCodesAreRead = (word : List ℕ) (code : Code) → WritesCode word code ↔ (code_of word ≡ Some code)

abbrev pub WrittenAppWordsAreRead : Type 0
WrittenAppWordsAreRead = (word : List ℕ) (app : AppWord) → SaysAppWord word app ↔ (app_word_of word ≡ Some app)

abbrev pub WrittenTextsAreRead : Type 0
WrittenTextsAreRead = (word : List ℕ) (text : Limited (List ℕ)) → WritesText word text ↔ (quoted_text word ≡ Some text)

abbrev pub WrittenValuesAreRead : Type 0
WrittenValuesAreRead = (text : List ℕ) (g : Got) → WritesValue text g ↔ (read_value text ≡ Some g)

abbrev pub WrittenFieldsAreRead : Type 0
WrittenFieldsAreRead = (text : List ℕ) (read : GotValues) → WritesValues text read ↔ (read_values text ≡ Some read)

abbrev pub WrittenMessagesAreRead : Type 0
WrittenMessagesAreRead = (words : List (List ℕ)) (m : Limited MessageData) → WritesMessage words m ↔ (read_message words ≡ Some m)

-- ---- one answer alone
abbrev pub OneValueOfText : Type 0
OneValueOfText = (text : List ℕ) (g h : Got) → WritesValue text g → WritesValue text h → g ≡ h

abbrev pub OneFieldOfText : Type 0
OneFieldOfText = (text : List ℕ) (g h : GotValues) → WritesValues text g → WritesValues text h → g ≡ h

abbrev pub OneMessageOfWords : Type 0
OneMessageOfWords = (words : List (List ℕ)) (m n : Limited MessageData) → WritesMessage words m → WritesMessage words n → m ≡ n

abbrev pub OneTextOfWord : Type 0
OneTextOfWord = (word : List ℕ) (s t : Limited (List ℕ)) → WritesText word s → WritesText word t → s ≡ t

-- ---- what is printed says what it is printed of
abbrev pub PrintedValuesAreWritten : Type 0
PrintedValuesAreWritten = (v : ValueData) → FitsValue v → IsUnpoppedValue v → WritesValue (value_text v) (got v)

abbrev pub PrintedFieldsAreWritten : Type 0
PrintedFieldsAreWritten =
    (f : FieldData)
    → IsField f
    → FitsValues (nested_values f.values)
    → AreUnpoppedValues (nested_values f.values)
    → depth_of_nested_values (nested_values f.values) < depth_limit
    → WritesValues (nested_values_text (nested_values f.values)) (record { kind = f.kind; values = Within f.values })

-- a message says itself with nothing popped
abbrev pub PrintedMessagesAreWritten : Type 0
PrintedMessagesAreWritten = (m : MessageData) → IsWhole m → WritesMessage (message_words m) (Within (unpopped m))
