-- What a reader's answer tells of its text: what the text says, or that it says nothing, or a limit that it passes.
use Rattle.std.specs.Prelude.{ℕ, List, Vec, map, Option, None, Some, Result, Ok, Err}
use Rattle.std.specs.declared.alloc.Global.{Global}
use Rattle.ak_base.specs.declared.code.Code.{Code}
use Rattle.ak_base.specs.declared.limited.Limited.{Limited}
use Rattle.ak_base.specs.declared.limited.Limited.TheVariants.{Within, Over}
use Rattle.ak_message.specs.declared.kind.Kind.{Kind}
use Rattle.ak_message.specs.declared.message.Value.{Value}
use Rattle.ak_message.specs.Message.{ValueData, MessageData}
use Rattle.ak_message.specs.Seen.{value_of}
use Rattle.ak_input.specs.declared.parse_fault.ParseFault.{ParseFault}
use Rattle.ak_input.specs.declared.parse_fault.ParseFault.TheVariants as fault
use Rattle.ak_input.specs.declared.reading.ReadValue.{ReadValue}
use Rattle.ak_input.specs.Got.{Got, GotValues, got, over}
use Rattle.ak_input.specs.ReadSeen.{got_of}
use Rattle.ak_input.specs.Said.{WritesCode, WritesText, WritesValue, WritesValues, WritesMessage}

abbrev values_got : Kind → Limited (List ValueData) → GotValues
values_got kind values = record { kind = kind; values = values }

-- the value, and no other; memory may run out in place of any answer
abbrev pub TellsValue : Result Value ParseFault → List ℕ → Type 0
TellsValue (Ok v) text = WritesValue text (got (value_of v))
TellsValue (Err fault.BadValue) text = (g : Got) → ¬ (WritesValue text g)
TellsValue (Err fault.Limit) text = (kind : Kind) × WritesValue text (over kind)
TellsValue (Err fault.NoMemory) text = Unit {0}

-- the same with its kind, which is told of one that passes a limit too
abbrev pub TellsKind : Option ReadValue → List ℕ → Type 0
TellsKind (Some read) text = WritesValue text (got_of read)
TellsKind None text = (g : Got) → ¬ (WritesValue text g)

-- the values of a field
abbrev pub TellsValues : Result (Vec Value Global) ParseFault → List ℕ → Type 0
TellsValues (Ok vs) text = (kind : Kind) × WritesValues text (values_got kind (Within (map value_of vs.items)))
TellsValues (Err fault.BadValue) text = (read : GotValues) → ¬ (WritesValues text read)
TellsValues (Err fault.Limit) text = (kind : Kind) × WritesValues text (values_got kind Over)
TellsValues (Err fault.NoMemory) text = Unit {0}

abbrev pub TellsMessage : Result MessageData ParseFault → List (List ℕ) → Type 0
TellsMessage (Ok m) words = WritesMessage words (Within m)
TellsMessage (Err fault.BadValue) words = (m : Limited MessageData) → ¬ (WritesMessage words m)
TellsMessage (Err fault.Limit) words = WritesMessage words Over
TellsMessage (Err fault.NoMemory) words = Unit {0}

abbrev pub TellsText : Result (List ℕ) ParseFault → List ℕ → Type 0
TellsText (Ok bytes) word = WritesText word (Within bytes)
TellsText (Err fault.BadValue) word = (text : Limited (List ℕ)) → ¬ (WritesText word text)
TellsText (Err fault.Limit) word = WritesText word Over
TellsText (Err fault.NoMemory) word = Unit {0}

abbrev pub TellsCode : Option Code → List ℕ → Type 0
TellsCode (Some code) word = WritesCode word code
TellsCode None word = (code : Code) → ¬ (WritesCode word code)
