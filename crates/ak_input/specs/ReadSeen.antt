-- What a reader's answer is seen as.
use Rattle.std.specs.Prelude.{◌≡◌, ℕ, List, Vec, map, Option, None, Some, option_map, Result, Ok, Err}
use Rattle.std.specs.Borrow.{Bor}
use Rattle.std.specs.declared.alloc.Global.{Global}
use Rattle.ak_base.specs.declared.limited.Limited.{Limited}
use Rattle.ak_base.specs.declared.limited.Limited.TheVariants.{Within, Over}
use Rattle.ak_base.specs.Limited.{limited_map}
use Rattle.ak_message.specs.declared.message.Value.{Value}
use Rattle.ak_input.specs.declared.reading.ReadValue.{ReadValue}
use Rattle.ak_input.specs.declared.reading.ReadValues.{ReadValues}
use Rattle.ak_input.specs.declared.reading.Building.{Building}
use Rattle.ak_message.specs.declared.kind.Kind.TheVariants as k
use Rattle.ak_message.specs.Message.{text_value, MessageData}
use Rattle.ak_input.specs.Reading.{Got, GotValues, Built, got, over}
use Rattle.ak_message.specs.Seen.{value_of}
use Rattle.ak_input.specs.declared.parse_fault.ParseFault.{ParseFault}
use Rattle.ak_input.specs.declared.parse_fault.ParseFault.TheVariants as fault

-- no form, or no memory; a reader of a form tests no limit
abbrev pub Fails : {Y : Type 0} → ParseFault → Option Y → Type 0
Fails fault.BadValue read = read ≡ None
Fails fault.Limit read = ⊥
Fails fault.NoMemory read = Unit {0}

-- the answer, seen by the view, is what reading gives, unless memory ran out
abbrev pub Gives : {X Y : Type 0} → (X → Y) → Result X ParseFault → Option Y → Type 0
Gives view (Ok x) read = read ≡ Some (view x)
Gives view (Err e) read = Fails e read

abbrev pub seen : Bor (List ℕ) → List ℕ
seen bytes = bytes.now

abbrev pub got_of : ReadValue → Got
got_of r = record { kind = r.kind; value = limited_map value_of r.value }

abbrev pub got_values_of : ReadValues → GotValues
got_values_of r = record { kind = r.kind; values = limited_map (λ vs. map value_of vs.items) r.values }

abbrev pub built_of : Building → Built
built_of b = record { names = map seen b.names.keys; message = b.message }

abbrev pub pair_of : Bor (List ℕ) × Bor (List ℕ) → List ℕ × List ℕ
pair_of x = (x.0.now, x.1.now)

-- a value that was read; one that passes a limit was read without it
abbrev pub GivesValue : Result Value ParseFault → Option Got → Type 0
GivesValue (Ok v) read = option_map (λ g. g.value) read ≡ Some (Within (value_of v))
GivesValue (Err fault.BadValue) read = read ≡ None
GivesValue (Err fault.Limit) read = option_map (λ g. g.value) read ≡ Some Over
GivesValue (Err fault.NoMemory) read = Unit {0}

-- a text that was read; one that is too long was read without it
abbrev pub GivesText : Result (List ℕ) ParseFault → Option Got → Type 0
GivesText (Ok bytes) read = read ≡ Some (got (text_value bytes))
GivesText (Err fault.BadValue) read = read ≡ None
GivesText (Err fault.Limit) read = read ≡ Some (over k.Text)
GivesText (Err fault.NoMemory) read = Unit {0}

-- a message that was read; one that passes a limit was read without it
abbrev pub GivesMessage : Result MessageData ParseFault → Option (Limited MessageData) → Type 0
GivesMessage (Ok m) read = read ≡ Some (Within m)
GivesMessage (Err fault.BadValue) read = read ≡ None
GivesMessage (Err fault.Limit) read = read ≡ Some Over
GivesMessage (Err fault.NoMemory) read = Unit {0}

-- values that were read; those that pass a limit were read without them
abbrev pub GivesValues : Result (Vec Value Global) ParseFault → Option GotValues → Type 0
GivesValues (Ok vs) read = option_map (λ g. g.values) read ≡ Some (Within (map value_of vs.items))
GivesValues (Err fault.BadValue) read = read ≡ None
GivesValues (Err fault.Limit) read = option_map (λ g. g.values) read ≡ Some Over
GivesValues (Err fault.NoMemory) read = Unit {0}
