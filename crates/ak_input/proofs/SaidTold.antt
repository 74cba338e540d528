-- What a reader answers tells what its text says.
use Rattle.std.proofs.Common.{◌≡◌, ℕ, List, map, Option, Some, None, Result, Ok, Err, IfSome, sym, ap, subst, ◌∙◌}
use Rattle.std.specs.Prelude.{IfOk, Vec, option_map}
use Rattle.std.specs.declared.alloc.Global.{Global}
use Rattle.ak_base.specs.Option.{◌>>=◌}
use Rattle.ak_base.specs.declared.limited.Limited.{Limited}
use Rattle.ak_base.specs.declared.limited.Limited.TheVariants.{Within, Over}
use Rattle.ak_base.specs.declared.no_memory.NoMemory.{NoMemory}
use Rattle.ak_message.specs.declared.kind.Kind.{Kind}
use Rattle.ak_message.specs.declared.message.Value.{Value}
use Rattle.ak_message.specs.Message.{ValueData, MessageData}
use Rattle.ak_message.specs.Seen.{value_of}
use Rattle.ak_input.specs.declared.parse_fault.ParseFault.{ParseFault}
use Rattle.ak_input.specs.declared.parse_fault.ParseFault.TheVariants as fault
use Rattle.ak_input.specs.declared.reading.ReadValue.{ReadValue}
use Rattle.ak_input.specs.Got.{Got, GotValues, got, over}
use Rattle.ak_input.specs.ReadSeen.{GivesMessage, GivesText, GivesValue, GivesValues, got_of}
use Rattle.ak_input.specs.Reading.{read_value, read_values, read_message, text_from}
use Rattle.ak_input.specs.Told.{TellsKind, TellsMessage, TellsText, TellsValue, TellsValues}
use Rattle.ak_input.specs.Written.{text_in}
use Rattle.ak_input.proofs.Fine.{Holds, IfWithin, IsFine, read_fine}
use Rattle.ak_input.proofs.NumberWords.{mapped_some}
use Rattle.ak_input.proofs.SaidLaw.{texts_are_written, values_are_written, fields_are_written, messages_are_written}

-- ---- values
abbrev got_as : Kind → Limited ValueData → Got
got_as kind value = record { kind = kind; value = value }

abbrev value_in : Got → Limited ValueData
value_in g = g.value

abbrev some_got : Got → Option Got
some_got g = Some g

-- the kind that is told is the value's
whole_value : (text : List ℕ) (v : ValueData) → option_map value_in (read_value text) ≡ Some (Within v) → read_value text ≡ Some (got v)
whole_value text v e =
    let m = mapped_some value_in (read_value text) (Within v) e in
    let fine = subst (λ (o : Option Got). IfSome o (IsFine 16)) m.1 (read_fine text) in
    let held : Holds 16 m.0.kind v = subst (λ (x : Limited ValueData). IfWithin x (Holds 16 m.0.kind)) m.2 fine in
    m.1 ∙ ap (λ (x : Limited ValueData). some_got (got_as m.0.kind x)) m.2 ∙ ap (λ (kind : Kind). some_got (got_as kind (Within v))) (sym held.kind_is)

pub value_told : (text : List ℕ) (r : Result Value ParseFault) → GivesValue r (read_value text) → TellsValue r text
value_told text (Ok v) h = (values_are_written text (got (value_of v))).1 (whole_value text (value_of v) h)
value_told text (Err fault.BadValue) h = λ g is. let read = (values_are_written text g).0 is in absurd cc
value_told text (Err fault.Limit) h =
    let m = mapped_some value_in (read_value text) Over h in
    (m.0.kind, (values_are_written text (over m.0.kind)).1 (m.1 ∙ ap (λ (x : Limited ValueData). some_got (got_as m.0.kind x)) m.2))
value_told text (Err fault.NoMemory) h = tt

kind_told : (text : List ℕ) (o : Option ReadValue) → option_map got_of o ≡ read_value text → TellsKind o text
kind_told text (Some r) h = (values_are_written text (got_of r)).1 (sym h)
kind_told text None h = λ g is. let read = h ∙ (values_are_written text g).0 is in absurd cc

pub kinds_told : (text : List ℕ) (r : Result (Option ReadValue) NoMemory) → IfOk r (λ o. option_map got_of o ≡ read_value text) → IfOk r (λ o. TellsKind o text)
kinds_told text (Ok o) h = kind_told text o h
kinds_told text (Err e) h = tt

-- ---- the values of a field
abbrev values_as : Kind → Limited (List ValueData) → GotValues
values_as kind values = record { kind = kind; values = values }

abbrev values_in : GotValues → Limited (List ValueData)
values_in read = read.values

abbrev some_values : GotValues → Option GotValues
some_values read = Some read

with_a_kind : (text : List ℕ) (values : Limited (List ValueData)) → option_map values_in (read_values text) ≡ Some values → (kind : Kind) × (read_values text ≡ Some (values_as kind values))
with_a_kind text values e =
    let m = mapped_some values_in (read_values text) values e in
    (m.0.kind, m.1 ∙ ap (λ (x : Limited (List ValueData)). some_values (values_as m.0.kind x)) m.2)

pub values_told : (text : List ℕ) (r : Result (Vec Value Global) ParseFault) → GivesValues r (read_values text) → TellsValues r text
values_told text (Ok vs) h =
    let read = with_a_kind text (Within (map value_of vs.items)) h in
    (read.0, (fields_are_written text (values_as read.0 (Within (map value_of vs.items)))).1 read.1)
values_told text (Err fault.BadValue) h = λ all is. let read = (fields_are_written text all).0 is in absurd cc
values_told text (Err fault.Limit) h =
    let read = with_a_kind text Over h in (read.0, (fields_are_written text (values_as read.0 Over)).1 read.1)
values_told text (Err fault.NoMemory) h = tt

-- ---- messages and texts
pub message_told : (words : List (List ℕ)) (r : Result MessageData ParseFault) → GivesMessage r (read_message words) → TellsMessage r words
message_told words (Ok m) h = (messages_are_written words (Within m)).1 h
message_told words (Err fault.BadValue) h = λ m is. let read = (messages_are_written words m).0 is in absurd cc
message_told words (Err fault.Limit) h = (messages_are_written words Over).1 h
message_told words (Err fault.NoMemory) h = tt

abbrev text_of_read : Option Got → Option (Limited (List ℕ))
text_of_read o = o >>= λ (g : Got). text_in g.value

pub text_told : (word : List ℕ) (r : Result (List ℕ) ParseFault) → GivesText r (text_from word) → TellsText r word
text_told word (Ok bytes) h = (texts_are_written word (Within bytes)).1 (ap text_of_read h)
text_told word (Err fault.BadValue) h = λ text is. let read = sym (ap text_of_read h) ∙ (texts_are_written word text).0 is in absurd cc
text_told word (Err fault.Limit) h = (texts_are_written word Over).1 (ap text_of_read h)
text_told word (Err fault.NoMemory) h = tt
