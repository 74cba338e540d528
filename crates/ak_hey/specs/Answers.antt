-- When an answer is the one that reading gives: unless memory ran out it always is.
use Rattle.std.specs.Prelude.{◌≡◌, ℕ, Option, Some, None, Result, Ok, Err}
use Rattle.ak_base.specs.declared.app_word.AppWord.{AppWord}
use Rattle.ak_base.specs.declared.limited.Limited.{Limited}
use Rattle.ak_base.specs.declared.limited.Limited.TheVariants.{Within, Over}
use Rattle.ak_input.specs.declared.parse_fault.ParseFault.{ParseFault}
use Rattle.ak_input.specs.declared.parse_fault.ParseFault.TheVariants as parse
use Rattle.ak_message.specs.Message.{MessageData}
use Rattle.ak_hey.specs.declared.HeyLine.{HeyLine}
use Rattle.ak_hey.specs.declared.fault.HeyFault.{HeyFault}
use Rattle.ak_hey.specs.declared.fault.HeyFault.TheVariants as answer
use Rattle.ak_hey.specs.declared.fault.WordFault.{WordFault}
use Rattle.ak_hey.specs.declared.fault.WordFault.TheVariants as word

-- ---- a word
abbrev pub Fails : {Y : Type 0} → WordFault → Option Y → Type 0
Fails word.Bad read = read ≡ None
Fails word.NoMemory read = Unit {0}

-- the answer, seen by the view, is what reading gives
abbrev pub Gives : {X Y : Type 0} → (X → Y) → Result X WordFault → Option Y → Type 0
Gives view (Ok x) read = read ≡ Some (view x)
Gives view (Err e) read = Fails e read

-- what was read, where it passes no limit
abbrev pub kept : {X : Type 0} → Result X ParseFault → Result (Limited X) WordFault
kept (Ok x) = Ok (Within x)
kept (Err parse.BadValue) = Err word.Bad
kept (Err parse.Limit) = Ok Over
kept (Err parse.NoMemory) = Err word.NoMemory

-- what is bad is told by this column
abbrev pub Columns : {X : Type 0} → Result X HeyFault → Result X WordFault → ℕ → Type 0
Columns result (Ok x) column = result ≡ Ok x
Columns result (Err word.Bad) column = result ≡ Err (answer.Bad column)
Columns result (Err word.NoMemory) column = result ≡ Err answer.NoMemory

-- ---- all words
abbrev pub IsTold : HeyFault → Result (AppWord × Limited MessageData) ℕ → Type 0
IsTold (answer.Bad column) read = read ≡ Err column
IsTold answer.TooLong read = (app : AppWord) × (read ≡ Ok (app, Over))
IsTold answer.NoMemory read = Unit {0}

-- the answer, seen by the view, is what reading gives; a message that passes a limit is TooLong
abbrev pub Answers : (HeyLine → AppWord × Limited MessageData) → Result HeyLine HeyFault → Result (AppWord × Limited MessageData) ℕ → Type 0
Answers view (Ok line) read = read ≡ Ok (view line)
Answers view (Err e) read = IsTold e read
