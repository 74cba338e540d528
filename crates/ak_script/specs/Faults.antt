-- What a fault of a part comes to in the whole.
use Rattle.std.specs.Prelude.{ℕ, Result, Ok, Err}
use Rattle.ak_base.specs.declared.ending.RefusalKind.TheVariants as refusal
use Rattle.ak_base.specs.declared.limited.Limited.{Limited}
use Rattle.ak_base.specs.declared.limited.Limited.TheVariants.{Within, Over}
use Rattle.ak_input.specs.declared.parse_fault.ParseFault.{ParseFault}
use Rattle.ak_input.specs.declared.parse_fault.ParseFault.TheVariants as parse
use Rattle.ak_input.specs.declared.lines.LinesFault.{LinesFault}
use Rattle.ak_input.specs.declared.lines.LinesFault.TheVariants as lines
use Rattle.ak_describe.specs.Pass.{Refusal}
use Rattle.ak_describe.specs.declared.fault.DescribeFault.{DescribeFault}
use Rattle.ak_describe.specs.declared.fault.DescribeFault.TheVariants as descriptions
use Rattle.ak_hey.specs.declared.fault.HeyFault.{HeyFault}
use Rattle.ak_hey.specs.declared.fault.HeyFault.TheVariants as hey
use Rattle.ak_script.specs.declared.fault.FormFault.{FormFault}
use Rattle.ak_script.specs.declared.fault.FormFault.TheVariants as form
use Rattle.ak_script.specs.declared.fault.ScriptFault.{ScriptFault}
use Rattle.ak_script.specs.declared.fault.ScriptFault.TheVariants as script
use Rattle.ak_script.specs.declared.fault.StatementFault.{StatementFault}
use Rattle.ak_script.specs.declared.fault.StatementFault.TheVariants as faults

abbrev pub lines_fault : LinesFault → ScriptFault
lines_fault (lines.TooLong line) = script.Refused line refusal.InputTooLong
lines_fault lines.NoMemory = script.NoMemory

abbrev pub describe_fault : DescribeFault → ScriptFault
describe_fault (descriptions.Refused line kind) = script.Refused line kind
describe_fault descriptions.NoMemory = script.NoMemory

-- the first fault
abbrev pub told : Refusal → ScriptFault
told r = script.Refused r.line r.kind

-- of the line with that number
abbrev pub fault_at : StatementFault → ℕ → ScriptFault
fault_at faults.UnknownLine line = script.Refused line refusal.UnknownLine
fault_at (faults.BadHey column) line = script.Refused line (refusal.BadHey column)
fault_at faults.BadValue line = script.Refused line refusal.BadValue
fault_at faults.Limit line = script.Refused line refusal.Limit
fault_at faults.NoMemory line = script.NoMemory

abbrev pub form_fault : FormFault → StatementFault
form_fault form.BadValue = faults.BadValue
form_fault form.NoMemory = faults.NoMemory

abbrev pub hey_fault : HeyFault → StatementFault
hey_fault (hey.Bad column) = faults.BadHey column
hey_fault hey.TooLong = faults.Limit
hey_fault hey.NoMemory = faults.NoMemory

-- what was read, where it passes no limit; what passes one was read without it
abbrev pub kept : {T : Type 0} → Result T ParseFault → Result (Limited T) FormFault
kept (Ok x) = Ok (Within x)
kept (Err parse.Limit) = Ok Over
kept (Err parse.BadValue) = Err form.BadValue
kept (Err parse.NoMemory) = Err form.NoMemory

-- what passes a limit is told by that
abbrev pub message_from : {T : Type 0} → Result T ParseFault → Result T StatementFault
message_from (Ok x) = Ok x
message_from (Err parse.BadValue) = Err faults.BadValue
message_from (Err parse.Limit) = Err faults.Limit
message_from (Err parse.NoMemory) = Err faults.NoMemory
