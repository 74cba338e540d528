-- Faults as they are passed on.
use Rattle.std.specs.Prelude.{ℕ, Result, Ok, Err}
use Rattle.ak_base.specs.declared.ending.RefusalKind.TheVariants as refusal
use Rattle.ak_base.specs.declared.limited.Limited.{Limited}
use Rattle.ak_base.specs.declared.limited.Limited.TheVariants.{Within, Over}
use Rattle.ak_action.specs.declared.action.ActionFault.{ActionFault}
use Rattle.ak_action.specs.declared.action.ActionFault.TheVariants as actions
use Rattle.ak_action.specs.declared.values.ValuesFault.{ValuesFault}
use Rattle.ak_action.specs.declared.values.ValuesFault.TheVariants as values
use Rattle.ak_filter.specs.declared.list.FilterFault.{FilterFault}
use Rattle.ak_filter.specs.declared.list.FilterFault.TheVariants as filters
use Rattle.ak_input.specs.declared.parse_fault.ParseFault.{ParseFault}
use Rattle.ak_input.specs.declared.parse_fault.ParseFault.TheVariants as read
use Rattle.ak_value.specs.declared.fault.ElementFault.{ElementFault}
use Rattle.ak_value.specs.declared.fault.ElementFault.TheVariants as elements
use Rattle.ak_describe.specs.declared.fault.DescribeFault.{DescribeFault}
use Rattle.ak_describe.specs.declared.fault.DescribeFault.TheVariants as answer
use Rattle.ak_describe.specs.declared.fault.FormFault.{FormFault}
use Rattle.ak_describe.specs.declared.fault.FormFault.TheVariants as form
use Rattle.ak_describe.specs.declared.fault.LineFault.{LineFault}
use Rattle.ak_describe.specs.declared.fault.LineFault.TheVariants as line

abbrev pub line_fault : FormFault → LineFault
line_fault form.BadValue = line.BadValue
line_fault form.NoMemory = line.NoMemory

abbrev pub filter_fault : FilterFault → LineFault
filter_fault filters.FilterLimit = line.Limit
filter_fault filters.NoMemory = line.NoMemory

abbrev pub action_fault : ActionFault → LineFault
action_fault actions.ActionLimit = line.Limit
action_fault actions.NoMemory = line.NoMemory

-- an element of another kind is a bad value, and one too many a limit
abbrev pub element_fault : ElementFault → LineFault
element_fault elements.ElementLimit = line.Limit
element_fault elements.NoMemory = line.NoMemory
element_fault elements.BadScript = line.BadValue
element_fault elements.BadValue = line.BadValue
element_fault elements.BadType = line.BadValue
element_fault elements.NameNotFound = line.BadValue
element_fault elements.BadIndex = line.BadValue

abbrev pub fault_at : LineFault → ℕ → DescribeFault
fault_at line.UnknownLine number = answer.Refused number refusal.UnknownLine
fault_at line.BadValue number = answer.Refused number refusal.BadValue
fault_at line.NameInUse number = answer.Refused number refusal.NameInUse
fault_at line.Limit number = answer.Refused number refusal.Limit
fault_at line.NoMemory number = answer.NoMemory

-- what was read, where it passes no limit
abbrev pub kept : {T : Type 0} → Result T ParseFault → Result (Limited T) FormFault
kept (Ok x) = Ok (Within x)
kept (Err read.BadValue) = Err form.BadValue
kept (Err read.Limit) = Ok Over
kept (Err read.NoMemory) = Err form.NoMemory

-- a value that a field can't hold is a bad value
abbrev pub held_fault : ValuesFault → FormFault
held_fault values.NoMemory = form.NoMemory
held_fault values.BadType = form.BadValue
held_fault values.ValueLimit = form.BadValue
held_fault values.TooDeep = form.BadValue

abbrev pub held : {T : Type 0} → Result T ValuesFault → Result T FormFault
held (Ok x) = Ok x
held (Err e) = Err (held_fault e)
