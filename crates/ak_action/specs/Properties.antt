-- The elements of a handler's properties, and what is done to those of one of them.
use Rattle.std.specs.Prelude.{ℕ, if◌then◌else◌, is_some, List, Option, None, Some, slice_get, slice_set, codes, Result, Ok, Err}
use Rattle.ak_message.specs.declared.kind.Kind.{Kind}
use Rattle.ak_message.specs.declared.specifier.At.{At}
use Rattle.ak_message.specs.declared.fault.FindFault.{FindFault}
use Rattle.ak_message.specs.Fields.{found_in}
use Rattle.ak_message.specs.Message.{ValueData, MessageData, kind_of}
use Rattle.ak_value.specs.declared.fault.ElementFault.{ElementFault}
use Rattle.ak_value.specs.declared.fault.ElementFault.TheVariants as fault
use Rattle.ak_value.specs.Access.{Accessed, access_of}
use Rattle.ak_value.specs.Elements.{ElementsData, set_first_fault, with_first}

-- why the first element of the property at a place cannot get a value of that kind
abbrev pub set_fault_in : Option ElementsData → Kind → Option ElementFault
set_fault_in None kind = Some fault.BadIndex
set_fault_in (Some e) kind = set_first_fault e kind

abbrev pub set_fault_at : List ElementsData → ℕ → Kind → Option ElementFault
set_fault_at list place kind = set_fault_in (slice_get list place) kind

-- the value where nothing speaks against it, else as they were
abbrev pub first_set : ElementsData → ValueData → ElementsData
first_set e value = if is_some (set_first_fault e (kind_of value)) then e else with_first e value

-- the elements of one property become what `change` makes of them
abbrev pub changed_in : (ElementsData → ElementsData) → List ElementsData → ℕ → Option ElementsData → List ElementsData
changed_in change list place None = list
changed_in change list place (Some e) = slice_set list place (change e)

abbrev pub changed_at : (ElementsData → ElementsData) → List ElementsData → ℕ → List ElementsData
changed_at change list place = changed_in change list place (slice_get list place)

abbrev pub with_first_at : List ElementsData → ℕ → ValueData → List ElementsData
with_first_at list place value = changed_at (λ e. first_set e value) list place

-- ---- the result of a reply
abbrev pub result_set : ElementsData → Result ValueData FindFault → ElementsData
result_set e (Ok value) = first_set e value
result_set e (Err _) = e

abbrev pub with_result_at : List ElementsData → ℕ → MessageData → List ElementsData
with_result_at list place reply = changed_at (λ e. result_set e (found_in reply.fields (codes "result") e.kind 0)) list place

-- ---- a command
pub record AccessedAt : Type 0 where
  pub list : List ElementsData
  pub values : Option (List ValueData)

abbrev pub accessed_in : List ElementsData → ℕ → Result Accessed ElementFault → Result AccessedAt ElementFault
accessed_in list place (Ok a) = Ok (record { list = slice_set list place a.elements; values = a.values })
accessed_in list place (Err e) = Err e

abbrev pub access_in : List ElementsData → ℕ → Option ElementsData → ℕ → At → MessageData → Result AccessedAt ElementFault
access_in list place None what at m = Err fault.BadScript
access_in list place (Some e) what at m = accessed_in list place (access_of e what at m)

abbrev pub access_at : List ElementsData → ℕ → ℕ → At → MessageData → Result AccessedAt ElementFault
access_at list place what at m = access_in list place (slice_get list place) what at m
