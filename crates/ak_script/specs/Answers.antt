-- When an answer is the one that reading gives: unless memory ran out it always is.
use Rattle.std.specs.Prelude.{◌≡◌, Option, Some, None, Result, Ok, Err}
use Rattle.ak_base.specs.declared.ending.RefusalKind.{RefusalKind}
use Rattle.ak_base.specs.declared.ending.RefusalKind.TheVariants as refusal
use Rattle.ak_describe.specs.Pass.{Refusal}
use Rattle.ak_script.specs.declared.fault.FormFault.{FormFault}
use Rattle.ak_script.specs.declared.fault.FormFault.TheVariants as form
use Rattle.ak_script.specs.declared.fault.ScriptFault.{ScriptFault}
use Rattle.ak_script.specs.declared.fault.ScriptFault.TheVariants as answer
use Rattle.ak_script.specs.declared.fault.StatementFault.{StatementFault}
use Rattle.ak_script.specs.declared.fault.StatementFault.TheVariants as faults

-- ---- a form: where it has none, it is a bad value
abbrev pub Fails : {Y : Type 0} → FormFault → Option Y → Type 0
Fails form.BadValue read = read ≡ None
Fails form.NoMemory read = Unit {0}

-- the answer, seen by the view, is what reading gives
abbrev pub Gives : {X Y : Type 0} → (X → Y) → Result X FormFault → Option Y → Type 0
Gives view (Ok x) read = read ≡ Some (view x)
Gives view (Err e) read = Fails e read

-- ---- a statement: its faults are those of these kinds
abbrev pub IsRefused : {Y : Type 0} → StatementFault → Result Y RefusalKind → Type 0
IsRefused faults.UnknownLine read = read ≡ Err refusal.UnknownLine
IsRefused (faults.BadHey column) read = read ≡ Err (refusal.BadHey column)
IsRefused faults.BadValue read = read ≡ Err refusal.BadValue
IsRefused faults.Limit read = read ≡ Err refusal.Limit
IsRefused faults.NoMemory read = Unit {0}

-- the answer, seen by the view, is what reading gives
abbrev pub Tells : {X Y : Type 0} → (X → Y) → Result X StatementFault → Result Y RefusalKind → Type 0
Tells view (Ok x) read = read ≡ Ok (view x)
Tells view (Err e) read = IsRefused e read

-- ---- lines
abbrev pub IsTold : {Y : Type 0} → ScriptFault → Result Y Refusal → Type 0
IsTold (answer.Refused number kind) read = read ≡ Err (record { line = number; kind = kind })
IsTold answer.NoMemory read = Unit {0}

-- the answer, seen by the view, is what reading gives
abbrev pub Answers : {X Y : Type 0} → (X → Y) → Result X ScriptFault → Result Y Refusal → Type 0
Answers view (Ok x) read = read ≡ Ok (view x)
Answers view (Err e) read = IsTold e read

-- what reading gives is there then
abbrev pub Reaches : {X P : Type 0} → Result X ScriptFault → P → Result P Refusal → Type 0
Reaches (Ok _) left read = read ≡ Ok left
Reaches (Err e) left read = IsTold e read
