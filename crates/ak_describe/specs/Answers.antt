-- When an answer is the one that reading gives: unless memory ran out it always is.
use Rattle.std.specs.Prelude.{◌≡◌, Option, Some, None, Result, Ok, Err}
use Rattle.ak_base.specs.declared.ending.RefusalKind.{RefusalKind}
use Rattle.ak_base.specs.declared.ending.RefusalKind.TheVariants as refusal
use Rattle.ak_describe.specs.declared.fault.DescribeFault.{DescribeFault}
use Rattle.ak_describe.specs.declared.fault.DescribeFault.TheVariants as answer
use Rattle.ak_describe.specs.declared.fault.FormFault.{FormFault}
use Rattle.ak_describe.specs.declared.fault.FormFault.TheVariants as form
use Rattle.ak_describe.specs.declared.fault.LineFault.{LineFault}
use Rattle.ak_describe.specs.declared.fault.LineFault.TheVariants as faults
use Rattle.ak_describe.specs.declared.named.Need.{Need}
use Rattle.ak_describe.specs.Pass.{Refusal}

-- ---- a form: where it has none, it is none
abbrev pub Fails : {Y : Type 0} → FormFault → Option Y → Type 0
Fails form.BadValue read = read ≡ None
Fails form.NoMemory read = Unit {0}

-- the answer, seen by the view, is what reading gives
abbrev pub Gives : {X Y : Type 0} → (X → Y) → Result X FormFault → Option Y → Type 0
Gives view (Ok x) read = read ≡ Some (view x)
Gives view (Err e) read = Fails e read

-- ---- a line: its faults are those of these kinds
abbrev pub IsRefused : {Y : Type 0} → LineFault → Result Y RefusalKind → Type 0
IsRefused faults.UnknownLine read = read ≡ Err refusal.UnknownLine
IsRefused faults.BadValue read = read ≡ Err refusal.BadValue
IsRefused faults.NameInUse read = read ≡ Err refusal.NameInUse
IsRefused faults.Limit read = read ≡ Err refusal.Limit
IsRefused faults.NoMemory read = Unit {0}

-- the answer is what reading gives
abbrev pub Tells : {Y : Type 0} → Result Y LineFault → Result Y RefusalKind → Type 0
Tells (Ok x) read = read ≡ Ok x
Tells (Err e) read = IsRefused e read

-- the part and the name that are there then are those that reading gives
abbrev pub Leaves : {P : Type 0} → Result (Option Need) LineFault → P → Result (P × Option Need) RefusalKind → Type 0
Leaves (Ok need) left read = read ≡ Ok (left, need)
Leaves (Err e) left read = IsRefused e read

-- what reading gives is there then
abbrev pub Reaches : {X P : Type 0} → Result X LineFault → P → Result P RefusalKind → Type 0
Reaches (Ok _) left read = read ≡ Ok left
Reaches (Err e) left read = IsRefused e read

-- ---- all lines
abbrev pub refused : Refusal → DescribeFault
refused r = answer.Refused r.line r.kind

abbrev pub IsTold : {Y : Type 0} → DescribeFault → Result Y Refusal → Type 0
IsTold (answer.Refused number kind) read = read ≡ Err (record { line = number; kind = kind })
IsTold answer.NoMemory read = Unit {0}

-- the answer, seen by the view, is what reading gives
abbrev pub Answers : {X Y : Type 0} → (X → Y) → Result X DescribeFault → Result Y Refusal → Type 0
Answers view (Ok x) read = read ≡ Ok (view x)
Answers view (Err e) read = IsTold e read
