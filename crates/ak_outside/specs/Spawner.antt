-- What asking for a start does to the calls of a spawner. Nothing is said of one that does not tell its calls.
use Rattle.std.specs.Prelude.{◌≡◌, ◌↔◌, Bool, Option, Some, IfSome, IsTrue, if◌then◌else◌}
use Rattle.ak_outside.specs.Calls.{Calls, RefusesNext, with_call, with_fault}
use Rattle.ak_outside.specs.Faults.{raised}

-- one more start was asked for, and was refused exactly where it is one of those that are
abbrev pub Asks : Option Calls → Option Calls → Bool → Type 0
Asks old new is_refused =
    IfSome old (λ calls. (IsTrue is_refused ↔ RefusesNext calls) × (new ≡ Some (if is_refused then with_fault calls else with_call calls)))

-- one fault more was counted, and no start
abbrev pub CountsFault : Option Calls → Option Calls → Type 0
CountsFault old new = IfSome old (λ calls. new ≡ Some (record calls { faults = raised calls.faults }))

-- one more start was asked for, which is none of those that are refused, and no fault was counted
abbrev pub HasStarted : Option Calls → Option Calls → Type 0
HasStarted old new = IfSome old (λ calls. (¬ RefusesNext calls) × (new ≡ Some (with_call calls)))

-- one more start was asked for, and was counted as a fault
abbrev pub HasGivenBack : Option Calls → Option Calls → Type 0
HasGivenBack old new = IfSome old (λ calls. new ≡ Some (with_fault calls))
