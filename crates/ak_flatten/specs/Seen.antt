-- What contracts see of a reader, and of its answer.
use Rattle.std.specs.Prelude.{◌≡◌, Result, Ok, Err}
use Rattle.ak_flatten.specs.declared.fault.FlatFault.{FlatFault}
use Rattle.ak_flatten.specs.declared.fault.UnflattenFault.{UnflattenFault}
use Rattle.ak_flatten.specs.declared.fault.UnflattenFault.TheVariants as fault
use Rattle.ak_flatten.specs.declared.input.Input.{Input}
use Rattle.ak_flatten.specs.Reading.{Left}

abbrev pub left_of : Input → Left
left_of input = record { place = input.place; bytes = input.bytes.now }

-- the answer, seen by the view, is what reading gives
abbrev pub Reads : {X Y : Type 0} → (X → Y) → Result X FlatFault → Result Y FlatFault → Type 0
Reads view (Ok x) read = read ≡ Ok (view x)
Reads view (Err f) read = read ≡ Err f

abbrev pub Fails : {Y : Type 0} → UnflattenFault → Result Y FlatFault → Type 0
Fails fault.NoMemory read = Unit {0}
Fails (fault.Bad f) read = read ≡ Err f

-- the same, unless memory ran out
abbrev pub Gives : {X Y : Type 0} → (X → Y) → Result X UnflattenFault → Result Y FlatFault → Type 0
Gives view (Ok x) read = read ≡ Ok (view x)
Gives view (Err e) read = Fails e read
