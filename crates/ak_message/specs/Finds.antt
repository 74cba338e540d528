-- What a search answers.
use Rattle.std.specs.Prelude.{◌≡◌, Result, Ok, Err}
use Rattle.std.specs.Borrow.{Bor}
use Rattle.ak_message.specs.declared.message.Value.{Value}
use Rattle.ak_message.specs.declared.fault.FindFault.{FindFault}
use Rattle.ak_message.specs.Message.{ValueData}
use Rattle.ak_message.specs.Seen.{value_of}

-- the reference is to the value that is found, or the fault is the one that comes
abbrev pub Finds : Result (Bor Value) FindFault → Result ValueData FindFault → Type 0
Finds (Ok value) found = found ≡ Ok (value_of value.now)
Finds (Err e) found = found ≡ Err e
