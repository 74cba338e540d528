-- The bytes so far and those to come are all.
use Rattle.std.proofs.Common.{◌≡◌, ◌<◌, drop, None}
use Rattle.std.specs.Prelude.{IfSome}
use Rattle.ak_input.specs.Payload.{raw_from}
use Rattle.ak_input.proofs.TextLoop.{bytes_behind}
use Rattle.ak_input.proofs.quoted.raw_from.Given as goal

abbrev pub invariant-loop-b : goal.invariant-loop-b
invariant-loop-b l =
    record {
      so_far : bytes_behind l.bytes (raw_from l.high (drop l.b-index l.text)) ≡ raw_from None l.text;
      digit : IfSome l.high (λ d. d < 16);
    }
