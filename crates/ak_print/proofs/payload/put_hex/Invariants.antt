-- What is written, and then what is still to be written, is the whole.
use Rattle.std.proofs.Common.{◌≡◌, ◌++◌, drop}
use Rattle.std.specs.List.{flat_map}
use Rattle.ak_base.specs.Code.{hex_of}
use Rattle.ak_print.proofs.payload.put_hex.Given as goal

abbrev pub invariant-loop-byte : goal.invariant-loop-byte
invariant-loop-byte l = l.out ++ flat_map hex_of (drop l.byte-index l.bytes) ≡ l.fn.out ++ flat_map hex_of l.bytes
