-- What is written, and then what is still to be written, is the whole.
use Rattle.std.proofs.Common.{◌≡◌, ◌++◌, drop}
use Rattle.std.specs.List.{flat_map}
use Rattle.ak_input.specs.MessageText.{quoted_byte}
use Rattle.ak_print.proofs.payload.put_escaped.Given as goal

abbrev pub invariant-loop-byte : goal.invariant-loop-byte
invariant-loop-byte l = l.out ++ flat_map quoted_byte (drop l.byte-index l.text) ≡ l.fn.out ++ flat_map quoted_byte l.text
