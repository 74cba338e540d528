-- The bytes so far and those to come are all.
use Rattle.std.proofs.Common.{◌≡◌, drop}
use Rattle.ak_input.specs.declared.marks.Quotes.TheVariants as q
use Rattle.ak_input.specs.Payload.{quoted_from}
use Rattle.ak_input.proofs.TextLoop.{bytes_behind}
use Rattle.ak_input.proofs.quoted.quoted_from.Given as goal

abbrev pub invariant-loop-b : goal.invariant-loop-b
invariant-loop-b l = bytes_behind l.bytes (quoted_from l.quotes (drop l.b-index l.text)) ≡ quoted_from q.Double l.text
