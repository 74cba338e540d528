-- So many of them are removed.
use Rattle.std.proofs.Common.{◌≡◌}
use Rattle.ak_value.proofs.Parts.{without}
use Rattle.ak_value.proofs.access.remove_from.Given as goal

abbrev pub invariant-loop : goal.invariant-loop
invariant-loop l = l.list.items ≡ without l.part.from l.counter l.fn.list.items
