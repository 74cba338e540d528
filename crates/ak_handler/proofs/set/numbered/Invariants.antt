-- What is numbered so far, and what is left, makes up all of it.
use Rattle.std.proofs.Common.{◌≡◌, ◌++◌, length}
use Rattle.ak_handler.specs.Changes.{numbered_rows}
use Rattle.ak_handler.proofs.set.numbered.Given as goal

abbrev pub invariant-loop-name : goal.invariant-loop-name
invariant-loop-name g l =
    l.rows ++ numbered_rows (length l.rows) l.name-iterator.rest.items ≡ numbered_rows 0 l.fn.described.items
