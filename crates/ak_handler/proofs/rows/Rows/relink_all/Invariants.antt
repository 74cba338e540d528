-- The rows so far are relinked, and the others are as they were.
use Rattle.std.proofs.Common.{◌≡◌}
use Rattle.ak_handler.specs.Changes.{relinked}
use Rattle.ak_handler.proofs.Relinking.{so_far}
use Rattle.ak_handler.proofs.rows.Rows.relink_all.Given as goal

abbrev pub invariant-loop-place : goal.invariant-loop-place
invariant-loop-place g l = l.self ≡ so_far (relinked l.token) l.fn.self l.place
