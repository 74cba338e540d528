-- What a write took comes after what was written before.
use Rattle.std.proofs.Common.{arith}
use Rattle.ak_outside.proofs.Joins.{Appends-take, take-rest}
use Rattle.ak_outside.proofs.writing.write_all.Goals as goal

pub loop-taken-preserved : goal.loop-taken-preserved
loop-taken-preserved g c = record {
  in_piece = grind arith;
  appended = Appends-take _ _ _ _ _ _ c.loop-taken.invariant.appended (rw take-rest at c.in-Wrote.ensures.bytes.2);
  kept = grind (arith, c.in-Wrote.ensures.kept);
}
