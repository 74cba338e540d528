-- What a read that failed had taken comes after what came before.
use Rattle.ak_outside.proofs.Joins.{ConsumesAtMost-after, OnErr-always}
use Rattle.ak_outside.proofs.reading.read_all.Goals as goal

pub returns-in_err-n-clause-err : goal.returns-in_err-n-clause-err
returns-in_err-n-clause-err g c =
    let loop = c.loop-room.invariant in
    OnErr-always c.from_residual.result (ConsumesAtMost-after _ _ _ _ _ _ loop.consumed loop.counted c.in_err-n.ensures.err)
