-- One more is copied.
use Rattle.ak_action.proofs.Copies.{copied-next}
use Rattle.ak_action.proofs.plan.copies.copied_rows.Goals as goal

pub loop-row-preserved : goal.loop-row-preserved
loop-row-preserved c =
    copied-next _ _ _ _ _ _ c.loop-row-test.true c.row-item.is c.in_ok-try_clone.ensures c.loop-row.invariant c.in_ok-push.ensures.items
