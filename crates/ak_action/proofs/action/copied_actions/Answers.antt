-- One more is copied.
use Rattle.ak_action.proofs.Copies.{copied-next}
use Rattle.ak_action.proofs.action.copied_actions.Goals as goal

pub loop-action-preserved : goal.loop-action-preserved
loop-action-preserved c =
    copied-next _ _ _ _ _ _ c.loop-action-test.true c.action-item.is c.in_ok-try_clone.ensures c.loop-action.invariant c.in_ok-push.ensures.items
