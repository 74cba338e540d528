-- One more is copied.
use Rattle.ak_action.proofs.Copies.{copied-next}
use Rattle.ak_action.proofs.properties.copied.Goals as goal

pub loop-elements-preserved : goal.loop-elements-preserved
loop-elements-preserved c =
    copied-next _ _ _ _ _ _ c.loop-elements-test.true c.elements-item.is c.in_ok-try_clone.ensures c.loop-elements.invariant c.in_ok-push.ensures.items
