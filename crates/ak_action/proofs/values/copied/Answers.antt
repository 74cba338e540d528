-- One more is copied.
use Rattle.ak_message.specs.Seen.{value_of}
use Rattle.ak_action.proofs.Copies.{seen-next}
use Rattle.ak_action.proofs.values.copied.Goals as goal

pub loop-value-preserved : goal.loop-value-preserved
loop-value-preserved c =
    seen-next value_of _ _ _ _ _ _ c.loop-value-test.true c.value-item.is c.in_ok-try_clone.ensures c.loop-value.invariant c.in_ok-push.ensures.items
