-- One more is copied.
use Rattle.ak_action.proofs.Copies.{copied-next}
use Rattle.ak_action.proofs.template.copied.Goals as goal

pub loop-field-preserved : goal.loop-field-preserved
loop-field-preserved c =
    copied-next _ _ _ _ _ _ c.loop-field-test.true c.field-item.is c.in_ok-try_clone.ensures c.loop-field.invariant c.in_ok-push.ensures.items
