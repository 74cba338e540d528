-- One more is copied.
use Rattle.ak_desk.proofs.Copies.{copied-next}
use Rattle.ak_desk.proofs.built_in.copied.Goals as goal

pub loop-text-preserved : goal.loop-text-preserved
loop-text-preserved c =
    copied-next _ _ _ _ _ _ c.loop-text-test.true c.text-item.is c.in_ok-try_clone.ensures c.loop-text.invariant c.in_ok-push.ensures.items
