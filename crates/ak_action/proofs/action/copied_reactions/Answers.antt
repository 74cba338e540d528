-- One more is copied.
use Rattle.ak_action.proofs.Copies.{copied-next}
use Rattle.ak_action.proofs.action.copied_reactions.Goals as goal

pub loop-reaction-preserved : goal.loop-reaction-preserved
loop-reaction-preserved c =
    copied-next _ _ _ _ _ _ c.loop-reaction-test.true c.reaction-item.is c.in_ok-try_clone.ensures c.loop-reaction.invariant c.in_ok-push.ensures.items
