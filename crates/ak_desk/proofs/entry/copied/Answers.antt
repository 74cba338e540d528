-- One more is copied.
use Rattle.ak_desk.proofs.Copies.{copied-next}
use Rattle.ak_desk.proofs.entry.copied.Goals as goal

pub loop-word-preserved : goal.loop-word-preserved
loop-word-preserved c =
    copied-next _ _ _ _ _ _ c.loop-word-test.true c.word-item.is c.in_ok-copy.ensures c.loop-word.invariant c.in_ok-push.ensures.items
