use Rattle.std.proofs.Common.{ap, ◌∙◌}
use Rattle.ak_turn.specs.Entries.{made_by}
use Rattle.ak_turn.proofs.Surface.{knows_whole}
use Rattle.uses_objects.proofs.turns.four.whole.Goals as goal

pub returns : goal.returns
returns g c t made knows =
    let turn = c.lock.ensures in
    ap (made_by _ t) (c.keep.ensures ∙ turn.list) ∙ knows_whole _ t made _ _ knows turn.seen turn.known
