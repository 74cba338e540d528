-- By the laws of ports.
use Rattle.uses_asks.proofs.Alone.{one_item_alone}
use Rattle.uses_asks.proofs.laws.one_item_is_alone.Goals as goal

pub returns : goal.returns
returns c =
    let items = c.written_is_taken_or_pending.ensures in
    one_item_alone items.each_once items.oldest_first c.ports_stay_within_limits.ensures
