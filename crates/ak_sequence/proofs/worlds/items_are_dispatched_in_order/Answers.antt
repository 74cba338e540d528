use Rattle.ak_sequence.proofs.Order.{dispatched_in_order}
use Rattle.ak_sequence.proofs.worlds.items_are_dispatched_in_order.Goals as goal

pub returns : goal.returns
returns c = dispatched_in_order
