use Rattle.ak_sequence.proofs.Order.{written_in_order}
use Rattle.ak_sequence.proofs.worlds.items_are_written_in_order.Goals as goal

pub returns : goal.returns
returns c = written_in_order
