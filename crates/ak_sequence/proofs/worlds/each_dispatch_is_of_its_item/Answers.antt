use Rattle.ak_sequence.proofs.ItsItem.{each_of_its_item}
use Rattle.ak_sequence.proofs.worlds.each_dispatch_is_of_its_item.Goals as goal

pub returns : goal.returns
returns c = each_of_its_item
