use Rattle.ak_sequence.proofs.LastItem.{filled_behind_last}
use Rattle.ak_sequence.proofs.worlds.a_slot_is_filled_behind_its_last_item.Goals as goal

pub returns : goal.returns
returns c = filled_behind_last
