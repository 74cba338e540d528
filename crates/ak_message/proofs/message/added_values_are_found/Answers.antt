use Rattle.ak_message.proofs.Finding.{added_values_are_found-proof}
use Rattle.ak_message.proofs.message.added_values_are_found.Goals as goal

pub returns : goal.returns
returns c = added_values_are_found-proof
