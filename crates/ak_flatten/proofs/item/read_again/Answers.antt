use Rattle.std.proofs.Common.{sym}
use Rattle.ak_flatten.proofs.Items.{spelled_as_spells}
use Rattle.ak_flatten.proofs.item.read_again.Goals as goal

pub returns-in-Ok : goal.returns-in-Ok
returns-in-Ok c = sym (spelled_as_spells _ _ c.in-Ok.ensures.spelled)
