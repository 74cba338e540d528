use Rattle.std.proofs.Common.{sym, ap, ◌∙◌}
use Rattle.ak_flatten.specs.Item.{spelled}
use Rattle.ak_flatten.proofs.Surface.{spelled_as_spells}
use Rattle.ak_messenger.proofs.asking.await_reply.Goals as goal

pub returns-clause-message : goal.returns-clause-message
returns-clause-message g c = sym (spelled_as_spells c.as_slice.result.now c.in-Ok.message c.in-Ok.ensures.spelled) ∙ ap spelled c.as_slice.ensures
