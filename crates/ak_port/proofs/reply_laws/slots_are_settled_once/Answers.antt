use Rattle.ak_port.proofs.ReplyShown.{settled_once, taken_once, taken_after_filled}
use Rattle.ak_port.proofs.reply_laws.slots_are_settled_once.Goals as goal

pub returns-clause-settled : goal.returns-clause-settled
returns-clause-settled c = settled_once

pub returns-clause-taken : goal.returns-clause-taken
returns-clause-taken c = taken_once

pub returns-clause-after : goal.returns-clause-after
returns-clause-after c = taken_after_filled
