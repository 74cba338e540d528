use Rattle.ak_messenger.proofs.Sending.{in_any_case}
use Rattle.ak_messenger.proofs.asking.ask_by.Goals as goal

pub returns-clause-known : goal.returns-clause-known
returns-clause-known g c = in_any_case c.converse.result _ c.converse.ensures.known

pub returns-clause-at_port : goal.returns-clause-at_port
returns-clause-at_port g c = in_any_case c.converse.result _ c.converse.ensures.port
