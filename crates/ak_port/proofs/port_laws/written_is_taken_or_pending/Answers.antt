use Rattle.ak_port.proofs.PortItems.{each_once, oldest_first}
use Rattle.ak_port.proofs.port_laws.written_is_taken_or_pending.Goals as goal

pub returns-clause-each_once : goal.returns-clause-each_once
returns-clause-each_once c = each_once

pub returns-clause-oldest_first : goal.returns-clause-oldest_first
returns-clause-oldest_first c = oldest_first
