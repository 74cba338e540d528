use Rattle.ak_port.proofs.PortItems.{nothing_after_shut}
use Rattle.ak_port.proofs.port_laws.nothing_is_written_after_shut.Goals as goal

pub returns : goal.returns
returns c = nothing_after_shut
