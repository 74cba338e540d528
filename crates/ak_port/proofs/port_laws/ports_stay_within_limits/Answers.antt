use Rattle.ak_port.proofs.PortLimits.{within_limits}
use Rattle.ak_port.proofs.port_laws.ports_stay_within_limits.Goals as goal

pub returns : goal.returns
returns c = within_limits
