use Rattle.ak_port.proofs.PortTaking.{can_new, can_titled}
use Rattle.ak_port.proofs.taker_laws.new_seats_can_take.Goals as goal

pub returns-clause-new : goal.returns-clause-new
returns-clause-new c = can_new

pub returns-clause-old : goal.returns-clause-old
returns-clause-old c = can_titled
