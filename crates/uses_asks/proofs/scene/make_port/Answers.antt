-- What a port knows that was just made.
use Rattle.uses_asks.proofs.Opening.{accepts_one, nothing_taken}
use Rattle.uses_asks.proofs.scene.make_port.Goals as goal

pub returns-clause-one : goal.returns-clause-one
returns-clause-one c = accepts_one c.clock_of-clock.result _ _ _ _ c.in_ok-port.taker c.in_ok-port.ensures.made _ _ c.split-seat.result c.split-seat.ensures.new

pub returns-clause-nothing : goal.returns-clause-nothing
returns-clause-nothing c = nothing_taken c.clock_of-clock.result _ _ _ _ c.in_ok-port.taker c.in_ok-port.ensures.made _ c.split-seat.new.seat c.split-seat.ensures.old
