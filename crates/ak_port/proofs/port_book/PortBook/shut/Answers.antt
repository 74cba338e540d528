use Rattle.std.proofs.Common.{refl}
use Rattle.ak_turn.proofs.Surface.{next_is_past}
use Rattle.ak_port.proofs.PortSound.{shut_sound}
use Rattle.ak_port.proofs.port_book.PortBook.shut.Goals as goal

pub invariant_of-self : goal.invariant_of-self
invariant_of-self c =
    shut_sound c.self.inside _ _ c.self.invariant c.if-self.false refl refl refl refl c.enter.ensures.items (next_is_past c.args.clock.now.time _) c.enter.ensures.len c.enter.ensures.capacity refl refl refl refl

pub returns-clause-port : goal.returns-clause-port
returns-clause-port c = (invariant_of-self c).port
