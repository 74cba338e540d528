use Rattle.std.proofs.Common.{◌≡◌, Some, sym, refl, subst, arith}
use Rattle.ak_port.specs.PortCalls.{PortData}
use Rattle.ak_port.specs.PortMachine.{refusal_of, state_of}
use Rattle.ak_turn.proofs.Surface.{next_is_past}
use Rattle.ak_port.proofs.PortSound.{refused_sound}
use Rattle.ak_port.proofs.port_book.PortBook.refuse.Goals as goal

pub invariant_of-self-2 : goal.invariant_of-self-2
invariant_of-self-2 c =
    refused_sound c.self.inside _ _ c.args.refusal c.self.invariant
    (subst (λ (p : PortData). refusal_of (state_of p.entries) ≡ Some c.args.refusal) (sym c.self.view_is) c.requires.refused) c.event_of.ensures refl refl refl _
    c.reserve.ensures.items c.enter.ensures.items (next_is_past c.args.clock.now.time _) (let room = c.reserve.ensures.room c.if-not-reserve.false in omega arith) refl refl refl refl

pub returns-clause-port : goal.returns-clause-port
returns-clause-port c = (invariant_of-self-2 c).port
