use Rattle.std.proofs.Common.{◌≡◌, ◌<◌, None, sym, refl, ap, subst, arith}
use Rattle.ak_port.specs.declared.port_entry.PortEvent.TheVariants as event
use Rattle.ak_port.specs.PortCalls.{PortData}
use Rattle.ak_port.specs.PortMachine.{refusal_of, state_of}
use Rattle.ak_turn.proofs.Surface.{next_is_past}
use Rattle.ak_port.proofs.PortSound.{room_left, written_sound}
use Rattle.ak_port.proofs.port_book.PortBook.accept.Goals as goal

pub push_back_reserved-requires : goal.push_back_reserved-requires
push_back_reserved-requires c =
    (room_left c.self.inside c.self.invariant (subst (λ (p : PortData). refusal_of (state_of p.entries) ≡ None) (sym c.self.view_is) c.requires.open)).0

pub overflow_add-self : goal.overflow_add-self
overflow_add-self c =
    let few : c.self.inside.written < 8192 =
    (room_left c.self.inside c.self.invariant (subst (λ (p : PortData). refusal_of (state_of p.entries) ≡ None) (sym c.self.view_is) c.requires.open)).1 in
    omega arith

pub invariant_of-self-2 : goal.invariant_of-self-2
invariant_of-self-2 c =
    written_sound c.self.inside _ _ c.args.item c.self.invariant (subst (λ (p : PortData). refusal_of (state_of p.entries) ≡ None) (sym c.self.view_is) c.requires.open)
    (ap (event.Written c.self.inside.written) c.in-Ok.ensures) refl refl refl _ c.reserve.ensures.items c.enter.ensures.items (next_is_past c.args.clock.now.time _)
    (let room = c.reserve.ensures.room c.if-not-reserve.false in omega arith) c.push_back_reserved.ensures.items c.push_back_reserved.ensures.len c.push_back_reserved.ensures.capacity refl refl refl

pub returns-clause-port : goal.returns-clause-port
returns-clause-port c = (invariant_of-self-2 c).port
