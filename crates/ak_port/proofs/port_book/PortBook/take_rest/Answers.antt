use Rattle.std.proofs.Common.{◌≡◌, ◌++◌, false, true, sym, refl, ap, ◌∙◌, subst}
use Rattle.ak_port.specs.PortCalls.{PortData}
use Rattle.ak_port.specs.PortMachine.{state_of, pending_count}
use Rattle.ak_turn.proofs.Surface.{next_is_past}
use Rattle.ak_port.proofs.PortSound.{rest_sound, handed_rest, few_pending}
use Rattle.ak_port.proofs.port_book.PortBook.take_rest.Goals as goal

pub invariant_of-self : goal.invariant_of-self
invariant_of-self c =
    let b = c.self.inside in
    let seen = sym c.self.view_is in
    rest_sound b _ _ c.pending_len-count.result c.self.invariant (ap (λ t. t.0) (subst (λ (p : PortData). c.args.clock.now.thread ≡ p.taker) seen c.requires.taker))
    (sym c.self.invariant.tells.shut ∙ subst (λ (p : PortData). (state_of p.entries).shut ≡ true) seen c.requires.shut)
    (sym c.self.invariant.tells.rested ∙ subst (λ (p : PortData). (state_of p.entries).rested ≡ false) seen c.requires.unrested)
    (subst (λ (p : PortData). c.pending_len-count.result ≡ pending_count (state_of p.entries)) seen c.pending_len-count.ensures.count ∙ sym (few_pending b c.self.invariant).0) refl refl refl refl
    c.enter.ensures.items (next_is_past c.args.clock.now.time _) c.enter.ensures.len c.enter.ensures.capacity c.hand_out.ensures.pending c.hand_out.ensures.pending_len c.hand_out.ensures.pending_room refl refl refl

pub returns-clause-items : goal.returns-clause-items
returns-clause-items c =
    c.hand_out.ensures.out
    ∙ ap (λ l. c.args.out.now.items ++ l)
    (handed_rest c.self.inside _ c.oldest-first.result c.pending_len-count.result c.enter.new.entries.items c.self.invariant (subst (λ (p : PortData). c.oldest-first.result ≡ (state_of p.entries).taken) (sym c.self.view_is) c.oldest-first.ensures)
    (subst (λ (p : PortData). c.pending_len-count.result ≡ pending_count (state_of p.entries)) (sym c.self.view_is) c.pending_len-count.ensures.count) c.enter.ensures.items refl)

pub returns-clause-port : goal.returns-clause-port
returns-clause-port c = (invariant_of-self c).port
