use Rattle.std.proofs.Common.{◌≡◌, ◌++◌, ◌<◌, min, false, sym, refl, ap, ◌∙◌, subst}
use Rattle.ak_port.specs.PortCalls.{PortData}
use Rattle.ak_port.specs.PortMachine.{state_of, pending_count}
use Rattle.ak_turn.proofs.Surface.{next_is_past}
use Rattle.ak_port.proofs.PortSound.{took_sound, handed_took, some_taken, left_behind}
use Rattle.ak_port.proofs.port_book.PortBook.take_oldest.Goals as goal

pub returns-clause-count : goal.returns-clause-count
returns-clause-count c =
    let seen = sym c.self.view_is in
    let some : 0 < c.pending_len.result = subst (λ n. 0 < n) (sym c.pending_len.ensures.count) c.requires.some in
    let all = subst (λ (p : PortData). c.pending_len.result ≡ pending_count (state_of p.entries)) seen c.pending_len.ensures.count in
    let count = some_taken c.self.inside c.args.most c.min-count.result c.pending_len.result c.self.invariant all some c.requires.most c.min-count.ensures in
    c.min-count.ensures ∙ ap (min c.args.most) (all ∙ left_behind c.self.inside _ c.min-count.result c.enter.new.entries.items c.self.invariant count.1 c.enter.ensures.items refl)

pub invariant_of-self : goal.invariant_of-self
invariant_of-self c =
    let b = c.self.inside in
    let seen = sym c.self.view_is in
    let some : 0 < c.pending_len.result = subst (λ n. 0 < n) (sym c.pending_len.ensures.count) c.requires.some in
    let all = subst (λ (p : PortData). c.pending_len.result ≡ pending_count (state_of p.entries)) seen c.pending_len.ensures.count in
    let count = some_taken b c.args.most c.min-count.result c.pending_len.result c.self.invariant all some c.requires.most c.min-count.ensures in
    took_sound b _ _ c.min-count.result c.self.invariant (ap (λ t. t.0) (subst (λ (p : PortData). c.args.clock.now.thread ≡ p.taker) seen c.requires.taker))
    (sym c.self.invariant.tells.shut ∙ subst (λ (p : PortData). (state_of p.entries).shut ≡ false) seen c.requires.open) count.0 count.1 refl refl refl refl
    c.enter.ensures.items (next_is_past c.args.clock.now.time _) c.enter.ensures.len c.enter.ensures.capacity c.hand_out.ensures.pending c.hand_out.ensures.pending_len c.hand_out.ensures.pending_room refl refl refl

pub returns-clause-items : goal.returns-clause-items
returns-clause-items c =
    c.hand_out.ensures.out
    ∙ ap (λ l. c.args.out.now.items ++ l)
    (handed_took c.self.inside _ c.oldest-first.result c.min-count.result c.enter.new.entries.items c.self.invariant (subst (λ (p : PortData). c.oldest-first.result ≡ (state_of p.entries).taken) (sym c.self.view_is) c.oldest-first.ensures) c.enter.ensures.items refl)

pub returns-clause-port : goal.returns-clause-port
returns-clause-port c = (invariant_of-self c).port
