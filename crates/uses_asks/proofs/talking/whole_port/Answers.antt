-- The list goes on from what both seats have seen.
use Rattle.std.proofs.Common.{◌∙◌, ap}
use Rattle.ak_port.specs.PortCalls.{PortData, PortSeat, by_number}
use Rattle.uses_asks.proofs.Gathering.{other_begins, own_begins}
use Rattle.uses_asks.proofs.talking.whole_port.Goals as goal

pub returns-clause-own : goal.returns-clause-own
returns-clause-own g c =
    let turn = c.lock.ensures in
    own_begins by_number c.args.seat c.args.other c.join.new.seat c.lock.new.seat c.keep-book.result.entries c.join.ensures (ap (λ (p : PortData). p.entries) c.keep-book.ensures ∙ turn.list)
    turn.seen.between (ap (λ (s : PortSeat). s.front) turn.seen.after)

pub returns-clause-others : goal.returns-clause-others
returns-clause-others g c =
    let turn = c.lock.ensures in
    other_begins by_number c.args.seat c.args.other c.join.new.seat c.lock.new.seat c.keep-book.result.entries c.join.ensures (ap (λ (p : PortData). p.entries) c.keep-book.ensures ∙ turn.list)
    (ap (λ (s : PortSeat). s.joined) turn.seen.after) turn.known
