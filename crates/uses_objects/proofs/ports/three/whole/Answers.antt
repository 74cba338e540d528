use Rattle.std.proofs.Common.{ap, ◌∙◌}
use Rattle.ak_turn.specs.Entries.{made_by}
use Rattle.ak_port.specs.PortCalls.{by_number}
use Rattle.ak_port.specs.PortWriters.{teams_in}
use Rattle.ak_port.proofs.Surface.{told_at_end, sent_known_whole}
use Rattle.uses_objects.proofs.ports.three.whole.Goals as goal

pub returns-clause-sent : goal.returns-clause-sent
returns-clause-sent g c t sent knows =
    let turn = c.lock.ensures in
    ap (λ l. teams_in (made_by by_number t l)) (ap (λ p. p.entries) c.keep-book.ensures ∙ turn.list) ∙ sent_known_whole t sent _ _ knows turn.seen turn.known

pub returns-clause-taken : goal.returns-clause-taken
returns-clause-taken g c =
    let turn = c.lock.ensures in
    told_at_end c.args.taker _ _ _ _ c.keep-book.ensures turn.list turn.opening c.requires.opening c.requires.thread turn.seen c.taker-taker.ensures.port
