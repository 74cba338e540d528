-- What the lock tells of threads that were joined.
use Rattle.std.proofs.Common.{◌∙◌, Some, ap, sym}
use Rattle.ak_port.specs.PortCalls.{PortData, by_number}
use Rattle.ak_gather.proofs.Knowing.{knows_all, named_all}
use Rattle.ak_gather.proofs.LastFronts.{ends_at_turn}
use Rattle.ak_gather.proofs.gathering.keep_port.Goals as goal

pub returns : goal.returns
returns g c =
    let turn = c.lock-turn.ensures in
    record {
      legal = c.taker.ensures.port;
      opening = turn.opening ∙ ap (λ (p : PortData). Some p.taker) (sym c.keep-kept.ensures);
      known = knows_all by_number c.args.seat c.lock-turn.new.seat c.keep-kept.result.entries turn.seen turn.known (ap (λ (p : PortData). p.entries) c.keep-kept.ensures ∙ turn.list);
      ends = λ main. ends_at_turn by_number c.args.seat c.lock-turn.new.seat c.keep-kept.result.entries main turn.seen (ap (λ (p : PortData). p.entries) c.keep-kept.ensures ∙ turn.list);
      named = λ names at. named_all by_number c.args.seat c.lock-turn.new.seat c.keep-kept.result.entries turn.seen turn.known (ap (λ (p : PortData). p.entries) c.keep-kept.ensures ∙ turn.list) names at;
    }
