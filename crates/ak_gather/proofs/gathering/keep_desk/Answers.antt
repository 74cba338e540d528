-- What the lock tells of threads that were joined.
use Rattle.std.proofs.Common.{◌∙◌, Some, ap, sym}
use Rattle.ak_desk.specs.Desk.{DeskData}
use Rattle.ak_desk.specs.Shared.{by_number}
use Rattle.ak_gather.proofs.Knowing.{knows_all, named_all}
use Rattle.ak_gather.proofs.LastFronts.{ends_at_turn}
use Rattle.ak_gather.proofs.gathering.keep_desk.Goals as goal

pub returns : goal.returns
returns g c =
    let turn = c.lock-turn.ensures in
    let kept = c.keep-kept in
    record {
      legal = record { state = kept.result.state; history = c.state.ensures.history (ap (λ (d : DeskData). d.begun) kept.ensures ∙ turn.rest) };
      opening = turn.opening ∙ ap (λ (d : DeskData). Some d.opening) (sym kept.ensures);
      known = knows_all by_number c.args.seat c.lock-turn.new.seat kept.result.entries turn.seen turn.known (ap (λ (d : DeskData). d.entries) kept.ensures ∙ turn.list);
      ends = λ main. ends_at_turn by_number c.args.seat c.lock-turn.new.seat kept.result.entries main turn.seen (ap (λ (d : DeskData). d.entries) kept.ensures ∙ turn.list);
      named = λ names at. named_all by_number c.args.seat c.lock-turn.new.seat kept.result.entries turn.seen turn.known (ap (λ (d : DeskData). d.entries) kept.ensures ∙ turn.list) names at;
    }
