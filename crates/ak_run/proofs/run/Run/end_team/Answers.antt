-- The team is gone, and then its ports are shut; or it did not run.
use Rattle.std.proofs.Common.{Some, None, []}
use Rattle.std.specs.List.{range_with_len}
use Rattle.ak_describe.specs.Whole.{heads_of}
use Rattle.ak_diary.specs.Turns.{ShutsAll}
use Rattle.ak_run.specs.Closing.{EndsTeam, LeavesSo}
use Rattle.ak_run.proofs.Calls.{running_stands, stands_further}
use Rattle.ak_run.proofs.TeamEnds.{closes_as, closes_by, closes_then, ends_gone, ends_so}
use Rattle.ak_run.proofs.GoingOn.{goes_then_goes}
use Rattle.ak_run.proofs.run.Run.end_team.Goals as goal

pub shut_ports-requires-clause-stands : goal.shut_ports-requires-clause-stands
shut_ports-requires-clause-stands g c = stands_further c.args.self.now _ c.in-Some.ensures.goes (running_stands c.args.self.now c.requires.running)

pub returns-in-Some : goal.returns-in-Some
returns-in-Some g c =
    let r = c.args.self.now in
    let heads = heads_of r.apps.items in
    let team = c.args.team in
    let running = c.in-Some.running in
    record {
      goes = goes_then_goes r _ _ c.in-Some.ensures.goes c.shut_ports.ensures.goes;
      closed = closes_then (λ so_far. LeavesSo heads so_far team (Some running)) (λ so_far. ShutsAll (range_with_len running.first running.loopers)) (λ so_far. EndsTeam heads so_far team) r _ _
          (λ so_far xs ys leaves shuts. ends_so heads so_far team (Some running) xs ys leaves shuts) c.in-Some.ensures.closed
          (closes_by (ShutsAll (range_with_len running.first running.loopers)) _ _ (c.shut_ports.ensures.shut.beside []));
    }

pub returns-in-None : goal.returns-in-None
returns-in-None g c =
    let r = c.args.self.now in
    let heads = heads_of r.apps.items in
    let team = c.args.team in
    record { goes = c.in-None.ensures.goes; closed = closes_as (λ so_far. LeavesSo heads so_far team None) (λ so_far. EndsTeam heads so_far team) r _ (λ so_far steps leaves. ends_gone heads so_far team steps leaves) c.in-None.ensures.closed }
