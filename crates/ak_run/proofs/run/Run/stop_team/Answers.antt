-- The team is gone, and then its ports are shut.
use Rattle.std.proofs.Common.{◌≡◌, ◌+◌, ◌-◌, length, arith}
use Rattle.std.specs.List.{range_with_len}
use Rattle.ak_describe.specs.Whole.{heads_of}
use Rattle.ak_diary.specs.Turns.{ShutsAll}
use Rattle.ak_looper.specs.Rosters.{plain_of}
use Rattle.ak_run.specs.Recording.{fronts_with}
use Rattle.ak_run.specs.Stopping.{LeavesOrSees, Stops}
use Rattle.ak_run.proofs.Acts.{records_so_then}
use Rattle.ak_run.proofs.Calls.{stands_further}
use Rattle.ak_run.proofs.GoingOn.{goes_then_goes}
use Rattle.ak_run.proofs.Stopping.{stops_so}
use Rattle.ak_run.proofs.run.Run.stop_team.Goals as goal

pub shut_ports-requires-clause-stands : goal.shut_ports-requires-clause-stands
shut_ports-requires-clause-stands g c = stands_further c.args.self.now _ c.leave.ensures.goes c.requires.stands

pub returns : goal.returns
returns g c =
    let r = c.args.self.now in
    let s = c.leave.new.self in
    let t = c.args.team in
    let started = c.len.result - t.first in
    let heads = heads_of r.apps.items in
    let seen = plain_of r.roster_seat in
    record {
      goes = goes_then_goes r _ _ c.leave.ensures.goes c.shut_ports.ensures.goes;
      stops = λ loopers has.
          let is : t.first + loopers ≡ length r.members.items = has in
          let same : started ≡ loopers = omega (arith, is, c.leave.ensures.goes.count, c.len.ensures, s.members.ok.0) in
          record {
            beside = λ new.
                records_so_then (LeavesOrSees heads seen t.number) (ShutsAll (range_with_len t.first started)) (Stops t r loopers) (fronts_with r new) (fronts_with s new) (fronts_with c.shut_ports.new.self new)
                (λ xs ys leaves shuts. stops_so heads seen t.number t.first started loopers xs ys same leaves shuts) (c.leave.ensures.left.beside new) (c.shut_ports.ensures.shut.beside new);
          };
    }
