-- Port after port is shut.
use Rattle.std.proofs.Common.{◌+◌, List, ℕ, refl, sym, subst, ◌++◌, arith}
use Rattle.std.specs.List.{range_with_len}
use Rattle.ak_diary.specs.Turns.{Shuts, ShutsAll}
use Rattle.ak_run.specs.Recording.{fronts_with}
use Rattle.ak_run.proofs.Acts.{records_so_then, so_same}
use Rattle.ak_run.proofs.Calls.{goes_same, stands_further}
use Rattle.ak_run.proofs.TeamEnds.{range_push, shuts_push}
use Rattle.ak_run.proofs.GoingOn.{goes_then_goes}
use Rattle.ak_run.proofs.run.Run.shut_ports.Goals as goal

pub loop-place-init : goal.loop-place-init
loop-place-init g c = record {
  goes = goes_same c.args.self.now _ (record { apps = refl; shared = refl; joined = refl; ports = refl; desks = refl; slots = refl }) refl refl refl refl;
  shut = record { beside = λ new. so_same (ShutsAll (range_with_len c.args.first 0)) (fronts_with c.args.self.now new) refl };
}

pub shut_port-requires-clause-stands : goal.shut_port-requires-clause-stands
shut_port-requires-clause-stands g c = stands_further c.args.self.now _ c.loop-place.invariant.goes c.requires.stands

pub shut_port-requires-clause-there : goal.shut_port-requires-clause-there
shut_port-requires-clause-there g c = omega (arith, c.loop-place-test.true, c.requires.there, c.loop-place.invariant.goes.count)

pub loop-place-preserved : goal.loop-place-preserved
loop-place-preserved g c =
    let first = c.args.first in
    let place = c.loop-place.place in
    let was = c.loop-place.invariant in
    record {
      goes = goes_then_goes c.args.self.now _ _ was.goes c.shut_port.ensures.goes;
      shut = record {
        beside = λ new.
            records_so_then (ShutsAll (range_with_len first place)) (Shuts (first + place)) (ShutsAll (range_with_len first (place + 1))) (fronts_with c.args.self.now new) (fronts_with c.loop-place.self new) (fronts_with c.shut_port.new.self new)
            (λ xs ys all one. subst (λ (loopers : List ℕ). ShutsAll loopers (xs ++ ys)) (sym (range_push first place)) (shuts_push (range_with_len first place) (first + place) xs ys all one)) (was.shut.beside new) (c.shut_port.ensures.shut.beside new);
      };
    }
