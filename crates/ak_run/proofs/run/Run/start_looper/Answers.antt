-- The job, the gate and a copy of the handle may go to the thread. Where none is started, two calls of main come first.
use denote.Param.Send.{sendable}
use Rattle.std.proofs.Common.{◌+◌, ◌∷◌, length, refl, sym, ◌∙◌}
use Rattle.ak_describe.specs.Whole.{heads_of}
use Rattle.ak_diary.specs.Turns.{Shuts}
use Rattle.ak_looper.specs.Rosters.{plain_of}
use Rattle.ak_looper.proofs.Surface.{LooperEnd-send, LooperJob-send}
use Rattle.ak_run.specs.Recording.{fronts_with}
use Rattle.ak_run.specs.Stopping.{Stops}
use Rattle.ak_run.proofs.Acts.{records_so_then}
use Rattle.ak_run.proofs.Calls.{goes_at_new, goes_then_at_new}
use Rattle.ak_run.proofs.Crossing.{closure_send}
use Rattle.ak_run.proofs.Stopping.{stops_push}
use Rattle.ak_run.proofs.run.Run.start_looper.Goals as goal

pub start_by-requires-send-F : goal.start_by-requires-send-F
start_by-requires-send-F g c κs within = closure_send _ _ _ _ _ _ LooperJob-send c.type_bounds.send-G c.type_bounds.send-R

pub start_by-requires-send-T : goal.start_by-requires-send-T
start_by-requires-send-T g c κs within = search (LooperEnd-send, sendable) depth 12 parts 0

pub returns-in-Ok-clause-run : goal.returns-in-Ok-clause-run
returns-in-Ok-clause-run g c = goes_at_new c.args.self.now c.args.self.now (record { apps = refl; shared = refl; joined = refl; ports = refl; desks = refl; slots = refl }) refl refl refl

pub returns-in-Err-clause-run : goal.returns-in-Err-clause-run
returns-in-Err-clause-run g c = goes_then_at_new _ _ _ c.stop_team.ensures.goes c.shut_door.ensures.run

-- its loopers that were started are shut, and then it
pub returns-in-Err-clause-stops : goal.returns-in-Err-clause-stops
returns-in-Err-clause-stops g c = λ loopers has.
    let r = c.args.self.now in
    let t = c.args.team in
    let front = c.args.door.now.port_seat.front in
    let s = c.stop_team.new.self in
    let u = c.shut_door.new.self in
    let next = length s.members.items in
    record {
      beside = λ new. records_so_then (Stops t r loopers) (Shuts next) (Stops t r (loopers + 1)) (fronts_with r (front ∷ new)) (fronts_with s (front ∷ new)) (fronts_with u (c.shut_door.new.door.port_seat.front ∷ new))
          (λ xs ys stops one. stops_push (heads_of r.apps.items) (plain_of r.roster_seat) t.number t.first loopers next xs ys (has ∙ sym c.stop_team.ensures.goes.count) stops one)
          ((c.stop_team.ensures.stops loopers has).beside (front ∷ new)) (c.shut_door.ensures.shut.beside new);
    }
