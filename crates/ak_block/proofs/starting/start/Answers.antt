-- The job and a copy of the handle may go to the thread. Where none is started, it is done here, behind the others.
use denote.Param.Send.{sendable}
use Rattle.std.proofs.Common.{ap, subst, arith}
use Rattle.std.proofs.lemmas.List.{length-map}
use Rattle.std.specs.contracts.alloc.Global as Global
use Rattle.std.specs.declared.thread.PromisedHandle.{PromisedHandle}
use Rattle.ak_lines.specs.declared.job.SessionEnd.{SessionEnd}
use Rattle.ak_lines.specs.declared.job.SessionJob.{SessionJob}
use Rattle.ak_lines.specs.contracts.job.SessionJob as Job
use Rattle.ak_lines.specs.Carried.{HasCarriedOut}
use Rattle.ak_block.specs.declared.starting.Carries.{Carries}
use Rattle.ak_block.specs.Threads.{jobs_of}
use Rattle.ak_block.proofs.Crossing.{Global-send, SessionEnd-send, SessionJob-row, closure_send}
use Rattle.ak_block.proofs.Ends.{ends_count, ends_push}
use Rattle.ak_block.proofs.starting.start.Goals as goal

pub start_by-requires-send-F : goal.start_by-requires-send-F
start_by-requires-send-F g c κs within = closure_send _ _ _ Job.the_row Global.the_row _ SessionJob-row Global-send c.type_bounds.send-R

pub start_by-requires-send-T : goal.start_by-requires-send-T
start_by-requires-send-T g c κs within = search (SessionEnd-send, sendable) depth 12 parts 0

pub push_reserved-requires-in-Err : goal.push_reserved-requires-in-Err
push_reserved-requires-in-Err g c =
    let jobs = jobs_of c.args.running.items in
    let joined = c.join_all.ensures in
    omega (arith, ends_count jobs c.args.ends.now.items c.join_all.new.ends.items joined.joined, length-map c.args.running.items (λ (handle : PromisedHandle SessionEnd Carries). handle.promise.0.value), joined.capacity, c.requires.room_for_ends)

-- the work that was given back is that of the job
pub returns-in-Err-clause-refused : goal.returns-in-Err-clause-refused
returns-in-Err-clause-refused g c =
    let end = c.work-end.result in
    let came : HasCarriedOut c.args.job end = subst (λ (job : SessionJob). HasCarriedOut job end) (ap (λ w. w.0) c.in-Err.ensures.back) c.work-end.ensures in
    ends_push (jobs_of c.args.running.items) c.args.ends.now.items c.join_all.new.ends.items _ c.args.job end c.join_all.ensures.joined came c.push_reserved-in-Err.ensures.items
