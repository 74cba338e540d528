-- The sessions that ran are closed.
use Rattle.std.proofs.Common.{◌≡◌, ◌+◌, List, length, ap, subst, arith}
use Rattle.ak_describe.specs.Whole.{heads_of}
use Rattle.ak_run.specs.Sessions.{session_count, sessions_of}
use Rattle.ak_run.specs.Starts.{thread_count}
use Rattle.ak_run.proofs.Surface.{stops_block}
use Rattle.ak_script.specs.declared.statement.SessionLines.{SessionLines}
use Rattle.ak_block.specs.Together.{HasRunBlock}
use Rattle.ak_block.proofs.Whole.{all_open, block_run, ends_fit, threads_are}
use Rattle.ak_block.proofs.blocks.together.Goals as goal

pub close_all-requires-clause-room : goal.close_all-requires-clause-room
close_all-requires-clause-room g c =
    let r = c.args.run.now in
    let ran = c.run_sessions-came in
    let same = c.as_slice-sessions.ensures.value in
    let fit = ends_fit (heads_of r.apps.items) c.as_slice-sessions.result.now ran.result r ran.new.run ran.new.ends.items ran.ensures.ran in
    omega (arith, fit, c.in_ok-heard.ensures.capacity, ap (λ (l : List SessionLines). length l) same)

pub returns-clause-ran : goal.returns-clause-ran
returns-clause-ran g c =
    let r = c.args.run.now in
    let heads = heads_of r.apps.items in
    let ran = c.run_sessions-came in
    let s = ran.new.run in
    let sessions = c.as_slice-sessions.result.now in
    let all = all_open heads sessions ran.result r s ran.new.ends.items ran.ensures.ran in
    subst (λ (l : List SessionLines). HasRunBlock heads l ran.result r c.close_all.new.run c.close_all.new.heard.items) c.as_slice-sessions.ensures.value
    (block_run heads sessions ran.result r s ran.new.ends.items ran.ensures.ran c.close_all.new.run c.close_all.new.heard.items (c.close_all.ensures.kept heads (sessions_of r) r.hands.clock.time (session_count r + 1) ran.ensures.ran.first all))

-- a thread more for each session
threads_more : (g : _) (c : goal.After-close_all g) → thread_count c.close_all.new.run ≡ thread_count c.args.run.now + length c.run_sessions-came.new.ends.items
threads_more g c =
    let r = c.args.run.now in
    let heads = heads_of r.apps.items in
    let ran = c.run_sessions-came in
    let s = ran.new.run in
    let sessions = c.as_slice-sessions.result.now in
    let all = all_open heads sessions ran.result r s ran.new.ends.items ran.ensures.ran in
    threads_are heads sessions ran.result r s ran.new.ends.items ran.ensures.ran c.close_all.new.run c.close_all.new.heard.items (c.close_all.ensures.kept heads (sessions_of r) r.hands.clock.time (session_count r + 1) ran.ensures.ran.first all)
    ran.ensures.count c.close_all.ensures.count

pub returns-clause-starts : goal.returns-clause-starts
returns-clause-starts g c = λ other. record { more = length c.run_sessions-came.new.ends.items; count = threads_more g c; starts = c.run_sessions-came.ensures.starts other }

pub returns-clause-stops_starting : goal.returns-clause-stops_starting
returns-clause-stops_starting g c = λ refused.
    stops_block (length c.run_sessions-came.new.ends.items) (thread_count c.args.run.now) (thread_count c.close_all.new.run) (g.W.Spawner.calls c.args.spawner.now) (g.W.Spawner.calls c.run_sessions-came.new.spawner) (threads_more g c) (c.run_sessions-came.ensures.stops_starting refused)
