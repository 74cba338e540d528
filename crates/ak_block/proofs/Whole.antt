-- A block's sessions were carried out, and then closed.
use Rattle.std.proofs.Common.{◌≡◌, ◌+◌, ◌≤◌, ℕ, Bool, List, length, refl, ap, ◌∙◌, arith}
use Rattle.std.specs.Prelude.{◌&&◌, Result, is_some}
use Rattle.std.specs.List.{list_all}
use Rattle.std.proofs.lemmas.List.{length-append}
use Rattle.std.proofs.lemmas.List.Folds.{list_all-append}
use Rattle.ak_roster.specs.declared.head.AppHead.{AppHead}
use Rattle.ak_script.specs.declared.statement.SessionLines.{SessionLines}
use Rattle.ak_lines.specs.declared.job.SessionEnd.{SessionEnd}
use Rattle.ak_run.specs.declared.run.Run.{Run}
use Rattle.ak_run.specs.Sending.{looper_count}
use Rattle.ak_run.specs.Sessions.{Told, session_count, sessions_of}
use Rattle.ak_run.specs.Starts.{thread_count}
use Rattle.ak_block.specs.declared.blocks.Cut.{Cut}
use Rattle.ak_block.specs.declared.blocks.Heard.{Heard}
use Rattle.ak_block.specs.Together.{AreOpen, HasClosedAll, HasRunBlock, HasRunSessions}
use Rattle.ak_block.proofs.Ends.{came_count}
use Rattle.ak_block.proofs.Started.{jobs_count, nothing_then, same_time}

module _ (heads : List AppHead) (sessions : List SessionLines) (result : Result (Unit {0}) Cut) (r s : Run) (ends : List SessionEnd) (ran : HasRunSessions heads sessions result r s ends) where
  pub all_open : AreOpen heads (sessions_of r) r.hands.clock.time (session_count r + 1) ran.first s ends
  all_open = record { from_is = refl; now = same_time r s ran.does; jobs = ran.jobs; are = ran.are; came = ran.came; stand = ran.opened }

  -- there are at most as many ends
  pub ends_fit : length ends ≤ length sessions
  ends_fit = omega (arith, came_count ran.jobs ends ran.came, jobs_count heads r.hands.clock.time (session_count r + 1) ran.first ran.jobs ran.are, ap (λ (l : List SessionLines). length l) ran.all, length-append ran.first ran.rest)

  abbrev is_closed : Told → Bool
  is_closed told = is_some told.1

  sessions_more : (t : Run) (heard : List Heard) → HasClosedAll heads (sessions_of r) r.hands.clock.time (session_count r + 1) ran.first s t heard → session_count t ≡ session_count r + length ran.first
  sessions_more t heard kept = ap length kept.sessions_are ∙ length-append (sessions_of r) kept.closed ∙ ap (λ (n : ℕ). session_count r + n) kept.count

  pub block_run : (t : Run) (heard : List Heard) → HasClosedAll heads (sessions_of r) r.hands.clock.time (session_count r + 1) ran.first s t heard → HasRunBlock heads sessions result r t heard
  block_run t heard kept = record {
    first = ran.first;
    rest = ran.rest;
    all = ran.all;
    ends_with = ran.ends_with;
    kept = record {
      carried = kept.carried;
      more = record {
        on = (kept.closed, kept.sessions_are);
        count = sessions_more t heard kept;
      };
      does = nothing_then r s t ran.does kept.does;
      closed = λ before. ap (list_all is_closed) kept.sessions_are ∙ list_all-append is_closed (sessions_of r) kept.closed ∙ ap (λ (b : Bool). b && list_all is_closed kept.closed) before ∙ kept.each_closed;
    };
  }

  -- as many threads more as there are ends
  pub threads_are : (t : Run) (heard : List Heard) → HasClosedAll heads (sessions_of r) r.hands.clock.time (session_count r + 1) ran.first s t heard → looper_count s ≡ looper_count r → looper_count t ≡ looper_count s → thread_count t ≡ thread_count r + length ends
  threads_are t heard kept first second =
      omega (arith, first, second, sessions_more t heard kept, came_count ran.jobs ends ran.came, jobs_count heads r.hands.clock.time (session_count r + 1) ran.first ran.jobs ran.are)
