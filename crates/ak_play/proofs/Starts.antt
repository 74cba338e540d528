-- The threads of a run, statement after statement.
use Rattle.std.proofs.Common.{◌≡◌, ◌-◌, ℕ, Bool, true, false, List, length, Option, Ok, Err, refl, sym, ap, ◌∙◌, subst, arith}
use Rattle.std.specs.Prelude.{Result}
use Rattle.ak_base.specs.declared.ending.Ending.TheVariants as ending
use Rattle.ak_outside.specs.Calls.{Calls}
use Rattle.ak_roster.specs.declared.head.AppHead.{AppHead}
use Rattle.ak_describe.specs.Whole.{heads_of}
use Rattle.ak_describe.specs.declared.described.AppText.{AppText}
use Rattle.ak_diary.specs.Step.{Step, roster_entries}
use Rattle.ak_headline.specs.Run.{started_by}
use Rattle.ak_run.specs.declared.run.Run.{Run}
use Rattle.ak_run.specs.Doing.{HasDoneSoFar}
use Rattle.ak_run.specs.Running.{IsRunning}
use Rattle.ak_run.specs.Sending.{looper_count}
use Rattle.ak_run.specs.Sessions.{Told, session_count, sessions_of}
use Rattle.ak_run.specs.Starts.{StartsMore, StopsStarting, thread_count}
use Rattle.ak_run.proofs.Surface.{none_more, started_so_far, starts_then, stops_then}
use Rattle.ak_block.specs.Carried.{SessionPart}
use Rattle.ak_script.specs.declared.statement.SessionLines.{SessionLines}
use Rattle.ak_script.specs.declared.statement.Statement.{Statement}
use Rattle.ak_script.specs.declared.statement.Statement.TheVariants as statement
use Rattle.ak_play.specs.declared.stop.Stop.{Stop}
use Rattle.ak_play.specs.declared.stop.Stop.TheVariants as stop
use Rattle.ak_play.specs.Blocks.{RefusedAt}
use Rattle.ak_play.specs.Parts.{IsCut, Part, all_sessions, all_steps}
use Rattle.ak_play.specs.Play.{StartsThreads, last_threads, threads_of}
use Rattle.ak_play.specs.Steps.{IsThreadFault, ended_as, refusable, stopped_as}

-- a call that starts no looper and opens no session
pub no_thread_more : (r r' : Run) (calls : Option Calls) → looper_count r' ≡ looper_count r → sessions_of r' ≡ sessions_of r → StartsMore (thread_count r) (thread_count r') calls calls
no_thread_more r r' calls loopers sessions = none_more (thread_count r) (thread_count r') calls (omega (arith, loopers, ap (λ (all : List Told). length all) sessions))

-- where a statement stopped it: a refused thread is one of its own
pub starts_by : (why : Stop) (s : Statement) (y z : ℕ) (a b c : Option Calls) → StartsMore 0 y a b → (¬ (IsThreadFault {A = Unit {0}} (Err why)) → StartsMore y z b c)
    → (IsThreadFault {A = Unit {0}} (Err why) → StopsStarting (refusable s (z - y)) y z b c) → (cut : Option Part) (before : ℕ) → (stopped_as {A = Unit {0}} (Err why) ≡ ending.ThreadFault → last_threads cut before z ≡ refusable s (z - y))
    → StartsThreads (stopped_as {A = Unit {0}} (Err why)) cut before z a c
starts_by stop.WriteFault s y z a b c so_far more last cut before is = starts_then 0 y z a b c so_far (more (λ bad. absurd bad))
starts_by (stop.ThreadFault told) s y z a b c so_far more last cut before is = subst (λ (n : ℕ). StopsStarting n 0 z a c) (sym (is refl)) (stops_then (refusable s (z - y)) 0 y z a b c so_far (last tt))
starts_by (stop.NoMemory told) s y z a b c so_far more last cut before is = starts_then 0 y z a b c so_far (more (λ bad. absurd bad))

-- only a launch was refused so
pub launch_refuses : (apps : List AppText) (s : Statement) (steps : List Step) → RefusedAt apps s steps → (more : ℕ) → more ≡ refusable s more
launch_refuses apps (statement.Launch l) steps at more = refl
launch_refuses apps (statement.Hey h) steps at more = absurd at
launch_refuses apps (statement.Post p) steps at more = absurd at
launch_refuses apps (statement.Lock l) steps at more = absurd at
launch_refuses apps (statement.Together t) steps at more = absurd at

-- only a block is cut
pub block_refuses : (Carried : ℕ → ℕ → SessionLines → SessionPart → Type 0) (time from : ℕ) (s : Statement) (part : Part) → IsCut Carried time from s part → (more : ℕ) → 1 ≡ refusable s more
block_refuses Carried time from (statement.Together t) part is more = refl
block_refuses Carried time from (statement.Launch l) part is more = absurd is
block_refuses Carried time from (statement.Hey h) part is more = absurd is
block_refuses Carried time from (statement.Post p) part is more = absurd is
block_refuses Carried time from (statement.Lock l) part is more = absurd is

-- how many threads there are before a statement: those of the parts
pub counted_so_far : (apps : List AppText) (parts : List Part) (r : Run) (is : IsRunning r) → r.apps.items ≡ apps → HasDoneSoFar (all_steps parts) r → session_count r ≡ all_sessions parts → threads_of apps parts ≡ thread_count r
counted_so_far apps parts r is same done sessions =
    let heads : is.heads ≡ heads_of apps = is.stands.heads_are ∙ ap heads_of same in
    let loopers : started_by (heads_of apps) (roster_entries (all_steps parts)) ≡ looper_count r =
    subst (λ (hs : List AppHead). started_by hs (roster_entries (all_steps parts)) ≡ looper_count r) heads (started_so_far r is (all_steps parts) done.recorded) in
    omega (arith, loopers, sessions)

-- how it ended then
pub starts_at_end : {A : Type 0} (played : Result A Stop) (lacked : Bool) (cut : Option Part) (before x y : ℕ) (a b : Option Calls) → x ≡ y → StartsThreads (stopped_as played) cut before x a b → StartsThreads (ended_as played lacked) cut before y a b
starts_at_end (Ok v) true cut before x y a b same starts = subst (λ (n : ℕ). StartsMore 0 n a b) same starts
starts_at_end (Ok v) false cut before x y a b same starts = subst (λ (n : ℕ). StartsMore 0 n a b) same starts
starts_at_end (Err stop.WriteFault) lacked cut before x y a b same starts = subst (λ (n : ℕ). StartsMore 0 n a b) same starts
starts_at_end (Err (stop.ThreadFault told)) lacked cut before x y a b same starts = subst (λ (n : ℕ). StopsStarting (last_threads cut before n) 0 n a b) same starts
starts_at_end (Err (stop.NoMemory told)) lacked cut before x y a b same starts = subst (λ (n : ℕ). StartsMore 0 n a b) same starts
