-- The threads that a spawner was asked for, one after another. Nothing is said of a spawner that does not report its calls.
use Rattle.std.specs.Prelude.{◌≡◌, ◌<◌, ◌≤◌, ◌+◌, ℕ, zero, suc, Option}
use Rattle.ak_outside.specs.Calls.{Calls}
use Rattle.ak_outside.specs.Spawner.{HasGivenBack, HasStarted}
use Rattle.ak_run.specs.declared.run.Run.{Run}
use Rattle.ak_run.specs.Sending.{looper_count}
use Rattle.ak_run.specs.Sessions.{session_count}

-- ---- a number of threads
-- all were started
abbrev pub StartsAll : ℕ → Option Calls → Option Calls → Type 0
StartsAll zero old new = new ≡ old
StartsAll (suc before) old new = (between : Option Calls) × StartsAll before old between × HasStarted between new

-- all were started but the last one, which was refused
abbrev pub StartsButLast : ℕ → Option Calls → Option Calls → Type 0
StartsButLast zero old new = ⊥
StartsButLast (suc before) old new = (between : Option Calls) × StartsAll before old between × HasGivenBack between new

-- some of them: the last that was asked for was refused, and those after it were not asked for
abbrev pub StartsSome : ℕ → Option Calls → Option Calls → Type 0
StartsSome many old new = (asked : ℕ) × (asked ≤ many) × StartsButLast asked old new

-- ---- the threads of a run
-- one for each looper and one for each session
abbrev pub thread_count : Run → ℕ
thread_count r = looper_count r + session_count r

-- it has more than before, each of which was started
pub record StartsMore (before after : ℕ) (old new : Option Calls) : Type 0 where
  pub more : ℕ
  pub count : after ≡ before + more
  pub starts : StartsAll more old new

-- It has more than before. Of these the first `asked` were asked for. The last one asked for was refused; it is one of the last `last`, and those after it were
-- not asked for
pub record StopsStarting (last before after : ℕ) (old new : Option Calls) : Type 0 where
  pub more : ℕ
  pub count : after ≡ before + more
  pub asked : ℕ
  pub within : asked ≤ more
  pub near : more < asked + last
  pub starts : StartsButLast asked old new
