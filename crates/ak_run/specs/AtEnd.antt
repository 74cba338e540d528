-- What main and the sessions did, when their run has ended.
use Rattle.std.specs.Prelude.{◌≡◌, ◌+◌, ℕ, List, ◌++◌, All, Some, slice_get}
use Rattle.ak_base.specs.Thread.{main_thread}
use Rattle.ak_turn.specs.Entries.{StartsWith}
use Rattle.ak_turn.specs.Noted.{StandsIn}
use Rattle.ak_roster.specs.declared.head.AppHead.{AppHead}
use Rattle.ak_diary.specs.declared.histories.Histories.{Histories}
use Rattle.ak_diary.specs.Step.{AreStamped, Step, desk_entries, port_sights, roster_sights}
use Rattle.ak_headline.specs.Main.{IsMainDiary}
use Rattle.ak_headline.specs.Run.{HasDone, desk_list, port_list}
use Rattle.ak_session.specs.declared.session.Session.{Session}
use Rattle.ak_session.specs.Stands.{Stands}
use Rattle.ak_run.specs.declared.run.Run.{Run}
use Rattle.ak_run.specs.Closing.{EndsAllTeams}
use Rattle.ak_run.specs.Sessions.{sessions_of}

-- the steps that end a run, behind those so far: each team that runs is ended, in order; what main saw without an entry is a beginning of the roster's list or the port's
pub record IsClosing (heads : List AppHead) (so_far : List Step) (h : Histories) (steps : List Step) : Type 0 where
  pub ends : EndsAllTeams heads so_far steps
  pub roster_seen : All (StartsWith h.roster.items) (roster_sights steps)
  pub ports_seen : (looper : ℕ) → All (StartsWith (port_list h looper)) (port_sights looper steps)

-- its diary goes on from these steps, by those of its closing; it has all that main made at the roster, at the reply book, at each port and at
-- each desk, with the stamps that are due from 0 on, and the edits stand at the desks
pub record DoneAtEnd (heads : List AppHead) (steps : List Step) (h : Histories) : Type 0 where
  pub closing : List Step
  pub closes : IsClosing heads steps h closing
  pub diary : IsMainDiary (steps ++ closing)
  pub stamped : AreStamped 0 (steps ++ closing)
  pub done : HasDone h main_thread (steps ++ closing)
  pub edits : (looper : ℕ) → All (StandsIn (desk_list h looper)) (desk_entries looper steps)

-- a session's steps have all that its thread made at the roster, at the reply book, at each port and at each desk, and its edits stand at the
-- desks
pub record SessionDone (h : Histories) (number : ℕ) (steps : List Step) : Type 0 where
  pub done : HasDone h number steps
  pub edits : (looper : ℕ) → All (StandsIn (desk_list h looper)) (desk_entries looper steps)

-- so it is of each session that was closed, and any steps by which it stood then
abbrev pub SessionsDone : Run → Histories → Type 0
SessionsDone r h =
    (place : ℕ) (opened closed : Session) → slice_get (sessions_of r) place ≡ Some (opened, Some closed) → (heads : List AppHead) (start : ℕ) (steps : List Step) → Stands heads start steps closed → SessionDone h (place + 1) steps
