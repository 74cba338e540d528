-- What the threads of a block's sessions did, and what the run keeps of them.
use Rattle.std.specs.Prelude.{◌≡◌, ◌+◌, ℕ, Bool, true, false, List, [], ◌∷◌, ◌++◌, length, slice_get, Some}
use Rattle.ak_turn.specs.Entries.{StartsWith}
use Rattle.ak_roster.specs.declared.head.AppHead.{AppHead}
use Rattle.ak_diary.specs.Step.{Step}
use Rattle.ak_headline.specs.Main.{IsSessionDiary}
use Rattle.ak_lines.specs.declared.outcome.Outcome.{Outcome}
use Rattle.ak_lines.specs.Blocks.{AreLines}
use Rattle.ak_lines.specs.Carried.{IsCutAt, all_steps}
use Rattle.ak_print.specs.declared.told.Told.{Told}
use Rattle.ak_run.specs.declared.run.Run.{Run}
use Rattle.ak_run.specs.Seen.{HasSeen}
use Rattle.ak_run.specs.Sessions.{session_count, sessions_of}
use Rattle.ak_script.specs.declared.statement.SessionLines.{SessionLines}
use Rattle.ak_session.specs.declared.session.Session.{Session}
use Rattle.ak_session.specs.Stands.{KeepsSession, Stands}

-- of a session the outcomes of its lines that were carried out, what is told of them, and whether it found no memory for the next one
pub record SessionPart : Type 0 where
  pub outcomes : List Outcome
  pub tolds : List Told
  pub short : Bool

-- It did these blocks, one for each line that was carried out, and then what it did for a line that found no memory, if it found none. Otherwise
-- each line was carried out
pub record DidLines (heads : List AppHead) (lines : SessionLines) (part : SessionPart) : Type 0 where
  pub blocks : List (List Step)
  pub are : AreLines heads [] lines.lines.items part.outcomes part.tolds blocks
  pub stopped : List Step
  pub diary : IsSessionDiary (all_steps blocks ++ stopped)
  pub whole : part.short ≡ false → (length part.outcomes ≡ length lines.lines.items) × (stopped ≡ [])
  pub cut : part.short ≡ true → IsCutAt heads lines.lines.items (length part.outcomes) (all_steps blocks) stopped

-- ---- while the run goes on
-- the run has it closed, as it stood by these steps; its thread has that number, and its clock began at that time. Main has seen all that it has seen,
-- and what main made past that time stands behind
pub record IsCarriedIn (heads : List AppHead) (r : Run) (time number : ℕ) (lines : SessionLines) (part : SessionPart) : Type 0 where
  pub did : DidLines heads lines part
  pub place : ℕ
  pub number_is : number ≡ place + 1
  pub opened : Session
  pub closed : Session
  pub there : slice_get (sessions_of r) place ≡ Some (opened, Some closed)
  pub keeps : KeepsSession opened closed
  pub thread : closed.hands.clock.thread.0 ≡ number
  pub begins : opened.hands.clock.time ≡ time
  pub stands : Stands heads time (all_steps did.blocks ++ did.stopped) closed
  pub seen : HasSeen r time closed

-- sessions whose numbers go on from that one; Carried tells of one of them what its thread did
module _ (Carried : ℕ → SessionLines → SessionPart → Type 0) where
  abbrev pub AreCarried : ℕ → List SessionLines → List SessionPart → Type 0
  AreCarried from [] [] = Unit {0}
  AreCarried from (lines ∷ rest) (part ∷ parts) = Carried from lines part × AreCarried (from + 1) rest parts
  AreCarried from _ _ = ⊥

-- the sessions that there were stay as they are, and there are so many more
pub record HasSessionsMore (more : ℕ) (r r' : Run) : Type 0 where
  pub on : StartsWith (sessions_of r') (sessions_of r)
  pub count : session_count r' ≡ session_count r + more
