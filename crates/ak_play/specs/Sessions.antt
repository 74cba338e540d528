-- What the thread of a session of a block did, when the run has ended.
use Rattle.std.specs.Prelude.{ℕ, List, ◌++◌, All}
use Rattle.ak_turn.specs.Noted.{StandsIn}
use Rattle.ak_roster.specs.declared.head.AppHead.{AppHead}
use Rattle.ak_diary.specs.declared.histories.Histories.{Histories}
use Rattle.ak_diary.specs.Step.{AreStamped, desk_entries}
use Rattle.ak_headline.specs.Run.{HasDone, MainIsBehind, desk_list}
use Rattle.ak_lines.specs.Carried.{all_steps}
use Rattle.ak_script.specs.declared.statement.SessionLines.{SessionLines}
use Rattle.ak_block.specs.Carried.{DidLines, SessionPart}

-- these steps have all that its thread made at the roster, at the reply book, at each port and at each desk, with the stamps that are due from
-- that time on, and its edits stand at the desks; what main made past that time, for later statements and at the end, stands behind all of it
pub record HasCarried (heads : List AppHead) (h : Histories) (time number : ℕ) (lines : SessionLines) (part : SessionPart) : Type 0 where
  pub did : DidLines heads lines part
  pub stamped : AreStamped time (all_steps did.blocks ++ did.stopped)
  pub done : HasDone h number (all_steps did.blocks ++ did.stopped)
  pub behind : MainIsBehind h time number
  pub edits : (looper : ℕ) → All (StandsIn (desk_list h looper)) (desk_entries looper (all_steps did.blocks ++ did.stopped))
