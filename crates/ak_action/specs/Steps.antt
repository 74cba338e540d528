-- The steps of a reaction as the code takes them: where one may be taken, and what it gives.
use Rattle.std.specs.Prelude.{ℕ, ◌<◌, is_some, Option, None, Some}
use Rattle.ak_action.specs.declared.action.Action.{Action}
use Rattle.ak_action.specs.declared.answer.Answer.{Answer}
use Rattle.ak_action.specs.declared.answer.Want.{Want}
use Rattle.ak_action.specs.declared.interp.Stage.{Stage}
use Rattle.ak_action.specs.declared.interp.Stage.TheVariants as stage
use Rattle.ak_action.specs.declared.state.DeskState.{DeskState}
use Rattle.ak_action.specs.Doing.{doing_of}
use Rattle.ak_action.specs.Interp.{InterpData, Carried, goes, wants, carried, hear_of_team}
use Rattle.ak_action.specs.Limits.{action_limit}

-- ---- where an action's last word is still to be said
abbrev pub IsGoing : Stage → Type 0
IsGoing stage.Ready = Unit {0}
IsGoing (stage.Finding _ _) = Unit {0}
IsGoing (stage.Found _ _ _) = Unit {0}
IsGoing (stage.Sent _) = Unit {0}
IsGoing stage.Ended = ⊥

pub record IsInAction (i : InterpData) : Type 0 where
  pub place : i.place < action_limit
  pub going : IsGoing i.stage

abbrev pub IsFinding : Stage → Type 0
IsFinding stage.Ready = ⊥
IsFinding (stage.Finding _ _) = Unit {0}
IsFinding (stage.Found _ _ _) = ⊥
IsFinding (stage.Sent _) = ⊥
IsFinding stage.Ended = ⊥

-- ---- one action
-- what is wanted after it, or that the next one is ready
abbrev pub carried_as : Option Want → InterpData → DeskState → Carried
carried_as None i s = goes i s
carried_as (Some w) i s = wants w i s

-- the action, if there is one
abbrev pub stepped : Option Action → InterpData → DeskState → Carried
stepped None i s = goes i s
stepped (Some a) i s = carried (doing_of s i.token i.message (is_some i.reply) a) i s

-- ---- an application is found, or not
abbrev pub found_at : Stage → ℕ → Stage
found_at (stage.Finding how m) looper = stage.Found looper how m
found_at at looper = at

abbrev pub team_heard : Stage → InterpData → Answer → InterpData
team_heard (stage.Finding how m) i a = hear_of_team how m i a
team_heard _ i a = i
