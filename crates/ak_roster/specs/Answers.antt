-- What the calls of the roster's book answer.
use Rattle.std.specs.Prelude.{◌≡◌, Option, None, Some, Result, Ok, Err, Vec}
use Rattle.std.specs.declared.alloc.Global.{Global}
use Rattle.ak_base.specs.declared.app_word.AppWord.{AppWord}
use Rattle.ak_base.specs.declared.app_word.AppWord.TheVariants as word
use Rattle.ak_base.specs.declared.no_memory.NoMemory.{NoMemory}
use Rattle.ak_roster.specs.declared.answer.Decision.{Decision}
use Rattle.ak_roster.specs.declared.answer.Decision.TheVariants as decision
use Rattle.ak_roster.specs.declared.answer.FindAnswer.{FindAnswer}
use Rattle.ak_roster.specs.declared.answer.FindAnswer.TheVariants as found
use Rattle.ak_roster.specs.declared.answer.Launched.{Launched}
use Rattle.ak_roster.specs.declared.answer.Launched.TheVariants as launched
use Rattle.ak_roster.specs.declared.team.Running.{Running}
use Rattle.ak_roster.specs.declared.entry.LaunchOutcome.{LaunchOutcome}
use Rattle.ak_roster.specs.declared.entry.LaunchOutcome.TheVariants as launch

-- the decision is the launch's outcome, where it starts before it is entered
abbrev pub decision_of : LaunchOutcome → Decision
decision_of (launch.Started place team first) = decision.Starts place team first
decision_of (launch.AlreadyRunning team) = decision.AlreadyRunning team
decision_of launch.NotFound = decision.NotFound
decision_of launch.Limit = decision.Limit

abbrev pub answer_of : Option Running → FindAnswer
answer_of None = found.NoTeam
answer_of (Some team) = found.Team team.team team.first team.loopers

-- what holds where the decision is one of the three entered ones; where it starts; and where memory ran out
abbrev pub OnRefusal : Decision → Type 0 → Type 0
OnRefusal decision.NotFound p = p
OnRefusal (decision.AlreadyRunning team) p = p
OnRefusal decision.Limit p = p
OnRefusal (decision.Starts place team first) p = Unit {0}
OnRefusal decision.NoMemory p = Unit {0}

abbrev pub UnlessRefusal : Decision → Type 0 → Type 0
UnlessRefusal decision.NotFound p = Unit {0}
UnlessRefusal (decision.AlreadyRunning team) p = Unit {0}
UnlessRefusal decision.Limit p = Unit {0}
UnlessRefusal (decision.Starts place team first) p = p
UnlessRefusal decision.NoMemory p = p

abbrev pub OnDecision : Decision → Type 0 → Type 0
OnDecision decision.NotFound p = p
OnDecision (decision.AlreadyRunning team) p = p
OnDecision decision.Limit p = p
OnDecision (decision.Starts place team first) p = p
OnDecision decision.NoMemory p = Unit {0}

-- what holds where a look-up is answered, and where memory ran out
abbrev pub OnFound : FindAnswer → Type 0 → Type 0
OnFound (found.Team team first loopers) p = p
OnFound found.NoTeam p = p
OnFound found.NoMemory p = Unit {0}

abbrev pub UnlessFound : FindAnswer → Type 0 → Type 0
UnlessFound (found.Team team first loopers) p = Unit {0}
UnlessFound found.NoTeam p = Unit {0}
UnlessFound found.NoMemory p = p

-- a launch starts
abbrev pub IsStarted : LaunchOutcome → Type 0
IsStarted (launch.Started place team first) = Unit {0}
IsStarted (launch.AlreadyRunning team) = ⊥
IsStarted launch.NotFound = ⊥
IsStarted launch.Limit = ⊥

-- a launch is asked for by a path or by a signature
abbrev pub IsWord : AppWord → Type 0
IsWord (word.Path path) = Unit {0}
IsWord (word.Signature signature) = Unit {0}
IsWord (word.Name name) = ⊥
IsWord (word.Team team) = ⊥

module _ {D : Type 0} where
  -- the launch that was decided on has started
  abbrev pub LaunchedTo : LaunchOutcome → Launched D → Type 0
  LaunchedTo (launch.Started place team first) result = result ≡ launched.Started team first
  LaunchedTo (launch.AlreadyRunning team) result = ⊥
  LaunchedTo launch.NotFound result = ⊥
  LaunchedTo launch.Limit result = ⊥

  -- what holds where it started, and of the doors given back where memory ran out
  abbrev pub OnStarted : Launched D → Type 0 → Type 0
  OnStarted (launched.Started team first) p = p
  OnStarted (launched.NoMemory doors) p = Unit {0}

  abbrev pub UnlessStarted : Launched D → (Vec D Global → Type 0) → Type 0
  UnlessStarted (launched.Started team first) p = Unit {0}
  UnlessStarted (launched.NoMemory doors) p = p doors

module _ {P : Type 0} where
  -- what holds of a part that is given, and where none is
  abbrev pub IfPart : Result (Option P) NoMemory → (P → Type 0) → Type 0
  IfPart (Ok (Some part)) p = p part
  IfPart (Ok None) p = Unit {0}
  IfPart (Err fault) p = Unit {0}

  abbrev pub UnlessPart : Result (Option P) NoMemory → Type 0 → Type 0
  UnlessPart (Ok (Some part)) p = Unit {0}
  UnlessPart (Ok None) p = p
  UnlessPart (Err fault) p = p
