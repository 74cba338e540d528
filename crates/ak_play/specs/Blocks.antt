-- What main does for a statement, step by step; what the statement came to; and what is told of it.
use Rattle.std.specs.Prelude.{◌≡◌, ◌⊎◌, List, [], None}
use Rattle.ak_roster.specs.declared.entry.LaunchOutcome.TheVariants as outcome
use Rattle.ak_roster.specs.declared.head.AppHead.{AppHead}
use Rattle.ak_diary.specs.Step.{Step}
use Rattle.ak_diary.specs.Wants.{AsksInVain}
use Rattle.ak_script.specs.declared.statement.Hey.{Hey}
use Rattle.ak_script.specs.declared.statement.Launch.{Launch}
use Rattle.ak_script.specs.declared.statement.Lock.{Lock}
use Rattle.ak_script.specs.declared.statement.Post.{Post}
use Rattle.ak_script.specs.declared.statement.Statement.{Statement}
use Rattle.ak_script.specs.declared.statement.Statement.TheVariants as statement
use Rattle.ak_print.specs.declared.told.Told.{Told}
use Rattle.ak_lines.specs.Blocks.{FindingLooper, FindingNone, IsAnswered, IsEdited, IsNothing, IsPostRefused, IsPosted, IsRefused, hey_item, post_item}
use Rattle.ak_print.specs.declared.told.Told.TheVariants as told
use Rattle.ak_describe.specs.Whole.{heads_of}
use Rattle.ak_describe.specs.declared.described.AppText.{AppText}
use Rattle.ak_run.specs.Doing.{FindsRunning, LaunchesAt, LaunchesInVain, StartsInVain, StartsTeam}
use Rattle.ak_session.specs.Doing.{FindsAt, address_of}
use Rattle.ak_lines.specs.declared.outcome.Outcome.{Outcome}
use Rattle.ak_lines.specs.declared.outcome.Outcome.TheVariants as came

-- ---- kinds of statements
-- it is no block
abbrev pub IsAlone : Statement → Type 0
IsAlone (statement.Launch l) = Unit {0}
IsAlone (statement.Hey h) = Unit {0}
IsAlone (statement.Post p) = Unit {0}
IsAlone (statement.Lock l) = Unit {0}
IsAlone (statement.Together t) = ⊥

-- ---- each statement
-- a launch: its entry at the roster, and where a team starts or runs what is entered at its ports
abbrev pub IsLaunchBlock : List AppText → Launch → Outcome → Told → List Step → Type 0
IsLaunchBlock apps l (came.Launched place) (told.Started team) steps = StartsTeam apps l.word l.arguments team place steps
IsLaunchBlock apps l (came.Launched place) (told.Running team) steps = FindsRunning apps l.word l.arguments team place steps
IsLaunchBlock apps l (came.Launched place) told.NotFound steps = LaunchesAt l.word outcome.NotFound place steps
IsLaunchBlock apps l (came.Launched place) told.Limit steps = LaunchesAt l.word outcome.Limit place steps
IsLaunchBlock apps l _ _ steps = ⊥

-- a hey line: a slot, an item and its reply, or the refusal; no team fits
abbrev pub IsHeyBlock : List AppHead → Hey → Outcome → Told → List Step → Type 0
IsHeyBlock heads h (came.Replied slot) (told.Reply message) steps = FindingLooper heads h.app 0 (IsAnswered (hey_item h) slot message) steps
IsHeyBlock heads h (came.SendRefused looper place why) (told.Refused e) steps = (e ≡ why) × FindingLooper heads h.app 0 (IsRefused (hey_item h) looper place why) steps
IsHeyBlock heads h (came.NoTeam place) told.NoTeam steps = FindsAt heads h.app None place steps
IsHeyBlock heads h _ _ steps = ⊥

abbrev pub IsPostBlock : List AppHead → Post → Outcome → Told → List Step → Type 0
IsPostBlock heads p (came.Posted looper position) told.Posted steps = FindingLooper heads p.app p.looper (IsPosted (post_item p) looper position) steps
IsPostBlock heads p (came.SendRefused looper place why) (told.Refused e) steps = (e ≡ why) × FindingLooper heads p.app p.looper (IsPostRefused p.waits looper place why) steps
IsPostBlock heads p (came.NoTeam place) told.NoTeam steps = FindsAt heads p.app None place steps
IsPostBlock heads p (came.NoLooper place) told.NoLooper steps = FindingNone heads p.app p.looper place steps
IsPostBlock heads p _ _ steps = ⊥

abbrev pub IsLockBlock : List AppHead → Lock → Outcome → Told → List Step → Type 0
IsLockBlock heads l (came.Edited looper place) (told.Edit answer) steps = FindingLooper heads l.app l.looper (IsEdited l looper place answer) steps
IsLockBlock heads l (came.NoTeam place) told.NoTeam steps = FindsAt heads l.app None place steps
IsLockBlock heads l (came.NoLooper place) told.NoLooper steps = FindingNone heads l.app l.looper place steps
IsLockBlock heads l _ _ steps = ⊥

abbrev pub IsBlock : List AppText → Statement → Outcome → Told → List Step → Type 0
IsBlock apps (statement.Launch l) o t steps = IsLaunchBlock apps l o t steps
IsBlock apps (statement.Hey h) o t steps = IsHeyBlock (heads_of apps) h o t steps
IsBlock apps (statement.Post p) o t steps = IsPostBlock (heads_of apps) p o t steps
IsBlock apps (statement.Lock l) o t steps = IsLockBlock (heads_of apps) l o t steps
IsBlock apps (statement.Together b) o t steps = ⊥

-- ---- a statement at which main stopped
-- a hey line: nothing was done; or a team was found, and the ask was in vain
abbrev pub CutsHey : List AppHead → Hey → List Step → Type 0
CutsHey heads h steps = (steps ≡ []) ⊎ FindingLooper heads h.app 0 (λ looper. AsksInVain (address_of looper (hey_item h)) (hey_item h)) steps

-- a post and an edit: they made no entry behind that of the look-up
abbrev pub CutsPost : List AppHead → Post → List Step → Type 0
CutsPost heads p steps = (steps ≡ []) ⊎ FindingLooper heads p.app p.looper (λ looper. IsNothing) steps

abbrev pub CutsLock : List AppHead → Lock → List Step → Type 0
CutsLock heads l steps = (steps ≡ []) ⊎ FindingLooper heads l.app l.looper (λ looper. IsNothing) steps

-- memory ran out: what main may have done for the statement then; for a block nothing
abbrev pub LacksAt : List AppText → Statement → List Step → Type 0
LacksAt apps (statement.Launch l) steps = LaunchesInVain l.word l.arguments steps
LacksAt apps (statement.Hey h) steps = CutsHey (heads_of apps) h steps
LacksAt apps (statement.Post p) steps = CutsPost (heads_of apps) p steps
LacksAt apps (statement.Lock l) steps = CutsLock (heads_of apps) l steps
LacksAt apps (statement.Together b) steps = steps ≡ []

-- a thread could not be started: it is a launch, and its team was started and ended again
abbrev pub RefusedAt : List AppText → Statement → List Step → Type 0
RefusedAt apps (statement.Launch l) steps = StartsInVain apps l.word l.arguments steps
RefusedAt apps (statement.Hey h) steps = ⊥
RefusedAt apps (statement.Post p) steps = ⊥
RefusedAt apps (statement.Lock l) steps = ⊥
RefusedAt apps (statement.Together b) steps = ⊥
