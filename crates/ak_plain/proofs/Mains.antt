-- What main does for its statements is plain, where they say words that are launched or looked up, and edits that may be asked for; and so is what it
-- does to end the run.
use Rattle.std.proofs.Common.{◌≡◌, ℕ, List, [], ◌∷◌, ◌++◌, Option, None, Some, length, sym, subst, inl, inr}
use Rattle.std.specs.Prelude.{◌⊎◌, IfSome, IsTrue}
use Rattle.std.specs.List.{range_with_len}
use Rattle.ak_base.specs.declared.app_word.AppWord.{AppWord}
use Rattle.ak_base.specs.declared.ending.Ending.{Ending}
use Rattle.ak_base.specs.declared.ending.Ending.TheVariants as ending
use Rattle.ak_message.specs.Message.{MessageData}
use Rattle.ak_flatten.specs.Item.{ItemData}
use Rattle.ak_roster.specs.declared.entry.LaunchOutcome.{LaunchOutcome}
use Rattle.ak_roster.specs.declared.entry.LaunchOutcome.TheVariants as outcome
use Rattle.ak_roster.specs.declared.entry.RosterEntry.{RosterEntry}
use Rattle.ak_roster.specs.declared.head.AppHead.{AppHead}
use Rattle.ak_roster.specs.declared.team.Running.{Running}
use Rattle.ak_port.specs.declared.port_entry.PortEvent.{PortEvent}
use Rattle.ak_describe.specs.Whole.{heads_of}
use Rattle.ak_describe.specs.declared.described.AppText.{AppText}
use Rattle.ak_diary.specs.Step.{Step, at_port, at_roster, saw_roster}
use Rattle.ak_diary.specs.Wants.{AsksInVain}
use Rattle.ak_script.specs.declared.statement.Hey.{Hey}
use Rattle.ak_script.specs.declared.statement.Launch.{Launch}
use Rattle.ak_script.specs.declared.statement.Lock.{Lock}
use Rattle.ak_script.specs.declared.statement.Post.{Post}
use Rattle.ak_script.specs.declared.statement.Statement.{Statement}
use Rattle.ak_script.specs.declared.statement.Statement.TheVariants as statement
use Rattle.ak_print.specs.declared.told.Told.{Told}
use Rattle.ak_print.specs.declared.told.Told.TheVariants as told
use Rattle.ak_session.specs.Doing.{address_of}
use Rattle.ak_lines.specs.declared.outcome.Outcome.{Outcome}
use Rattle.ak_lines.specs.declared.outcome.Outcome.TheVariants as came
use Rattle.ak_lines.specs.Blocks.{FindingLooper, IsAnswered, IsEdited, IsNothing, IsPostRefused, IsPosted, IsRefused, hey_item, post_item}
use Rattle.ak_team.specs.Greeting.{EntersEach, SendsEach, arguments_told, capacities_in, start_entries}
use Rattle.ak_run.specs.Closing.{EndsTeam, EndsTeams, LeavesSo, ports_of}
use Rattle.ak_run.specs.Doing.{FindsRunning, LaunchesAt, LaunchesInVain, StartsInVain, StartsTeam}
use Rattle.ak_run.specs.Stopping.{LeavesOrSees, StopsTeam}
use Rattle.ak_play.specs.Blocks.{IsBlock, IsHeyBlock, IsLaunchBlock, IsLockBlock, IsPostBlock, LacksAt, RefusedAt}
use Rattle.ak_play.specs.Parts.{Part}
use Rattle.ak_play.specs.Play.{LackedSo, RefusedSo, StoppedSo}
use Rattle.ak_desk.specs.Plain.{is_plain_edit}
use Rattle.ak_journal.specs.Plain.{IsPlainRoster}
use Rattle.ak_plain.proofs.Said.{IsSaid}
use Rattle.ak_input.specs.Written.{is_launched, is_looked_up}
use Rattle.ak_plain.proofs.Lines.{answered_plain, edited_plain, finding_none_plain, finding_plain, finds_at_plain, nothing_plain, post_refused_plain, posted_plain, refused_plain}
use Rattle.ak_plain.proofs.Sides.{ArePlain, both, more, none, one, shuts_all_plain, vain_plain}

-- ---- a launch
enters_each_plain : (entries : List (ℕ × PortEvent)) (steps : List Step) → EntersEach entries steps → ArePlain steps
enters_each_plain [] steps is = none steps is
enters_each_plain (e ∷ entries) steps is = more (at_port e.0 is.0) is.1 steps tt (enters_each_plain entries is.1 is.3) is.4

sends_each_plain : (looper : ℕ) (items : List ItemData) (steps : List Step) → SendsEach looper items steps → ArePlain steps
sends_each_plain looper [] steps is = none steps is
sends_each_plain looper (item ∷ items) steps is = more (at_port looper is.0) is.1 steps tt (sends_each_plain looper items is.1 is.3) is.4

stops_or_sees_plain : (heads : List AppHead) (before : List RosterEntry) (team : ℕ) (steps : List Step) → LeavesOrSees heads before team steps → ArePlain steps
stops_or_sees_plain heads before team steps (inl gone) = one (at_roster gone.1.noted) steps (subst IsPlainRoster (sym gone.1.event_is) tt) gone.1.is
stops_or_sees_plain heads before team steps (inr sees) = one (saw_roster sees.seen) steps tt sees.is

stops_plain : (heads : List AppHead) (before : List RosterEntry) (team first loopers : ℕ) (steps : List Step) → StopsTeam heads before team first loopers steps → ArePlain steps
stops_plain heads before team first loopers steps s =
    both s.gone s.shut steps (stops_or_sees_plain heads before team s.gone s.leaves) (shuts_all_plain (range_with_len first loopers) s.shut s.shuts) s.is

module _ (w : AppWord) (said : IsTrue (is_launched w)) where
  launches_plain : (o : LaunchOutcome) (place : ℕ) (steps : List Step) → LaunchesAt w o place steps → ArePlain steps
  launches_plain o place steps l = one (at_roster l.noted) steps (subst IsPlainRoster (sym l.event_is) said) l.is

  starts_plain : (apps : List AppText) (arguments : Option MessageData) (team place : ℕ) (steps : List Step) → StartsTeam apps w arguments team place steps → ArePlain steps
  starts_plain apps arguments team place steps s =
      both s.ports s.entry steps (enters_each_plain (start_entries s.first (capacities_in s.app.loopers) arguments) s.ports s.enters)
      (launches_plain (outcome.Started s.description team s.first) place s.entry s.launches) s.is

  finds_running_plain : (apps : List AppText) (arguments : Option MessageData) (team place : ℕ) (steps : List Step) → FindsRunning apps w arguments team place steps → ArePlain steps
  finds_running_plain apps arguments team place steps f =
      both f.entry f.told steps (launches_plain (outcome.AlreadyRunning team) place f.entry f.launches) (sends_each_plain f.running.first (arguments_told arguments) f.told f.sends) f.is

  in_vain_plain : (arguments : Option MessageData) (steps : List Step) → LaunchesInVain w arguments steps → ArePlain steps
  in_vain_plain arguments steps (inl is) = none steps is
  in_vain_plain arguments steps (inr f) = launches_plain (outcome.AlreadyRunning f.team) f.place steps f.launches

  starts_in_vain_plain : (apps : List AppText) (arguments : Option MessageData) (steps : List Step) → StartsInVain apps w arguments steps → ArePlain steps
  starts_in_vain_plain apps arguments steps s =
      both s.started s.ended steps (starts_plain apps arguments s.team s.place s.started s.starts)
      (stops_plain (heads_of apps) (s.starts.launches.noted.before ++ s.starts.launches.noted.entry ∷ []) s.team s.starts.first (length s.starts.app.loopers) s.ended s.stops) s.is

launch_block_plain : (apps : List AppText) (l : Launch) (o : Outcome) (t : Told) (steps : List Step) → IsTrue (is_launched l.word) → IsLaunchBlock apps l o t steps → ArePlain steps
launch_block_plain apps l (came.Launched place) (told.Started team) steps said is = starts_plain l.word said apps l.arguments team place steps is
launch_block_plain apps l (came.Launched place) (told.Running team) steps said is = finds_running_plain l.word said apps l.arguments team place steps is
launch_block_plain apps l (came.Launched place) told.NotFound steps said is = launches_plain l.word said outcome.NotFound place steps is
launch_block_plain apps l (came.Launched place) told.Limit steps said is = launches_plain l.word said outcome.Limit place steps is
launch_block_plain apps l _ _ steps said is = absurd is

-- ---- each other statement that main carries out by itself
module _ (heads : List AppHead) where
  hey_block_plain : (h : Hey) (o : Outcome) (t : Told) (steps : List Step) → IsTrue (is_looked_up h.app) → IsHeyBlock heads h o t steps → ArePlain steps
  hey_block_plain h (came.Replied slot) (told.Reply message) steps said is = finding_plain heads h.app said 0 (IsAnswered (hey_item h) slot message) steps (answered_plain (hey_item h) slot message) is
  hey_block_plain h (came.SendRefused looper place why) (told.Refused e) steps said is = finding_plain heads h.app said 0 (IsRefused (hey_item h) looper place why) steps (refused_plain (hey_item h) looper place why) is.1
  hey_block_plain h (came.NoTeam place) told.NoTeam steps said is = finds_at_plain heads h.app said None place steps is
  hey_block_plain h _ _ steps said is = absurd is

  post_block_plain : (p : Post) (o : Outcome) (t : Told) (steps : List Step) → IsTrue (is_looked_up p.app) → IsPostBlock heads p o t steps → ArePlain steps
  post_block_plain p (came.Posted looper position) told.Posted steps said is = finding_plain heads p.app said p.looper (IsPosted (post_item p) looper position) steps (posted_plain (post_item p) looper position) is
  post_block_plain p (came.SendRefused looper place why) (told.Refused e) steps said is = finding_plain heads p.app said p.looper (IsPostRefused p.waits looper place why) steps (post_refused_plain p.waits looper place why) is.1
  post_block_plain p (came.NoTeam place) told.NoTeam steps said is = finds_at_plain heads p.app said None place steps is
  post_block_plain p (came.NoLooper place) told.NoLooper steps said is = finding_none_plain heads p.app said p.looper place steps is
  post_block_plain p _ _ steps said is = absurd is

  lock_block_plain : (l : Lock) (o : Outcome) (t : Told) (steps : List Step) → IsTrue (is_looked_up l.app) → IsTrue (is_plain_edit l.edit) → IsLockBlock heads l o t steps → ArePlain steps
  lock_block_plain l (came.Edited looper place) (told.Edit answer) steps said edits is = finding_plain heads l.app said l.looper (IsEdited l looper place answer) steps (edited_plain l edits looper place answer) is
  lock_block_plain l (came.NoTeam place) told.NoTeam steps said edits is = finds_at_plain heads l.app said None place steps is
  lock_block_plain l (came.NoLooper place) told.NoLooper steps said edits is = finding_none_plain heads l.app said l.looper place steps is
  lock_block_plain l _ _ steps said edits is = absurd is

  -- at which it stopped
  stopped_at_plain : (w : AppWord) → IsTrue (is_looked_up w) → (place : ℕ) (P : ℕ → List Step → Type 0) (steps : List Step) → ((looper : ℕ) (rest : List Step) → P looper rest → ArePlain rest) → (steps ≡ []) ⊎ FindingLooper heads w place P steps → ArePlain steps
  stopped_at_plain w said place P steps each (inl is) = none steps is
  stopped_at_plain w said place P steps each (inr f) = finding_plain heads w said place P steps each f

pub block_plain : (apps : List AppText) (s : Statement) (o : Outcome) (t : Told) (steps : List Step) → IsSaid s → IsBlock apps s o t steps → ArePlain steps
block_plain apps (statement.Launch l) o t steps said is = launch_block_plain apps l o t steps said is
block_plain apps (statement.Hey h) o t steps said is = hey_block_plain (heads_of apps) h o t steps said is
block_plain apps (statement.Post p) o t steps said is = post_block_plain (heads_of apps) p o t steps said is
block_plain apps (statement.Lock l) o t steps said is = lock_block_plain (heads_of apps) l o t steps said.0 said.1 is
block_plain apps (statement.Together b) o t steps said is = absurd is

-- memory ran out at it, or a thread could not be started
lacks_plain : (apps : List AppText) (s : Statement) (steps : List Step) → IsSaid s → LacksAt apps s steps → ArePlain steps
lacks_plain apps (statement.Launch l) steps said is = in_vain_plain l.word said l.arguments steps is
lacks_plain apps (statement.Hey h) steps said is =
    stopped_at_plain (heads_of apps) h.app said 0 (λ (looper : ℕ). AsksInVain (address_of looper (hey_item h)) (hey_item h)) steps (λ looper rest v. vain_plain (address_of looper (hey_item h)) (hey_item h) rest v) is
lacks_plain apps (statement.Post p) steps said is = stopped_at_plain (heads_of apps) p.app said p.looper (λ (looper : ℕ). IsNothing) steps nothing_plain is
lacks_plain apps (statement.Lock l) steps said is = stopped_at_plain (heads_of apps) l.app said.0 l.looper (λ (looper : ℕ). IsNothing) steps nothing_plain is
lacks_plain apps (statement.Together b) steps said is = none steps is

refused_launch_plain : (apps : List AppText) (s : Statement) (steps : List Step) → IsSaid s → RefusedAt apps s steps → ArePlain steps
refused_launch_plain apps (statement.Launch l) steps said is = starts_in_vain_plain l.word said apps l.arguments steps is
refused_launch_plain apps _ steps said is = absurd is

refused_so_plain : (apps : List AppText) (o : Option Statement) (cut : Option Part) (steps : List Step) → IfSome o IsSaid → RefusedSo apps o cut steps → ArePlain steps
refused_so_plain apps None None steps said is = absurd is
refused_so_plain apps (Some s) None steps said is = refused_launch_plain apps s steps said is
refused_so_plain apps o (Some part) steps said is = none steps is.1

lacked_so_plain : (apps : List AppText) (o : Option Statement) (steps : List Step) → IfSome o IsSaid → LackedSo apps o steps → ArePlain steps
lacked_so_plain apps o steps said (inl is) = none steps is
lacked_so_plain apps None steps said (inr is) = absurd is
lacked_so_plain apps (Some s) steps said (inr is) = lacks_plain apps s steps said is

pub stopped_so_plain : (apps : List AppText) (o : Option Statement) (cut : Option Part) (end : Ending) (steps : List Step) → IfSome o IsSaid → StoppedSo apps o cut end steps → ArePlain steps
stopped_so_plain apps o cut ending.ThreadFault steps said is = refused_so_plain apps o cut steps said is
stopped_so_plain apps o cut ending.NoMemory steps said is = lacked_so_plain apps o steps said is
stopped_so_plain apps o cut _ steps said is = none steps is

-- ---- the end of the run
leaves_so_plain : (heads : List AppHead) (so_far : List Step) (team : ℕ) (o : Option Running) (steps : List Step) → LeavesSo heads so_far team o steps → ArePlain steps
leaves_so_plain heads so_far team (Some running) steps g = one (at_roster g.noted) steps (subst IsPlainRoster (sym g.event_is) tt) g.is
leaves_so_plain heads so_far team None steps g = one (saw_roster g.seen) steps tt g.is

ends_team_plain : (heads : List AppHead) (so_far : List Step) (team : ℕ) (steps : List Step) → EndsTeam heads so_far team steps → ArePlain steps
ends_team_plain heads so_far team steps e =
    both e.gone e.shut steps (leaves_so_plain heads so_far team e.running e.gone e.leaves) (shuts_all_plain (ports_of e.running) e.shut e.shuts) e.is

pub ends_teams_plain : (heads : List AppHead) (so_far : List Step) (teams : List ℕ) (steps : List Step) → EndsTeams heads so_far teams steps → ArePlain steps
ends_teams_plain heads so_far [] steps is = none steps is
ends_teams_plain heads so_far (team ∷ teams) steps is = both is.0 is.1 steps (ends_team_plain heads so_far team is.0 is.2) (ends_teams_plain heads (so_far ++ is.0) teams is.1 is.3) is.4
