-- What main did by a launch, by its answer.
use Rattle.std.proofs.Common.{◌≡◌, ◌<◌, inr, ℕ, List, [], ◌++◌, length, Option, refl, sym, ap, ◌∙◌, subst, append-nil}
use Rattle.std.specs.Prelude.{IfSome, get_or, set}
use Rattle.ak_base.specs.Thread.{main_thread}
use Rattle.ak_base.specs.declared.app_word.AppWord.{AppWord}
use Rattle.ak_message.specs.Message.{MessageData}
use Rattle.ak_describe.specs.declared.described.AppText.{AppText}
use Rattle.ak_diary.specs.Step.{Step}
use Rattle.ak_port.specs.PortCalls as at_ports
use Rattle.ak_port.specs.declared.port_entry.PortEntry.{PortEntry}
use Rattle.ak_port.specs.declared.port_entry.PortEvent.{PortEvent}
use Rattle.ak_port.specs.declared.reply_entry.ReplyEntry.{ReplyEntry}
use Rattle.ak_roster.specs.declared.entry.LaunchOutcome.TheVariants as outcome
use Rattle.ak_run.specs.declared.answers.LaunchAnswer.{LaunchAnswer}
use Rattle.ak_run.specs.declared.answers.LaunchAnswer.TheVariants as answer
use Rattle.ak_team.specs.declared.launching.Launch.TheVariants as launch
use Rattle.ak_headline.specs.Main.{MayEnterPort}
use Rattle.ak_looper.specs.declared.door.Door.{Door}
use Rattle.ak_gather.specs.declared.member.Member.{Member}
use Rattle.ak_run.specs.declared.run.Run.{Run}
use Rattle.ak_run.specs.Doing.{DoesSo, EnteredSo, FindsRunning, LaunchedSo, LaunchesInVain}
use Rattle.ak_run.specs.Entering.{DoesWith, EntersLaunch, EntersRunning, GreetsAgain, GreetsSo}
use Rattle.ak_team.specs.Greeting.{SendsEach, arguments_told}
use Rattle.ak_run.proofs.Acting.{ActsAtBoth}
use Rattle.ak_run.proofs.Calls.{one_does, post_acts}
use Rattle.ak_run.proofs.Doing.{does_so_then, does_with}
use Rattle.ak_run.proofs.Launches.{launches_at}

-- the team runs: what is sent to it follows
module _ (apps : List AppText) (word : AppWord) (arguments : Option MessageData) (team first : ℕ) (r s t : Run) (entered : DoesWith (EntersLaunch apps word arguments (launch.Running team first) s) [] r s) where
  abbrev Entered : List Step → Type 0
  Entered = EntersRunning apps word team first s

  pub runs_so : (result : LaunchAnswer) → GreetsAgain team (length s.roster_seat.front) arguments result → DoesSo (GreetsSo first arguments result) s t → DoesSo (LaunchedSo apps word arguments result) r t
  runs_so (answer.Running number place) is sends =
      let at_roster : DoesSo Entered r s = does_with (EntersLaunch apps word arguments (launch.Running team first) s) Entered r s (λ steps last. last) entered in
      subst (λ (n : ℕ). DoesSo (LaunchedSo apps word arguments (answer.Running n place)) r t) (sym is.0)
      (does_so_then Entered (SendsEach first (arguments_told arguments)) (FindsRunning apps word arguments team place) r s t
      (λ xs ys enters sent. record {
        entry = xs;
        launches = launches_at word (outcome.AlreadyRunning team) s place xs is.1 enters.launches;
        running = enters.running;
        runs = enters.runs;
        told = ys;
        sends = subst (λ (looper : ℕ). SendsEach looper (arguments_told arguments) ys) (sym enters.first_is) sent;
        is = refl;
      }) at_roster sends)
  runs_so answer.NoMemory is sends =
      let at_roster : DoesSo Entered r s = does_with (EntersLaunch apps word arguments (launch.Running team first) s) Entered r s (λ steps last. last) entered in
      does_so_then Entered (λ steps. steps ≡ []) (LaunchesInVain word arguments) r s t
      (λ xs ys enters none. inr (record {
        some = is;
        team = team;
        place = length enters.launches.noted.before;
        launches = record {
          noted = enters.launches.noted;
          event_is = enters.launches.event_is;
          place_is = refl;
          is = ap (λ (l : List Step). xs ++ l) none ∙ append-nil xs ∙ enters.launches.is;
        };
      })) at_roster sends
  runs_so (answer.Started number place) is sends = absurd is
  runs_so (answer.NotFound place) is sends = absurd is
  runs_so (answer.Limit place) is sends = absurd is
  runs_so answer.ThreadFault is sends = absurd is

-- acts of which one thing holds are acts of which another does
pub acts_as : (looper time later : ℕ) (P Q : List Step → Type 0) (book book' : List ReplyEntry) (port port' : List PortEntry) → ((steps : List Step) → P steps → Q steps) → ActsAtBoth looper time later P book book' port port' → ActsAtBoth looper time later Q book book' port port'
acts_as looper time later P Q book book' port port' tells acts = record { steps = acts.steps; so = tells acts.steps acts.so; acts = acts.acts; goes = acts.goes }

-- a call at one looper's port, by what its entry there tells
pub does_as : (r r' : Run) (place : ℕ) (m : Member) (door : Door) (within : place < length r.members.items) (there : get_or r.members.items place m ≡ m) (is : r'.members.items ≡ set r.members.items place (record m { door = door })) (roster : r'.roster_seat ≡ r.roster_seat) (Q : List Step → Type 0)
    (e : Option PortEvent) → door.desk_seat.front ≡ m.door.desk_seat.front → m.door.port_seat.thread ≡ main_thread → IfSome e MayEnterPort → at_ports.HasAnswered e r.hands.clock r'.hands.clock m.door.port_seat door.port_seat → r'.hands.book_seat ≡ r.hands.book_seat
    → ((steps : List Step) → EnteredSo place r' steps e → Q steps) → DoesSo Q r r'
does_as r r' place m door within there is roster Q e desk_front main may answered book tells =
    one_does r r' place m door within there is roster Q desk_front
    (acts_as place r.hands.clock.time r'.hands.clock.time (λ (steps : List Step). EnteredSo place r' steps e) Q r.hands.book_seat.front r'.hands.book_seat.front m.door.port_seat.front door.port_seat.front tells (post_acts r r' place m door within there is roster e main may answered book))
