-- The application that is to start.
use Rattle.std.proofs.Common.{◌≡◌, ◌≢◌, ℕ, zero, suc, ◌+◌, ◌<◌, List, [], ◌∷◌, length, get_or, Option, Some, refl, sym, ap, ◌∙◌, subst, arith, All}
use Rattle.std.specs.Prelude.{slice_get, option_map, unwrap_or}
use Rattle.std.proofs.lemmas.List.{length-map}
use Rattle.std.proofs.lemmas.List.Elements.{All-get_or}
use Rattle.std.specs.List.{find}
use Rattle.std.proofs.lemmas.Option.{slice_get_read, slice_get_within}
use Rattle.ak_base.specs.declared.app_word.AppWord.{AppWord}
use Rattle.ak_roster.specs.declared.answer.Decision.TheVariants as decision
use Rattle.ak_roster.specs.declared.entry.LaunchOutcome.{LaunchOutcome}
use Rattle.ak_roster.specs.declared.entry.LaunchOutcome.TheVariants as launch
use Rattle.ak_roster.specs.declared.entry.RosterEvent.TheVariants as event
use Rattle.ak_roster.specs.declared.head.AppHead.{AppHead}
use Rattle.ak_roster.specs.Answers.{decision_of}
use Rattle.ak_message.specs.Message.{MessageData}
use Rattle.ak_roster.specs.Machine.{launch_of, loopers_at, runs_team}
use Rattle.ak_roster.specs.declared.team.Running.{Running}
use Rattle.ak_roster.specs.Roster.{state}
use Rattle.ak_roster.proofs.Surface.{started_facts}
use Rattle.ak_describe.specs.declared.described.AppText.{AppText}
use Rattle.ak_describe.specs.Whole.{IsWholeApp, head_of, heads_of}
use Rattle.ak_team.specs.declared.launching.Launch.{Launch}
use Rattle.ak_team.specs.declared.launching.Launch.TheVariants as answer
use Rattle.ak_looper.specs.declared.shared.Shared.{Shared}
use Rattle.ak_team.specs.declared.new_team.Making.{Making}
use Rattle.ak_team.specs.declared.new_team.NewTeam.{NewTeam}
use Rattle.ak_team.specs.Greeting.{EachMains, FirstHoldsTwo, capacities_in, port_events, told_first, written_from}
use Rattle.ak_team.specs.Launching.{Book, ComesTo, HasEntered, IsDecided, IsMade, IsRunningTeam, IsTeamOf, IsTurnInTime, LaunchInTime, TellsTeam}
use Rattle.ak_team.specs.NewTeam.{IsNewTeam}
use Rattle.ak_team.specs.Opening.{FitPlaces}
use Rattle.ak_team.specs.InTime.{ArePortsInTime, team_fronts}
use Rattle.ak_team.proofs.Entering.{loopers_on}
use Rattle.ak_team.proofs.Ways.{kept_count}

starts_is : (o : LaunchOutcome) (place team first : ℕ) → decision.Starts place team first ≡ decision_of o → o ≡ launch.Started place team first
starts_is (launch.Started p t f) place team first told = cc
starts_is (launch.AlreadyRunning t) place team first told = absurd cc
starts_is launch.NotFound place team first told = absurd cc
starts_is launch.Limit place team first told = absurd cc

head_at : (apps : List AppText) (place : ℕ) (head : AppHead) (app : AppText) → slice_get (heads_of apps) place ≡ Some head → app ≡ get_or apps place app → head ≡ head_of app
head_at [] place head app there is = absurd cc
head_at (a ∷ apps) zero head app there is = let same : head_of a ≡ head = cc in sym same ∙ ap head_of (sym is)
head_at (a ∷ apps) (suc place) head app there is = head_at apps place head app there is

-- a team that runs keeps it from starting
pub running_comes : (apps : List AppText) (shared : Shared) (word : AppWord) (book book' : Book) (team : ℕ) (l : Launch) → HasEntered (Some (event.Launch word (launch.AlreadyRunning team))) 0 book book' → IsRunningTeam book' team l → ComesTo apps shared word book book' l
running_comes apps shared word book book' team (answer.Running number first) entered is = (
  subst (λ (n : ℕ). HasEntered (Some (event.Launch word (launch.AlreadyRunning n))) 0 book book') (sym is.0) entered,
  omega (arith, is.1, loopers_on (Some (event.Launch word (launch.AlreadyRunning team))) 0 book book' entered),
)
running_comes apps shared word book book' team (answer.Started t) entered is = absurd is
running_comes apps shared word book book' team answer.NotFound entered is = absurd is
running_comes apps shared word book book' team answer.Limit entered is = absurd is
running_comes apps shared word book book' team answer.NoMemory entered is = absurd is

-- and it has its first looper
pub running_told : (apps : List AppText) (arguments : Option MessageData) (word : AppWord) (book book' : Book) (team : ℕ) (l : Launch) → (state book').running ≡ (state book).running → IsRunningTeam book' team l → TellsTeam apps arguments word book l
running_told apps arguments word book book' team (answer.Running number first) same is = (
  is.2,
  ap (λ (n : ℕ). find (runs_team n) (state book).running) is.0 ∙ ap (λ (xs : List Running). find (runs_team team) xs) (sym same) ∙ is.3,
  is.4,
)
running_told apps arguments word book book' team (answer.Started t) same is = absurd is
running_told apps arguments word book book' team answer.NotFound same is = absurd is
running_told apps arguments word book book' team answer.Limit same is = absurd is
running_told apps arguments word book book' team answer.NoMemory same is = absurd is

-- by one entry
pub running_in_time : (time later : ℕ) (book book' : Book) (team : ℕ) (l : Launch) → IsRunningTeam book' team l → IsTurnInTime time later book book' → LaunchInTime time later book book' l
running_in_time time later book book' team (answer.Running number first) is in_time = in_time
running_in_time time later book book' team (answer.Started t) is in_time = absurd is
running_in_time time later book book' team answer.NotFound is in_time = absurd is
running_in_time time later book book' team answer.Limit is in_time = absurd is
running_in_time time later book book' team answer.NoMemory is in_time = absurd is

-- a team that was launched: its ports, and then the entry
pub started_in_time : (time between later : ℕ) (book book' : Book) (new : NewTeam) (team first : ℕ) (l : Launch) → l ≢ answer.NoMemory → IsTeamOf new team first l → ArePortsInTime time (team_fronts new) between → IsTurnInTime between later book book' → LaunchInTime time later book book' l
started_in_time time between later book book' new team first (answer.Started t) some is ports turn = (between, subst (λ (n : NewTeam). ArePortsInTime time (team_fronts n) between) (sym is.0) ports, turn)
started_in_time time between later book book' new team first answer.NoMemory some is ports turn = absurd (some refl)
started_in_time time between later book book' new team first (answer.Running number looper) some is ports turn = absurd is
started_in_time time between later book book' new team first answer.NotFound some is ports turn = absurd is
started_in_time time between later book book' new team first answer.Limit some is ports turn = absurd is

module _ (apps : List AppText) (book : Book) (word : AppWord) (place team first : ℕ) (heads : book.heads ≡ heads_of apps) (whole : All IsWholeApp apps) (told : decision.Starts place team first ≡ decision_of (launch_of book.heads (state book) word))
    (app : AppText) (app_is : app ≡ get_or apps place app) where
  starts : launch_of book.heads (state book) word ≡ launch.Started place team first
  starts = starts_is (launch_of book.heads (state book) word) place team first told

  within : place < length apps
  within =
      let facts = started_facts book.heads (state book) word place team first starts in
      let low = slice_get_within book.heads place facts.head facts.stands in
      let many : length book.heads ≡ length apps = ap length heads ∙ length-map apps head_of in
      omega (arith, low, many)

  app_whole : IsWholeApp app
  app_whole = subst IsWholeApp (sym app_is) (All-get_or IsWholeApp apps place app within whole)

  count : loopers_at book.heads place ≡ length app.loopers
  count =
      let facts = started_facts book.heads (state book) word place team first starts in
      let head : facts.head ≡ head_of app = head_at apps place facts.head app (ap (λ hs. slice_get hs place) (sym heads) ∙ facts.stands) app_is in
      ap (λ (o : Option AppHead). unwrap_or (option_map (λ (h : AppHead). h.loopers) o) 0) facts.stands ∙ ap (λ (h : AppHead). h.loopers) head

  pub fits : FitPlaces first app.loopers
  fits = λ k p there.
      let facts = started_facts book.heads (state book) word place team first starts in
      app_whole.places_fit first k p (omega (arith, facts.few_loopers, count)) there

  pub made : (shared : Shared) (m : Making) → IsNewTeam app.loopers team first shared m.team m.kept.items → length app.loopers ≡ length m.team.others.items + 1 → IsMade apps shared m place team first
  made shared m new all = record {
    plans = app.loopers;
    described = record { app = app; there = slice_get_read apps (length apps) place app refl within app_is; plans_are = refl };
    new = new;
    all = all;
    few = app_whole.few_loopers;
  }

  pub decided : (shared : Shared) (m : Making) → IsNewTeam app.loopers team first shared m.team m.kept.items → length app.loopers ≡ length m.team.others.items + 1 → IsDecided book word m place team first
  decided shared m new all = record {
    starts = starts;
    many = count ∙ all ∙ sym (kept_count app.loopers team first shared m.team m.kept.items new);
    apps = apps;
    shared = shared;
    made = made shared m new all;
  }

  -- the port of its first looper holds two items
  pub first_holds : FirstHoldsTwo app.loopers
  first_holds = app_whole.own_capacity

  -- what is told of the team that was made
  pub started_told : (arguments : Option MessageData) (new : NewTeam) (l : Launch) → EachMains (port_events (capacities_in app.loopers) (written_from 0 (told_first arguments))) (team_fronts new) → IsTeamOf new team first l → TellsTeam apps arguments word book l
  started_told arguments new (answer.Started t) ports is = (
    place,
    starts ∙ ap (λ (n : ℕ). launch.Started place n first) (sym is.1) ∙ ap (λ (n : ℕ). launch.Started place t.team.number n) (sym is.2),
    record {
      app = app;
      described = slice_get_read apps (length apps) place app refl within app_is;
      ports = subst (λ (n : NewTeam). EachMains (port_events (capacities_in app.loopers) (written_from 0 (told_first arguments))) (team_fronts n)) (sym is.0) ports;
    },
  )
  started_told arguments new answer.NoMemory ports is = tt
  started_told arguments new (answer.Running number looper) ports is = absurd is
  started_told arguments new answer.NotFound ports is = absurd is
  started_told arguments new answer.Limit ports is = absurd is
