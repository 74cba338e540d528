-- A team that was launched starts; then each looper that was launched has its thread. What main did is told by the answer.
use Rattle.std.proofs.Common.{◌≡◌, ◌+◌, ◌-◌, ℕ, Bor, Option, [], ap, arith, inl, length, refl, ◌∙◌}
use Rattle.std.specs.Prelude.{option_map}
use Rattle.ak_roster.specs.declared.entry.LaunchOutcome.TheVariants as outcome
use Rattle.ak_message.specs.Message.{MessageData}
use Rattle.ak_message.specs.declared.message.Message.{Message}
use Rattle.ak_describe.specs.Whole.{heads_of}
use Rattle.ak_run.specs.Doing.{LaunchesInVain}
use Rattle.ak_run.specs.Entering.{LaunchesLast}
use Rattle.ak_team.specs.InTime.{team_fronts}
use Rattle.ak_run.specs.Sessions.{session_count, told_in}
use Rattle.ak_run.specs.Starts.{thread_count}
use Rattle.ak_run.specs.Stopping.{Stops}
use Rattle.ak_run.specs.declared.run.Run.{Run}
use Rattle.ak_run.specs.declared.slots.Slots.{Slots}
use Rattle.ak_run.proofs.Acts.{records_any, same_fronts}
use Rattle.ak_run.proofs.Calls.{does_same}
use Rattle.ak_run.proofs.Doing.{does_with, then_quiet, then_records}
use Rattle.ak_run.proofs.GoingOn.{all_run}
use Rattle.ak_run.proofs.LaunchAnswers.{runs_so}
use Rattle.ak_run.proofs.Launches.{launches_at}
use Rattle.ak_run.proofs.Starts.{none_more, stops_team}
use Rattle.ak_run.proofs.Stopping.{stops_launched}
use Rattle.ak_run.proofs.run.Run.launch.Goals as goal

pub start_team-requires-clause-start : goal.start_team-requires-clause-start
start_team-requires-clause-start g c κs within = let e = c.in-Started.ensures.launch in (e.0, e.1, e.2, e.3)

pub start_team-requires-clause-gates : goal.start_team-requires-clause-gates
start_team-requires-clause-gates g c κs within = let e = c.in-Started.ensures.launch in omega (arith, e.4, c.in-Ok.ensures)

pub returns-then-start_team-clause-did : goal.returns-then-start_team-clause-did
returns-then-start_team-clause-did g c =
    let word = c.args.word.now in
    let s = c.in-Started.field-0 in
    let entered = c.enter_launch.new.self in
    let place = c.last_place-place.result in
    then_quiet _ (team_fronts s.new) c.args.self.now entered c.start_team.new.self c.in-Started.ensures.did c.start_team.ensures.started.on c.start_team.ensures.started.desks_on _
    (λ steps is. record {
      description = is.description;
      first = s.team.first;
      app = is.app;
      described = is.described;
      ports = is.ports;
      enters = is.enters;
      entry = is.entry;
      launches = launches_at word (outcome.Started is.description s.team.number s.team.first) entered place is.entry c.last_place-place.ensures is.launches;
      is = is.is;
    })
    (c.start_team.ensures.quiet c.if-start_team.true)

pub returns-then-start_team-clause-running : goal.returns-then-start_team-clause-running
returns-then-start_team-clause-running g c =
    let e = c.in-Started.ensures.launch in
    let quiet = c.start_team.ensures.quiet c.if-start_team.true in
    all_run c.in-Started.field-0.team.loopers c.enter_launch.new.self c.start_team.new.self e.0 (team_fronts c.in-Started.field-0.new) e.3.stands e.5 e.6 c.start_team.ensures.started (same_fronts _ _ quiet)

pub returns-else-start_team-clause-did : goal.returns-else-start_team-clause-did
returns-else-start_team-clause-did g c =
    let word = c.args.word.now in
    let s = c.in-Started.field-0 in
    let entered = c.enter_launch.new.self in
    let place = c.last_place-place.result in
    let t = s.team in
    let apps = c.args.self.now.apps.items in
    let ends = Stops t entered t.loopers in
    then_records _ (team_fronts s.new) c.args.self.now entered c.start_team.new.self c.in-Started.ensures.did c.start_team.ensures.started.on c.start_team.ensures.started.desks_on ends _
    (λ xs ys is stops. record {
      team = s.team.number;
      place = place;
      started = xs;
      starts = record {
        description = is.description;
        first = s.team.first;
        app = is.app;
        described = is.described;
        ports = is.ports;
        enters = is.enters;
        entry = is.entry;
        launches = launches_at word (outcome.Started is.description s.team.number s.team.first) entered place is.entry c.last_place-place.ensures is.launches;
        is = is.is;
      };
      ended = ys;
      stops = stops_launched t entered apps is.launches.noted.before is.launches.noted.entry (length is.app.loopers) ys (ap (λ (v : _). heads_of v.items) c.enter_launch.ensures.apps) is.launches.last is.count stops;
      is = refl;
    })
    (c.start_team.ensures.stops c.if-start_team.false)

pub returns-else-start_team-clause-running : goal.returns-else-start_team-clause-running
returns-else-start_team-clause-running g c =
    let e = c.in-Started.ensures.launch in
    let t = c.in-Started.field-0.team in
    let stops = c.start_team.ensures.stops c.if-start_team.false in
    all_run t.loopers c.enter_launch.new.self c.start_team.new.self e.0 (team_fronts c.in-Started.field-0.new) e.3.stands e.5 e.6 c.start_team.ensures.started (records_any (Stops t c.enter_launch.new.self t.loopers) _ _ stops)

pub returns-in-Running-clause-did : goal.returns-in-Running-clause-did
returns-in-Running-clause-did g c =
    runs_so _ _ _ c.in-Running.team c.in-Running.first c.args.self.now c.enter_launch.new.self c.greet_again.new.self c.in-Running.ensures.did c.greet_again.result c.greet_again.ensures.answer c.greet_again.ensures.did

pub returns-in-NotFound-clause-did : goal.returns-in-NotFound-clause-did
returns-in-NotFound-clause-did g c =
    let word = c.args.word.now in
    let entered = c.enter_launch.new.self in
    does_with (LaunchesLast word outcome.NotFound entered) _ c.args.self.now entered (λ steps is. launches_at word outcome.NotFound entered _ steps c.last_place.ensures is) c.in-NotFound.ensures.did

pub returns-in-Limit-clause-did : goal.returns-in-Limit-clause-did
returns-in-Limit-clause-did g c =
    let word = c.args.word.now in
    let entered = c.enter_launch.new.self in
    does_with (LaunchesLast word outcome.Limit entered) _ c.args.self.now entered (λ steps is. launches_at word outcome.Limit entered _ steps c.last_place-in-Limit.ensures is) c.in-Limit.ensures.did

pub returns-in-NoMemory-clause-did : goal.returns-in-NoMemory-clause-did
returns-in-NoMemory-clause-did g c =
    let entered = c.enter_launch.new.self in
    let arguments : Option MessageData = option_map (λ (b : Bor Message). b.now) c.args.arguments in
    does_with (λ steps. steps ≡ []) (LaunchesInVain c.args.word.now arguments) c.args.self.now entered (λ steps none. inl none) c.in-NoMemory.ensures.did

-- nothing was done
pub returns-in_default-clause-did : goal.returns-in_default-clause-did
returns-in_default-clause-did g c =
    let arguments : Option MessageData = option_map (λ (b : Bor Message). b.now) c.args.arguments in
    does_same (LaunchesInVain c.args.word.now arguments) c.args.self.now _ (inl refl) refl refl refl refl

-- ---- the threads
-- the loopers of a run that has the same sessions
threads_are : (more : ℕ) (r s t : Run) → length s.members.items ≡ length r.members.items → length t.members.items ≡ length s.members.items + more → s.slots ≡ r.slots → t.slots ≡ s.slots → thread_count t ≡ thread_count r + more
threads_are more r s t first second slots slots' =
    let sessions : session_count t ≡ session_count r = ap (λ (all : Slots). length (told_in all)) (slots' ∙ slots) in
    omega (arith, first, second, sessions)

pub returns-then-start_team-clause-starts : goal.returns-then-start_team-clause-starts
returns-then-start_team-clause-starts g c =
    let entered = c.enter_launch.ensures in
    let started = c.start_team.ensures in
    let many = c.in-Started.field-0.team.loopers in
    λ other. record {
      more = many;
      count = threads_are many c.args.self.now c.enter_launch.new.self c.start_team.new.self entered.count started.started.count entered.slots started.started.slots;
      starts = started.asked c.if-start_team.true;
    }

pub returns-else-start_team-clause-stops_starting : goal.returns-else-start_team-clause-stops_starting
returns-else-start_team-clause-stops_starting g c =
    let r = c.args.self.now in
    let t = c.start_team.new.self in
    let entered = c.enter_launch.ensures in
    let started = c.start_team.ensures in
    let many = c.in-Started.field-0.team.loopers in
    let more = threads_are many r c.enter_launch.new.self t entered.count started.started.count entered.slots started.started.slots in
    λ same.
    stops_team (thread_count t - thread_count r) many (thread_count r) (thread_count t) (g.W.Spawner.calls c.args.spawner.now) (g.W.Spawner.calls c.start_team.new.spawner) (omega (arith, more)) more
    (started.given_back c.if-start_team.false)

-- none was started
pub returns-in-Running-clause-starts : goal.returns-in-Running-clause-starts
returns-in-Running-clause-starts g c =
    let entered = c.enter_launch.ensures in
    let greeted = c.greet_again.ensures in
    let sessions = ap (λ (all : Slots). length (told_in all)) (greeted.slots ∙ entered.slots) in
    λ other. none_more _ _ (g.W.Spawner.calls c.args.spawner.now) (omega (arith, greeted.count, entered.count, sessions))

pub returns-in-NotFound-clause-starts : goal.returns-in-NotFound-clause-starts
returns-in-NotFound-clause-starts g c =
    let entered = c.enter_launch.ensures in
    let sessions = ap (λ (all : Slots). length (told_in all)) entered.slots in
    λ other. none_more _ _ (g.W.Spawner.calls c.args.spawner.now) (omega (arith, entered.count, sessions))

pub returns-in-Limit-clause-starts : goal.returns-in-Limit-clause-starts
returns-in-Limit-clause-starts g c =
    let entered = c.enter_launch.ensures in
    let sessions = ap (λ (all : Slots). length (told_in all)) entered.slots in
    λ other. none_more _ _ (g.W.Spawner.calls c.args.spawner.now) (omega (arith, entered.count, sessions))

pub returns-in-NoMemory-clause-starts : goal.returns-in-NoMemory-clause-starts
returns-in-NoMemory-clause-starts g c =
    let entered = c.enter_launch.ensures in
    let sessions = ap (λ (all : Slots). length (told_in all)) entered.slots in
    λ other. none_more _ _ (g.W.Spawner.calls c.args.spawner.now) (omega (arith, entered.count, sessions))

pub returns-in_default-clause-starts : goal.returns-in_default-clause-starts
returns-in_default-clause-starts g c = λ other. none_more _ _ (g.W.Spawner.calls c.args.spawner.now) refl
