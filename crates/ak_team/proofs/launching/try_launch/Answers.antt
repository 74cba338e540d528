-- What was decided is what it comes to.
use Rattle.std.proofs.Common.{◌≡◌, Bor, ℕ, List, Option, length, refl, sym, ap, ◌∙◌, subst}
use Rattle.std.specs.Prelude.{option_map}
use Rattle.ak_message.specs.Message.{MessageData}
use Rattle.ak_message.specs.declared.message.Message.{Message}
use Rattle.ak_turn.specs.declared.clock.Clock.{Clock}
use Rattle.ak_action.specs.declared.plan.PlanParts.{PlanParts}
use Rattle.ak_roster.specs.declared.answer.Decision.TheVariants as decision
use Rattle.ak_team.specs.Launching.{Book, ComesTo, IsDecided, IsTurnInTime}
use Rattle.ak_team.specs.NewTeam.{IsNewTeam}
use Rattle.ak_team.specs.Opening.{FitPlaces}
use Rattle.ak_team.specs.Greeting.{EachMains, FirstHoldsTwo, capacities_in, port_events, told_first, written_from}
use Rattle.ak_team.specs.InTime.{ArePortsInTime, team_fronts}
use Rattle.ak_team.proofs.Deciding.{decided, first_holds, fits, made, running_comes, running_in_time, running_told, started_in_time, started_told}
use Rattle.ak_team.proofs.Entering.{none_entered, one_in_time, refusal_entered, runs_on, same_running}
use Rattle.ak_team.proofs.launching.try_launch.Goals as goal

pub make_team-making-requires-clause-fits : goal.make_team-making-requires-clause-fits
make_team-making-requires-clause-fits g c =
    let starts = c.in-Starts in
    subst (FitPlaces starts.first) (sym c.as_slice-plans.ensures)
    (fits c.args.apps.now c.args.book.now c.args.word.now starts.description starts.team starts.first c.requires.heads c.requires.whole starts.ensures.answer c.index-apps-description.result c.index-apps-description.is)

pub enter-requires-clause-decided : goal.enter-requires-clause-decided
enter-requires-clause-decided g c =
    let starts = c.in-Starts in
    let m = c.in-Ok.making in
    let plans = c.as_slice-plans.ensures in
    let new = subst (λ (ps : List PlanParts). IsNewTeam ps starts.team starts.first c.args.shared.now m.team m.kept.items) plans c.in-Ok.ensures.made in
    let all = ap (λ (ps : List PlanParts). length ps) (sym plans) ∙ c.in-Ok.ensures.count in (
      starts.description,
      subst (λ (b : Book). IsDecided b c.args.word.now m starts.description starts.team starts.first) (sym starts.ensures.stays.0)
          (decided c.args.apps.now c.args.book.now c.args.word.now starts.description starts.team starts.first c.requires.heads c.requires.whole starts.ensures.answer c.index-apps-description.result c.index-apps-description.is c.args.shared.now m new all),
    )

pub returns-in-Ok-clause-launch : goal.returns-in-Ok-clause-launch
returns-in-Ok-clause-launch g c =
    let starts = c.in-Starts in
    let m = c.in-Ok.making in
    let plans = c.as_slice-plans.ensures in
    let new = subst (λ (ps : List PlanParts). IsNewTeam ps starts.team starts.first c.args.shared.now m.team m.kept.items) plans c.in-Ok.ensures.made in
    let all = ap (λ (ps : List PlanParts). length ps) (sym plans) ∙ c.in-Ok.ensures.count in
    let of_app = λ (b : Book). IsDecided b c.args.word.now m starts.description starts.team starts.first in
    subst (λ (b : Book). ComesTo c.args.apps.now c.args.shared.now c.args.word.now b c.enter.new.book c.enter.result) starts.ensures.stays.0
    (c.enter.ensures.launch c.args.apps.now c.args.shared.now starts.description
    (subst of_app (sym starts.ensures.stays.0)
    (decided c.args.apps.now c.args.book.now c.args.word.now starts.description starts.team starts.first c.requires.heads c.requires.whole starts.ensures.answer c.index-apps-description.result c.index-apps-description.is c.args.shared.now m new all))
    (made c.args.apps.now c.args.book.now c.args.word.now starts.description starts.team starts.first c.requires.heads c.requires.whole starts.ensures.answer c.index-apps-description.result c.index-apps-description.is c.args.shared.now m new all))

pub returns-in-Err-clause-launch : goal.returns-in-Err-clause-launch
returns-in-Err-clause-launch g c = none_entered c.args.book.now c.decide.new.self c.args.hands.now.clock c.decide.new.clock c.in-Starts.ensures.stays

pub running-requires : goal.running-requires
running-requires g c =
    let already = c.in-AlreadyRunning in
    record { runs = runs_on c.args.book.now c.decide.new.self c.args.hands.now.clock c.decide.new.clock c.args.word.now already.team already.ensures.answer already.ensures.entry }

pub returns-in-NotFound-clause-launch : goal.returns-in-NotFound-clause-launch
returns-in-NotFound-clause-launch g c =
    refusal_entered c.args.book.now c.decide.new.self c.args.hands.now.clock c.decide.new.clock c.args.word.now decision.NotFound c.requires.main tt c.in-NotFound.ensures.answer c.in-NotFound.ensures.entry

pub returns-in-Limit-clause-launch : goal.returns-in-Limit-clause-launch
returns-in-Limit-clause-launch g c =
    refusal_entered c.args.book.now c.decide.new.self c.args.hands.now.clock c.decide.new.clock c.args.word.now decision.Limit c.requires.main tt c.in-Limit.ensures.answer c.in-Limit.ensures.entry

pub returns-in-NoMemory-clause-launch : goal.returns-in-NoMemory-clause-launch
returns-in-NoMemory-clause-launch g c = none_entered c.args.book.now c.decide.new.self c.args.hands.now.clock c.decide.new.clock c.in-NoMemory.ensures.stays

pub returns-in-AlreadyRunning-clause-launch : goal.returns-in-AlreadyRunning-clause-launch
returns-in-AlreadyRunning-clause-launch g c =
    let already = c.in-AlreadyRunning in
    running_comes c.args.apps.now c.args.shared.now c.args.word.now c.args.book.now c.decide.new.self already.team c.running.result
    (refusal_entered c.args.book.now c.decide.new.self c.args.hands.now.clock c.decide.new.clock c.args.word.now (decision.AlreadyRunning already.team) c.requires.main tt already.ensures.answer already.ensures.entry)
    c.running.ensures

pub returns-in-Ok-clause-told : goal.returns-in-Ok-clause-told
returns-in-Ok-clause-told g c =
    let starts = c.in-Starts in
    let plans = c.as_slice-plans.ensures in
    let app = c.index-apps-description.result in
    let arguments : Option MessageData = option_map (λ (b : Bor Message). b.now) c.args.arguments in
    let holds = first_holds c.args.apps.now c.args.book.now c.args.word.now starts.description starts.team starts.first c.requires.heads c.requires.whole starts.ensures.answer app c.index-apps-description.is in
    started_told c.args.apps.now c.args.book.now c.args.word.now starts.description starts.team starts.first c.requires.heads c.requires.whole starts.ensures.answer app c.index-apps-description.is arguments c.in-Ok.making.team c.enter.result
    (subst (λ (ps : List PlanParts). EachMains (port_events (capacities_in ps) (written_from 0 (told_first arguments))) (team_fronts c.in-Ok.making.team)) plans (c.in-Ok.ensures.ports (subst FirstHoldsTwo (sym plans) holds))) c.enter.ensures.team

pub returns-in-AlreadyRunning-clause-told : goal.returns-in-AlreadyRunning-clause-told
returns-in-AlreadyRunning-clause-told g c =
    let already = c.in-AlreadyRunning in
    let arguments : Option MessageData = option_map (λ (b : Bor Message). b.now) c.args.arguments in
    running_told c.args.apps.now arguments c.args.word.now c.args.book.now c.decide.new.self already.team c.running.result
    (same_running c.args.book.now c.decide.new.self c.args.hands.now.clock c.decide.new.clock c.args.word.now already.team already.ensures.answer already.ensures.entry) c.running.ensures

-- ---- in time
pub returns-in-Ok-clause-in_time : goal.returns-in-Ok-clause-in_time
returns-in-Ok-clause-in_time g c = λ some.
    let starts = c.in-Starts in
    let plans = c.as_slice-plans.ensures in
    let holds = first_holds c.args.apps.now c.args.book.now c.args.word.now starts.description starts.team starts.first c.requires.heads c.requires.whole starts.ensures.answer c.index-apps-description.result c.index-apps-description.is in
    let begun : c.decide.new.clock.time ≡ c.args.hands.now.clock.time = ap (λ (k : Clock). k.time) starts.ensures.stays.1 in
    started_in_time c.args.hands.now.clock.time _ _ c.args.book.now c.enter.new.book c.in-Ok.making.team starts.team starts.first c.enter.result some c.enter.ensures.team
    (subst (λ (t : ℕ). ArePortsInTime t (team_fronts c.in-Ok.making.team) c.make_team-making.new.hands.clock.time) begun (c.in-Ok.ensures.in_time (subst FirstHoldsTwo (sym plans) holds)))
    (subst (λ (b : Book). IsTurnInTime c.make_team-making.new.hands.clock.time c.enter.new.hands.clock.time b c.enter.new.book) starts.ensures.stays.0 c.enter.ensures.in_time)

pub returns-in-Err-clause-in_time : goal.returns-in-Err-clause-in_time
returns-in-Err-clause-in_time g c = λ some. absurd (some refl)

pub returns-in-NoMemory-clause-in_time : goal.returns-in-NoMemory-clause-in_time
returns-in-NoMemory-clause-in_time g c = λ some. absurd (some refl)

pub returns-in-NotFound-clause-in_time : goal.returns-in-NotFound-clause-in_time
returns-in-NotFound-clause-in_time g c = λ some. one_in_time c.args.book.now c.decide.new.self c.args.hands.now.clock c.decide.new.clock _ _ _ c.in-NotFound.ensures.entry

pub returns-in-Limit-clause-in_time : goal.returns-in-Limit-clause-in_time
returns-in-Limit-clause-in_time g c = λ some. one_in_time c.args.book.now c.decide.new.self c.args.hands.now.clock c.decide.new.clock _ _ _ c.in-Limit.ensures.entry

pub returns-in-AlreadyRunning-clause-in_time : goal.returns-in-AlreadyRunning-clause-in_time
returns-in-AlreadyRunning-clause-in_time g c = λ some.
    let already = c.in-AlreadyRunning in
    running_in_time c.args.hands.now.clock.time c.decide.new.clock.time c.args.book.now c.decide.new.self already.team c.running.result c.running.ensures
    (one_in_time c.args.book.now c.decide.new.self c.args.hands.now.clock c.decide.new.clock _ _ _ already.ensures.entry)
