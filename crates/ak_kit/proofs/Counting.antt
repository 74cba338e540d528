-- How much the limits of descriptions allow: 16 applications of 8 loopers of 64 handlers.
use Rattle.std.proofs.Common.{◌<◌, ◌≤◌, List, length, arith}
use Rattle.std.specs.Prelude.{◌^◌}
use Rattle.std.proofs.lemmas.List.Elements.{All-weaker}
use Rattle.std.proofs.lemmas.List.Sums.{sum_by-le}
use Rattle.ak_action.specs.declared.plan.PlanParts.{PlanParts}
use Rattle.ak_action.specs.Plan.{IsPlan}
use Rattle.ak_action.specs.Whole.{PlansAreWhole}
use Rattle.ak_describe.specs.declared.described.AppText.{AppText}
use Rattle.ak_describe.specs.Whole.{IsWholeApp, AreWholeApps}
use Rattle.ak_kit.specs.Summary.{looper_count, handler_lines, handlers_of, handler_count}

pub few_loopers : (apps : List AppText) → AreWholeApps apps → looper_count apps < 2 ^ 64
few_loopers apps whole =
    let each = All-weaker IsWholeApp (λ (a : AppText). length a.loopers ≤ 8) (λ a h. h.few_loopers) apps whole.each in
    omega (arith, sum_by-le (λ (a : AppText). length a.loopers) 8 apps each, whole.limit)

few_lines : PlansAreWhole → (p : PlanParts) → IsPlan p → handler_lines p ≤ 64
few_lines law p is = omega (arith, (law p is).few_handlers)

few_of_app : PlansAreWhole → (a : AppText) → IsWholeApp a → handlers_of a.loopers ≤ 512
few_of_app law a whole =
    let each = All-weaker IsPlan (λ (p : PlanParts). handler_lines p ≤ 64) (few_lines law) a.loopers whole.plans_are in
    omega (arith, sum_by-le handler_lines 64 a.loopers each, whole.few_loopers)

pub few_handlers : PlansAreWhole → (apps : List AppText) → AreWholeApps apps → handler_count apps < 2 ^ 64
few_handlers law apps whole =
    let each = All-weaker IsWholeApp (λ (a : AppText). handlers_of a.loopers ≤ 512) (few_of_app law) apps whole.each in
    omega (arith, sum_by-le (λ (a : AppText). handlers_of a.loopers) 512 apps each, whole.limit)
