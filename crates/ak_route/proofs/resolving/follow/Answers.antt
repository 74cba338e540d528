-- Each step leads where all that is left does.
use Rattle.std.proofs.Common.{◌<◌, ap, ◌∙◌, arith}
use Rattle.ak_specifier.specs.Current.{left_of}
use Rattle.ak_route.specs.Handlers.{handlers_seen}
use Rattle.ak_route.specs.Resolving.{resolved, at_looper, stay, to_looper}
use Rattle.ak_route.proofs.Steps.{led, went_on}
use Rattle.ak_route.proofs.resolving.follow.Goals as goal

pub returns-in-Stay : goal.returns-in-Stay
returns-in-Stay g c =
    let some : 0 < left_of c.steps.m = omega (arith, c.left.ensures, c.steps-test.true) in
    led (handlers_seen g.R.HandlerRow.told c.args.set.now) c.args.loopers.now c.steps.m c.steps.token stay some c.in-Stay.ensures ∙ c.steps.invariant

pub steps-preserved : goal.steps-preserved
steps-preserved g c =
    let some : 0 < left_of c.steps.m = omega (arith, c.left.ensures, c.steps-test.true) in
    went_on (handlers_seen g.R.HandlerRow.told c.args.set.now) c.args.loopers.now c.steps.m c.pop_current.new.m c.steps.token c.in-ToHandler.next some c.pop_current.ensures c.in-ToHandler.ensures
    ∙ c.steps.invariant

pub returns-in-ToLooper : goal.returns-in-ToLooper
returns-in-ToLooper g c =
    let some : 0 < left_of c.steps.m = omega (arith, c.left.ensures, c.steps-test.true) in
    ap (resolved (at_looper c.in-ToLooper.looper)) c.pop_current-in-ToLooper.ensures
    ∙ led (handlers_seen g.R.HandlerRow.told c.args.set.now) c.args.loopers.now c.steps.m c.steps.token (to_looper c.in-ToLooper.looper) some c.in-ToLooper.ensures
    ∙ c.steps.invariant
