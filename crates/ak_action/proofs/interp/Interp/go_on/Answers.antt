-- Each action is carried out as the definition has it, up to one that wants something or finds no memory.
use Rattle.std.proofs.Common.{◌≡◌, ◌<◌, length, Option, None, ap, ◌∙◌, arith}
use Rattle.std.proofs.lemmas.Grind.{common_steps}
use Rattle.ak_action.specs.declared.answer.Want.{Want}
use Rattle.ak_action.specs.Interp.{actions_of}
use Rattle.ak_action.specs.Steps.{carried_as}
use Rattle.ak_action.proofs.GoingOn.{OnErr-from, fails_here, fails_there, goes_further, wants_now}
use Rattle.ak_action.proofs.interp.Interp.go_on.Goals as goal

pub returns-in_err-want-clause-err : goal.returns-in_err-want-clause-err
returns-in_err-want-clause-err c =
    let i = c.args.self.now in
    let acts = actions_of c.args.state.now i.token i.reaction in
    let lt : c.loop.counter < length acts = grind (arith, common_steps) in
    OnErr-from c.from_residual.result (fails_here acts i c.args.state.now c.loop.counter c.loop.self c.loop.state c.loop.invariant c.step.new.self c.step.new.state lt c.in_err-want.ensures.err c.in_err-want.ensures.state_stays)

pub returns-in_err-want-clause-memory : goal.returns-in_err-want-clause-memory
returns-in_err-want-clause-memory c =
    let i = c.args.self.now in
    let acts = actions_of c.args.state.now i.token i.reaction in
    OnErr-from c.from_residual.result (fails_there acts i c.args.state.now c.loop.counter c.loop.self c.loop.state c.loop.invariant c.step.new.self c.in_err-want.ensures.err c.in_err-want.ensures.memory)

pub returns-in-Some-clause-ok : goal.returns-in-Some-clause-ok
returns-in-Some-clause-ok c =
    let i = c.args.self.now in
    let acts = actions_of c.args.state.now i.token i.reaction in
    let lt : c.loop.counter < length acts = grind (arith, common_steps) in
    let step = c.in_ok-want.ensures.ok ∙ ap (λ (o : Option Want). carried_as o c.step.new.self c.step.new.state) c.in-Some.is in
    wants_now acts i c.args.state.now c.loop.counter c.loop.self c.loop.state c.loop.invariant c.in-Some.want c.step.new.self c.step.new.state lt step

pub loop-preserved : goal.loop-preserved
loop-preserved c =
    let i = c.args.self.now in
    let acts = actions_of c.args.state.now i.token i.reaction in
    let lt : c.loop.counter < length acts = grind (arith, common_steps) in
    let none : c.in_ok-want.field-0 ≡ None = grind (arith, common_steps) in
    let step = c.in_ok-want.ensures.ok ∙ ap (λ (o : Option Want). carried_as o c.step.new.self c.step.new.state) none in
    goes_further acts i c.args.state.now c.loop.counter c.loop.self c.loop.state c.loop.invariant c.step.new.self c.step.new.state lt step
