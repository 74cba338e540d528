-- Where no handler has the token nothing changes.
use Rattle.std.proofs.Common.{◌≡◌, None, Some, arith}
use Rattle.std.proofs.lemmas.Grind.{common_steps}
use Rattle.ak_handler.specs.Changes.{content_of}
use Rattle.ak_action.specs.Properties.{with_result_at}
use Rattle.ak_action.proofs.Lending.{kept_state, lent_state}
use Rattle.ak_action.proofs.interp.answering.take_in.Goals as goal

pub returns-in_default : goal.returns-in_default
returns-in_default c =
    let none : content_of c.args.state.now.handlers.list c.args.token ≡ None = grind (arith, common_steps) in
    kept_state c.args.state.now c.args.token _ _ _ none

pub returns-in-Some : goal.returns-in-Some
returns-in-Some c =
    let there : content_of c.args.state.now.handlers.list c.args.token ≡ Some c.in-Some.row.now = grind (arith, common_steps) in
    lent_state c.args.state.now c.args.token c.in-Some.row.now (λ list. with_result_at list c.args.place c.args.reply) _ _ _ there c.take_result_at.ensures
