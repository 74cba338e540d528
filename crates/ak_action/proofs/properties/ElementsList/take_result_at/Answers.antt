-- The reply has no result of the kind.
use Rattle.std.proofs.Common.{◌≡◌, None, sym, arith}
use Rattle.std.proofs.lemmas.Grind.{common_steps}
use Rattle.std.specs.Result.{result_ok}
use Rattle.ak_action.proofs.Placing.{found, kept}
use Rattle.ak_action.proofs.properties.ElementsList.take_result_at.Goals as goal

pub returns : goal.returns
returns c =
    let none : result_ok (found c.args.self.now c.args.place c.args.reply c.in-Some.kind) ≡ None = grind (arith, common_steps) in
    kept c.args.self.now c.args.place c.args.reply c.in-Some.kind (sym c.in-Some.ensures) none
