-- A message is forwarded to a looper of the application.
use Rattle.std.proofs.Common.{◌≡◌, ap, sym, ◌∙◌, arith}
use Rattle.std.proofs.lemmas.Grind.{common_steps}
use Rattle.ak_route.specs.Routing.{Routed}
use Rattle.ak_desk.specs.Place.{routed_of}
use Rattle.ak_desk.proofs.Placing.{forwarded_within}
use Rattle.ak_desk.proofs.desk.routed.Goals as goal

pub returns-clause-forward : goal.returns-clause-forward
returns-clause-forward c = λ looper is.
    let same : record { route = c.route.result; message = c.route.new.message } ≡ routed_of c.args.state.now c.args.item.now = grind (arith, common_steps) in
    forwarded_within c.forwards_are_to_later_loopers.ensures.routed c.args.state.now c.args.item.now looper (sym (ap (λ (r : Routed). r.route) same) ∙ is)
