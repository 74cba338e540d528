-- What the handler takes that is there.
use Rattle.std.proofs.Common.{sym, ap, ◌∙◌}
use Rattle.ak_specifier.specs.Current.{current_of}
use Rattle.ak_route.specs.Receiving.{or_else, property_taker, reaction_taker}
use Rattle.ak_route.proofs.Mapped.{row-found, row-missing}
use Rattle.ak_route.proofs.Takers.{nobody_takes}
use Rattle.ak_route.proofs.receiving.own_taker.Goals as goal

pub returns-in_err-by_token : goal.returns-in_err-by_token
returns-in_err-by_token g c =
    c.from_residual.ensures ∙ sym (nobody_takes c.args.m.now (current_of c.args.m.now)) ∙ sym (ap (λ row. or_else (property_taker row c.args.m.now (current_of c.args.m.now)) (reaction_taker row c.args.m.now)) (row-missing g.R.HandlerRow.told c.args.set.now c.args.token c.in_err-by_token.ensures))

pub returns : goal.returns
returns g c =
    c.row_taker.ensures ∙ sym (ap (λ row. or_else (property_taker row c.args.m.now (current_of c.args.m.now)) (reaction_taker row c.args.m.now)) (row-found g.R.HandlerRow.told c.args.set.now c.args.token c.in_ok-by_token.field-0.now c.in_ok-by_token.ensures))
