-- A handler that is not there matches as one without rows.
use Rattle.std.proofs.Common.{ap, ◌∙◌}
use Rattle.ak_message.specs.Specifier.{specifier_of}
use Rattle.ak_route.specs.Matching.{table_matches}
use Rattle.ak_route.proofs.Mapped.{row-found, row-missing}
use Rattle.ak_route.proofs.resolving.handler_matches.Goals as goal

pub returns-in-Some : goal.returns-in-Some
returns-in-Some g c =
    rw (row-found g.R.HandlerRow.told c.args.set.now c.args.token c.in-Some.row.now c.in-Some.ensures) (c.matches.ensures ∙ ap (λ table. table_matches table c.args.m.now (specifier_of c.args.specifier)) c.table.ensures)

pub returns-in-None : goal.returns-in-None
returns-in-None g c =
    rw (row-missing g.R.HandlerRow.told c.args.set.now c.args.token c.in-None.ensures) c.gets_built_in.ensures
