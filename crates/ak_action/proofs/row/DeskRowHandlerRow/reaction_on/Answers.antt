-- The place of the reaction is the place of its code.
use Rattle.std.proofs.Common.{refl}
use Rattle.ak_action.proofs.Reacting.{first_on_code}
use Rattle.ak_action.proofs.row.DeskRowHandlerRow.reaction_on.Goals as goal

pub returns : goal.returns
returns c =
    first_on_code c.args.self.now.reactions _ c.args.what.0 _ _ c.as_slice.ensures.value refl c.in_ok-place.ensures.value

pub returns-in_err-place : goal.returns-in_err-place
returns-in_err-place c =
    first_on_code c.args.self.now.reactions _ c.args.what.0 _ _ c.as_slice.ensures.value c.from_residual.ensures c.in_err-place.ensures.value
