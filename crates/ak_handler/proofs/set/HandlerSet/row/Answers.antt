-- The row at the place of a handler is that handler.
use Rattle.std.proofs.Common.{◌≡◌, ◌∙◌, Some, sym, subst}
use Rattle.ak_handler.specs.Handlers.{handler_of, place_of}
use Rattle.ak_handler.proofs.Placed.{none_there, row_found}
use Rattle.ak_handler.proofs.set.HandlerSet.row.Goals as goal

pub returns : goal.returns
returns g c =
    let at = subst (λ s. Some c.in_ok-place.place ≡ place_of s.list c.args.token) (sym c.self.view_is) c.in_ok-place.ensures.place in
    rw (← c.self.view_is) (c.at.ensures ∙ row_found c.self.inside.rows c.args.token c.in_ok-place.place c.self.invariant.tokens_rise (sym at))

pub returns-in_err-place : goal.returns-in_err-place
returns-in_err-place g c =
    rw c.from_residual.ensures (none_there (handler_of c.args.self.now.list c.args.token) c.in_err-place.ensures.found)
