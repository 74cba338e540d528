-- The token is one of the list, or none.
use Rattle.std.proofs.Common.{◌≡◌, true, ap}
use Rattle.ak_handler.specs.Changes.{may_be}
use Rattle.ak_handler.specs.Seen.{handlers_inside}
use Rattle.ak_handler.proofs.Preferring.{handlers_preferring}
use Rattle.ak_handler.proofs.set.HandlerSet.set_preferred.Goals as goal

pub invariant_of-self : goal.invariant_of-self
invariant_of-self g c =
    let seen = ap (λ s. may_be s.list c.args.token) c.self.view_is in
    let there : may_be (handlers_inside c.self.inside).list c.args.token ≡ true = cc in
    handlers_preferring (handlers_inside c.self.inside) c.args.token c.self.invariant there
