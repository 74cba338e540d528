-- What is held is changed at the place of the token.
use Rattle.std.proofs.Common.{◌∙◌, sym, ap, subst, refl, option_map}
use Rattle.ak_handler.specs.Handlers.{IsHandlers}
use Rattle.ak_handler.specs.Seen.{handlers_inside}
use Rattle.ak_handler.proofs.Holding.{handlers_holding}
use Rattle.ak_handler.proofs.Placed.{seen_at}
use Rattle.ak_handler.proofs.set.HandlerSet.content_at.Goals as goal

pub content_mut-requires : goal.content_mut-requires
content_mut-requires g c =
    (seen_at (handlers_inside c.self.inside) c.args.self.now c.args.token c.args.place c.self.view_is c.self.invariant c.requires).within

pub invariant_of-self-lent : goal.invariant_of-self-lent
invariant_of-self-lent g c w =
    let at = seen_at (handlers_inside c.self.inside) c.args.self.now c.args.token c.args.place c.self.view_is c.self.invariant c.requires in
    subst (λ l. IsHandlers (record { list = l; preferred = c.self.inside.preferred; next_token = c.self.inside.next_token })) (sym (at.changed (λ h. record h { content = w }))) (handlers_holding c.args.token w (handlers_inside c.self.inside) c.self.invariant)

pub returns : goal.returns
returns g c =
    let at = seen_at (handlers_inside c.self.inside) c.args.self.now c.args.token c.args.place c.self.view_is c.self.invariant c.requires in
    rw (← c.self.view_is) (
      (refl, λ w. ap (λ l. record { list = l; preferred = c.self.inside.preferred; next_token = c.self.inside.next_token }) (at.changed (λ h. record h { content = w }))),
      record { writes_back = tt; value = sym c.content_mut.ensures.value ∙ ap (option_map (λ h. h.content)) (sym at.found) },
    )
