-- The row is taken out at the place of the token, and nothing is at fault.
use Rattle.std.proofs.Common.{◌≡◌, ◌≢◌, ◌∙◌, Some, map, sym, ap, subst₂, option_map, arith}
use Rattle.ak_handler.specs.Changes.{relinked}
use Rattle.ak_handler.specs.Handlers.{IsHandlers, place_of}
use Rattle.ak_handler.specs.Seen.{handlers_inside}
use Rattle.ak_handler.proofs.Placed.{seen_at}
use Rattle.ak_handler.proofs.Removing.{handlers_without}
use Rattle.ak_handler.proofs.set.HandlerSet.remove.Goals as goal

pub invariant_of-self : goal.invariant_of-self
invariant_of-self g c =
    let other : c.args.token ≢ 0 = λ e. omega arith in
    let placed : place_of c.args.self.now.list c.args.token ≡ Some c.in-Some.place = cc in
    let at = seen_at (handlers_inside c.self.inside) c.args.self.now c.args.token c.in-Some.place c.self.view_is c.self.invariant placed in
    let list = c.relink_all.ensures ∙ ap (map (relinked c.args.token)) (c.remove-row.ensures.others ∙ at.removed) in
    subst₂ (λ l p. IsHandlers (record { list = l; preferred = p; next_token = c.self.inside.next_token })) (sym list) (sym c.unless-self-inside.ensures)
    (handlers_without c.args.token (handlers_inside c.self.inside) c.self.invariant other)

pub returns-clause-content : goal.returns-clause-content
returns-clause-content g c =
    let placed : place_of c.args.self.now.list c.args.token ≡ Some c.in-Some.place = cc in
    let at = seen_at (handlers_inside c.self.inside) c.args.self.now c.args.token c.in-Some.place c.self.view_is c.self.invariant placed in
    rw (← c.self.view_is) (sym (ap (option_map (λ h. h.content)) (at.found ∙ c.remove-row.ensures.row)))

pub returns-clause-ok : goal.returns-clause-ok
returns-clause-ok g c =
    let placed : place_of c.args.self.now.list c.args.token ≡ Some c.in-Some.place = cc in
    let at = seen_at (handlers_inside c.self.inside) c.args.self.now c.args.token c.in-Some.place c.self.view_is c.self.invariant placed in
    let list = c.relink_all.ensures ∙ ap (map (relinked c.args.token)) (c.remove-row.ensures.others ∙ at.removed) in
    rw (← c.self.view_is) (λ i. record { list = list i; preferred = c.unless-self-inside.ensures i; next_token = c.self.inside.next_token })
