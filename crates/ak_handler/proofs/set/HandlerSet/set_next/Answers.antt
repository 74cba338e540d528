-- The row is changed at the place of the token, and nothing is at fault.
use Rattle.std.proofs.Common.{◌≡◌, ◌≢◌, ◌==◌, ◌∙◌, is_some, Some, sym, ap, subst, arith}
use Rattle.std.specs.List.{list_any}
use Rattle.ak_handler.specs.Changes.{may_be}
use Rattle.ak_handler.specs.Handlers.{IsHandlers, chain_from, handler_of, place_of}
use Rattle.ak_handler.specs.Seen.{handlers_inside}
use Rattle.ak_handler.proofs.Linking.{handlers_linked}
use Rattle.ak_handler.proofs.Placed.{seen_at}
use Rattle.ak_handler.proofs.set.HandlerSet.set_next.Goals as goal

pub invariant_of-self : goal.invariant_of-self
invariant_of-self g c =
    let old = handlers_inside c.self.inside in
    let found = ap (λ s. is_some (handler_of s.list c.args.token)) c.self.view_is ∙ sym c.place.ensures.found ∙ ap is_some c.in-Some.is in
    let may_be_next = ap (λ s. may_be s.list c.args.next) c.self.view_is ∙ sym c.may_be.ensures ∙ c.if-not-may_be.false in
    let other : c.args.token ≢ 0 = λ e. omega arith in
    let free = ap (λ s. list_any (λ t. t == c.args.token) (chain_from s.list c.args.next)) c.self.view_is ∙ sym c.meets.ensures ∙ c.if-meets.false in
    let placed : place_of c.args.self.now.list c.args.token ≡ Some c.in-Some.place = cc in
    let at = seen_at old c.args.self.now c.args.token c.in-Some.place c.self.view_is c.self.invariant placed in
    let list = c.set_next.ensures ∙ at.changed (λ h. record h { next = c.args.next }) in
    subst (λ l. IsHandlers (record { list = l; preferred = c.self.inside.preferred; next_token = c.self.inside.next_token })) (sym list) (handlers_linked c.args.token c.args.next old c.self.invariant found may_be_next other free)

pub returns-clause-ok : goal.returns-clause-ok
returns-clause-ok g c =
    let placed : place_of c.args.self.now.list c.args.token ≡ Some c.in-Some.place = cc in
    let at = seen_at (handlers_inside c.self.inside) c.args.self.now c.args.token c.in-Some.place c.self.view_is c.self.invariant placed in
    let list = c.set_next.ensures ∙ at.changed (λ h. record h { next = c.args.next }) in
    rw (← c.self.view_is) (ap (λ l. record { list = l; preferred = c.self.inside.preferred; next_token = c.self.inside.next_token }) list)
