-- Nothing is at fault, so the new one can stand at the end.
use Rattle.std.proofs.Common.{◌≡◌, ◌+◌, ◌-◌, ◌^◌, ◌<◌, false, length, is_some, sym, ap, subst, arith}
use Rattle.ak_handler.specs.Handlers.{IsHandlers, token_named}
use Rattle.ak_handler.specs.Seen.{handlers_inside}
use Rattle.ak_handler.proofs.Adding.{handlers_added}
use Rattle.ak_handler.proofs.set.HandlerSet.add.Goals as goal

pub invariant_of-self-2 : goal.invariant_of-self-2
invariant_of-self-2 g c =
    let old = handlers_inside c.self.inside in
    let seen = ap (λ s. is_some (token_named s.list c.args.name)) c.self.view_is in
    let unused : is_some (token_named old.list c.args.name) ≡ false = cc in
    let few : length old.list < 64 = omega arith in
    let room : old.next_token < 2 ^ 64 - 1 = omega arith in
    subst (λ l. IsHandlers (record { list = l; preferred = c.self.inside.preferred; next_token = c.self.inside.next_token + 1 })) (sym c.in_ok-push.ensures.ok)
    (handlers_added old c.args.name c.args.content c.self.invariant unused few room)
