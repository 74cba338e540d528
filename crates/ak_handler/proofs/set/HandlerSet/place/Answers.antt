-- A row stands where its handler does.
use Rattle.std.proofs.Common.{◌∙◌, ◌<◌, sym, ap, subst, length, IfSome, is_some, arith}
use Rattle.std.proofs.lemmas.Option.{IfSome_then}
use Rattle.ak_handler.specs.Handlers.{has_token}
use Rattle.ak_base.proofs.Surface.{is_some-position, position-within}
use Rattle.ak_handler.proofs.set.HandlerSet.place.Goals as goal

pub place-requires : goal.place-requires
place-requires g c = c.self.invariant.tokens_rise

pub returns : goal.returns
returns g c =
    let list = c.self.inside.rows in
    let placed = c.place.ensures in
    let within = subst (λ o. IfSome o (λ place. place < length list)) (sym placed) (position-within (has_token c.args.token) list) in
    let few = c.self.invariant.limit in
    rw (← c.self.view_is)
    (record {
      place = placed;
      found = ap is_some placed ∙ is_some-position (has_token c.args.token) list;
      within = IfSome_then c.place.result within (λ place lt. (lt, omega (arith, lt, few)));
    })
