-- A row stands where its handler does.
use Rattle.std.proofs.Common.{◌<◌, ◌==◌, ◌∙◌, AllPairs, position, sym, ap, subst}
use Rattle.indexmap.specs.IndexMap.{values}
use Rattle.ak_handler.specs.Handlers.{has_token, place_of}
use Rattle.ak_handler.specs.Rows.{handler_seen, Rise}
use Rattle.ak_handler.proofs.Halving.{rows_rise}
use Rattle.ak_base.proofs.Surface.{position-map}
use Rattle.ak_handler.proofs.rows.Rows.place.Goals as goal

pub place_with-requires : goal.place_with-requires
place_with-requires g c =
    subst Rise (sym (c.as_slice.ensures ∙ c.values.ensures.rest)) (rows_rise (values c.self.inside.by_name) (subst (λ list. AllPairs (λ a b. a.token < b.token) list) (sym c.self.view_is) c.requires))

pub returns : goal.returns
returns g c =
    c.place_with.ensures ∙ ap (position (λ row. row.token == c.args.token)) (c.as_slice.ensures ∙ c.values.ensures.rest) ∙ sym (position-map handler_seen (has_token c.args.token) (values c.self.inside.by_name)) ∙ ap (λ list. place_of list c.args.token) c.self.view_is
