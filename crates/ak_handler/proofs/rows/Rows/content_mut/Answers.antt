-- One row holds something else, and has its name.
use Rattle.std.proofs.Common.{◌∙◌, sym, ap, refl, option_map}
use Rattle.std.specs.List.{slice_get}
use Rattle.std.specs.String.{string_bytes}
use Rattle.std.proofs.lemmas.Option.{slice_get-map}
use Rattle.indexmap.specs.IndexMap.{values}
use Rattle.ak_handler.specs.Rows.{changed_at, handler_seen}
use Rattle.ak_handler.proofs.Named.{named_changed, seen_changed}
use Rattle.ak_handler.proofs.rows.Rows.content_mut.Goals as goal

pub invariant_of-self-lent : goal.invariant_of-self-lent
invariant_of-self-lent g c w =
    named_changed string_bytes c.self.inside.by_name.entries c.args.place c.index_mut.result.now (record c.index_mut.result.now { content = w }) c.self.invariant c.index_mut.ensures.value refl

pub returns : goal.returns
returns g c = (
  (refl, λ w. seen_changed c.self.inside.by_name.entries c.args.place c.index_mut.result.now (record c.index_mut.result.now { content = w }) (λ h. record h { content = w }) c.index_mut.ensures.value refl ∙ ap (λ list. changed_at list c.args.place (λ h. record h { content = w })) c.self.view_is),
  record {
    writes_back = tt;
    value = ap (λ list. option_map (λ h. h.content) (slice_get list c.args.place)) (sym c.self.view_is) ∙ ap (option_map (λ h. h.content)) (slice_get-map handler_seen (values c.self.inside.by_name) c.args.place ∙ ap (option_map handler_seen) c.index_mut.ensures.value);
  },
)
