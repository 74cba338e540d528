-- One row has another next handler, and its name.
use Rattle.std.proofs.Common.{◌∙◌, ap, refl}
use Rattle.std.specs.String.{string_bytes}
use Rattle.ak_handler.specs.Changes.{relinked}
use Rattle.ak_handler.specs.Rows.{changed_at}
use Rattle.ak_handler.proofs.Named.{named_changed, seen_changed}
use Rattle.ak_handler.proofs.rows.Rows.relink.Goals as goal

pub invariant_of-self : goal.invariant_of-self
invariant_of-self g c =
    named_changed string_bytes c.self.inside.by_name.entries c.args.place c.index_mut-row.result.now (record c.index_mut-row.result.now { next = c.unless-row.result }) c.self.invariant c.index_mut-row.ensures.value refl

pub returns : goal.returns
returns g c =
    let row = c.index_mut-row.result.now in
    seen_changed c.self.inside.by_name.entries c.args.place row (record row { next = c.unless-row.result }) (relinked c.args.token) c.index_mut-row.ensures.value (λ i. record { token = row.token; name = row.name; next = c.unless-row.ensures i; content = row.content }) ∙ ap (λ list. changed_at list c.args.place (relinked c.args.token)) c.self.view_is
