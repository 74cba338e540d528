-- One row has another next handler, and its name.
use Rattle.std.proofs.Common.{◌∙◌, ap, refl}
use Rattle.std.specs.String.{string_bytes}
use Rattle.ak_handler.specs.Rows.{changed_at}
use Rattle.ak_handler.proofs.Named.{named_changed, seen_changed}
use Rattle.ak_handler.proofs.rows.Rows.set_next.Goals as goal

pub invariant_of-self : goal.invariant_of-self
invariant_of-self g c =
    named_changed string_bytes c.self.inside.by_name.entries c.args.place c.index_mut.result.now (record c.index_mut.result.now { next = c.args.next }) c.self.invariant c.index_mut.ensures.value refl

pub returns : goal.returns
returns g c =
    seen_changed c.self.inside.by_name.entries c.args.place c.index_mut.result.now (record c.index_mut.result.now { next = c.args.next }) (λ h. record h { next = c.args.next }) c.index_mut.ensures.value refl ∙ ap (λ list. changed_at list c.args.place (λ h. record h { next = c.args.next })) c.self.view_is
