-- One row less, and the others stand under their names.
use Rattle.std.proofs.Common.{◌∙◌, sym, ap, subst, remove}
use Rattle.std.specs.List.{slice_get}
use Rattle.std.specs.Map.{values_of}
use Rattle.std.specs.String.{string_bytes}
use Rattle.ak_handler.specs.Rows.{list_seen}
use Rattle.ak_handler.proofs.Named.{Named, named_removed, seen_at, seen_removed}
use Rattle.ak_handler.proofs.rows.Rows.remove.Goals as goal

pub invariant_of-self : goal.invariant_of-self
invariant_of-self g c =
    subst (Named string_bytes) (sym c.shift_remove_index.ensures.entries) (named_removed string_bytes c.self.inside.by_name.entries c.args.place c.self.invariant)

pub returns-clause-row : goal.returns-clause-row
returns-clause-row g c =
    sym (ap (λ list. slice_get list c.args.place) c.self.view_is) ∙ seen_at c.self.inside.by_name.entries c.args.place c.unwrap-name.result (sym c.shift_remove_index.ensures.entry ∙ c.unwrap-name.ensures)

pub returns-clause-others : goal.returns-clause-others
returns-clause-others g c =
    ap (λ es. list_seen (values_of es)) c.shift_remove_index.ensures.entries ∙ seen_removed c.self.inside.by_name.entries c.args.place ∙ ap (λ list. remove list c.args.place) c.self.view_is
