-- The row goes last, under its name.
use Rattle.std.proofs.Common.{◌≡◌, ◌∙◌, ◌++◌, [], ◌∷◌, None, sym, ap, subst}
use Rattle.std.specs.Map.{values_of}
use Rattle.std.specs.String.{string_bytes}
use Rattle.ak_handler.specs.Handlers.{token_named}
use Rattle.ak_handler.specs.Rows.{handler_seen, list_seen}
use Rattle.ak_handler.proofs.Named.{Named, inserted, named_pushed, seen_pushed}
use Rattle.ak_handler.proofs.rows.Rows.push.Goals as goal

pub invariant_of-self-2 : goal.invariant_of-self-2
invariant_of-self-2 g c =
    let named = c.in_ok-name.ensures.ok ∙ c.as_str.ensures.value in
    let free = subst (λ list. token_named list c.args.row.name ≡ None) (sym c.self.view_is) c.requires in
    let entries = c.in_ok-insert.ensures.entries ∙ inserted c.self.inside.by_name c.in_ok-name.name c.args.row c.self.invariant named free in
    subst (Named string_bytes) (sym entries) (named_pushed string_bytes c.self.inside.by_name.entries c.in_ok-name.name c.args.row c.self.invariant named)

pub returns-clause-ok : goal.returns-clause-ok
returns-clause-ok g c =
    let named = c.in_ok-name.ensures.ok ∙ c.as_str.ensures.value in
    let free = subst (λ list. token_named list c.args.row.name ≡ None) (sym c.self.view_is) c.requires in
    let entries = c.in_ok-insert.ensures.entries ∙ inserted c.self.inside.by_name c.in_ok-name.name c.args.row c.self.invariant named free in
    ap (λ es. list_seen (values_of es)) entries ∙ seen_pushed c.self.inside.by_name.entries c.in_ok-name.name c.args.row ∙ ap (λ list. list ++ handler_seen c.args.row ∷ []) c.self.view_is
