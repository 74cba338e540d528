-- The row under the name is the first handler of that name.
use Rattle.std.proofs.Common.{◌∙◌, ap, option_map}
use Rattle.std.specs.String.{string_bytes}
use Rattle.ak_handler.specs.Handlers.{token_named}
use Rattle.ak_handler.proofs.Named.{name_found}
use Rattle.ak_handler.proofs.rows.Rows.token_named.Goals as goal

pub returns-in_err-get : goal.returns-in_err-get
returns-in_err-get g c =
    c.from_residual.ensures ∙ ap (option_map (λ row. row.token)) c.in_err-get.ensures.value ∙ name_found string_bytes c.self.inside.by_name.entries c.as_str.result.now c.self.invariant ∙ (λ i. token_named (c.self.view_is i) (c.as_str.ensures.value i))

pub returns : goal.returns
returns g c =
    ap (option_map (λ row. row.token)) c.in_ok-get.ensures.value ∙ name_found string_bytes c.self.inside.by_name.entries c.as_str.result.now c.self.invariant ∙ (λ i. token_named (c.self.view_is i) (c.as_str.ensures.value i))
