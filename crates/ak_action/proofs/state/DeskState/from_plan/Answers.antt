-- The handlers are made as the plan describes them.
use Rattle.std.proofs.Common.{◌∙◌, refl, sym, ap, subst, length}
use Rattle.ak_action.specs.Opening.{opening_handlers}
use Rattle.ak_action.specs.OpeningInside.{described_with, nexts_from}
use Rattle.ak_action.specs.Plan.{IsPlan}
use Rattle.ak_action.proofs.Opened.{AreMade, made_handlers, made_open}
use Rattle.ak_action.proofs.state.DeskState.from_plan.Goals as goal

pub from_rows-requires : goal.from_rows-requires
from_rows-requires c =
    let parts = c.into_parts-parts.result in
    let nexts = c.in_ok-nexts.nexts.items in
    let made : AreMade parts nexts c.in_ok-rows.rows.items c.preferred_token-preferred.result =
    record {
      nexts_are = c.in_ok-nexts.ensures ∙ ap (λ rows. nexts_from rows 0 (length rows)) c.as_slice.ensures;
      rows_are = c.in_ok-rows.ensures ∙ ap (λ rows. described_with rows nexts) c.into_vec.ensures;
      preferred_is = c.preferred_token-preferred.ensures;
    } in
    let is_plan = subst IsPlan (sym c.into_parts-parts.ensures.value) c.into_parts-parts.ensures.is_plan in
    made_handlers parts nexts c.in_ok-rows.rows.items c.preferred_token-preferred.result is_plan made

pub returns : goal.returns
returns c =
    let parts = c.into_parts-parts.result in
    let nexts = c.in_ok-nexts.nexts.items in
    let made : AreMade parts nexts c.in_ok-rows.rows.items c.preferred_token-preferred.result =
    record {
      nexts_are = c.in_ok-nexts.ensures ∙ ap (λ rows. nexts_from rows 0 (length rows)) c.as_slice.ensures;
      rows_are = c.in_ok-rows.ensures ∙ ap (λ rows. described_with rows nexts) c.into_vec.ensures;
      preferred_is = c.preferred_token-preferred.ensures;
    } in
    let same = c.into_parts-parts.ensures.value in
    record {
      looper_is = refl;
      team_is = refl;
      first_is = refl;
      names_are = c.names.view_is;
      quit_is = ap (λ p. p.quit_refused) same;
      handlers_are =
          c.in_ok-from_rows.ensures ∙ made_open parts nexts c.in_ok-rows.rows.items c.preferred_token-preferred.result made ∙ ap opening_handlers same;
      common_is = ap (λ p. p.common) same;
    }
