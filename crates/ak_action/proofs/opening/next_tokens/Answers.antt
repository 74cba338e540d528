-- One more next handler.
use Rattle.std.proofs.Common.{◌∙◌, ◌∷◌, [], ◌++◌, sym, ap}
use Rattle.ak_action.specs.OpeningInside.{nexts_from}
use Rattle.ak_action.proofs.Opened.{first_more}
use Rattle.ak_action.proofs.opening.next_tokens.Goals as goal

pub loop-place-preserved : goal.loop-place-preserved
loop-place-preserved c =
    c.in_ok-push.ensures.items
    ∙ ap (λ nexts. nexts ++ c.next_token.result ∷ []) c.loop-place.invariant
    ∙ ap (λ next. nexts_from c.args.rows.now 0 c.loop-place.place ++ next ∷ []) c.next_token.ensures
    ∙ sym (first_more c.args.rows.now c.loop-place.place)
