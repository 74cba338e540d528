-- The closure gives a row's token.
use Rattle.std.proofs.Common.{◌∙◌, rules}
use Rattle.std.proofs.lemmas.List.Sorted.{answers_always}
use Rattle.ak_handler.proofs.Halving.{place-halved}
use Rattle.ak_handler.proofs.rows.place_by_halves.Goals as goal

pub returns : goal.returns
returns g c =
    let facts = c.binary_search_by_key.ensures in
    let by_token = facts.position (λ row. row.token) (answers_always _ _ _ (λ f a r g called. search rules)) in
    c.ok.ensures.value ∙ place-halved c.args.rows.now c.args.token c.binary_search_by_key.result c.requires facts.bound by_token
