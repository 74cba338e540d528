use Rattle.std.proofs.Common.{pos, sym, ◌∙◌, rules, tests}
use Rattle.std.proofs.lemmas.Iterator.{YieldsList-from_slice}
use Rattle.std.proofs.lemmas.Iterator.Search.{position_from_yields_List}
use Rattle.ak_value.specs.Choice.{has_id}
use Rattle.ak_value.specs.Seen.{element_of}
use Rattle.ak_base.proofs.Surface.{position-map}
use Rattle.ak_value.proofs.choice.place_of_id.Goals as goal

pub returns : goal.returns
returns c =
    position_from_yields_List (λ e. has_id (pos c.args.id) (element_of e)) _ _ _ c.position.ensures.ran (YieldsList-from_slice c.args.list.now cc) (λ x b q k. search (rules, tests))
    ∙ sym (position-map element_of (has_id (pos c.args.id)) c.args.list.now)
