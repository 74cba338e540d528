-- All of them are numbered.
use Rattle.std.proofs.Common.{◌≡◌, subst, sym, arith}
use Rattle.std.proofs.lemmas.Grind.{common_steps}
use Rattle.ak_value.specs.Elements.{ElementsData, IsElements, described}
use Rattle.ak_value.specs.Seen.{elements_of_list, pairs_of}
use Rattle.ak_value.proofs.Describing.{described_pairs}
use Rattle.ak_value.proofs.elements.Elements.new.Goals as goal

pub invariant_of-result : goal.invariant_of-result
invariant_of-result c =
    let all : ElementsData = record { kind = c.args.kind; list = elements_of_list c.loop-name.elements.items; next_id = c.loop-name.next_id } in
    let same : all ≡ described c.args.kind (pairs_of c.args.list.items) = grind (arith, common_steps) in
    subst IsElements (sym same) (described_pairs c.args.kind c.args.list.items c.requires.limit c.requires.same_kind)
