-- None is removed, then one more, then all of the part.
use Rattle.std.proofs.Common.{◌≡◌, List, sym, ap, ◌∙◌, arith}
use Rattle.std.specs.List.{remove}
use Rattle.ak_value.specs.declared.elements.Element.{Element}
use Rattle.ak_value.specs.Seen.{elements_of_list}
use Rattle.ak_value.proofs.Parts.{without, without_none, without_more, removed}
use Rattle.ak_value.proofs.access.remove_from.Goals as goal

pub loop-init : goal.loop-init
loop-init c = sym (without_none c.args.part.from c.args.list.now.items)

pub loop-preserved : goal.loop-preserved
loop-preserved c =
    c.remove-element.ensures.items
    ∙ ap (λ (l : List Element). remove l c.args.part.from) c.loop.invariant
    ∙ without_more c.args.part.from c.loop.counter c.args.list.now.items (omega arith)

pub returns : goal.returns
returns c =
    let all : c.loop.counter ≡ c.args.part.count = omega arith in
    ap elements_of_list (c.loop.invariant ∙ ap (λ n. without c.args.part.from n c.args.list.now.items) all)
    ∙ removed c.args.list.now.items c.args.part.from c.args.part.count
