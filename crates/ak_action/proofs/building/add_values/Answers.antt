-- Each value finds room, and comes behind those before it.
use Rattle.ak_action.proofs.Growing.{fits-item, grown-item}
use Rattle.ak_action.proofs.building.add_values.Goals as goal

pub add_value-requires : goal.add_value-requires
add_value-requires c =
    let list = c.as_slice-list in
    fits-item c.args.message.now c.args.name.now c.requires c.args.values.now list.ensures.are_values list.result.now list.ensures.value c.loop-value.message c.loop-value.value-index c.value-item.result c.loop-value.invariant c.loop-value-test.true c.value-item.is

pub loop-value-preserved : goal.loop-value-preserved
loop-value-preserved c =
    let list = c.as_slice-list in
    grown-item c.args.message.now c.args.name.now c.requires c.args.values.now list.ensures.are_values list.result.now list.ensures.value c.loop-value.message c.add_value.new.message c.loop-value.value-index c.value-item.result c.loop-value.invariant c.loop-value-test.true c.value-item.is c.in_ok-add_value.ensures
