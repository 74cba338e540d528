-- The message is whole and not too long, so what is written of it is read.
use Rattle.std.proofs.Common.{◌<◌, ◌≤◌, length, arith}
use Rattle.ak_flatten.specs.Spelling.{spelling}
use Rattle.ak_flatten.proofs.Items.{item_of_message, message_is}
use Rattle.ak_flatten.proofs.item.Item.new.Goals as goal

pub invariant_of-result : goal.invariant_of-result
invariant_of-result c =
    let not_over : 4096 < length (spelling c.args.message.now) → ⊥ = λ over. let refused = c.in_ok-flat.ensures.too_long.1 over in cc in
    let limit : length (spelling c.args.message.now) ≤ 4096 = omega arith in
    item_of_message _ c.args.message.now c.what-code.ensures.is_whole limit c.in_ok-flat.ensures.ok (omega arith)

pub returns-clause-message : goal.returns-clause-message
returns-clause-message c =
    let not_over : 4096 < length (spelling c.args.message.now) → ⊥ = λ over. let refused = c.in_ok-flat.ensures.too_long.1 over in cc in
    let limit : length (spelling c.args.message.now) ≤ 4096 = omega arith in
    message_is c.in_ok-flat.flat c.popped-popped.result c.args.message.now c.what-code.ensures.is_whole limit c.in_ok-flat.ensures.ok c.popped-popped.ensures.value
