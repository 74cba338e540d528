-- The bytes spell the message that is read, so its specifiers decide.
use Rattle.std.proofs.Common.{◌<◌, ◌≤◌, subst, arith}
use Rattle.ak_message.specs.Fields.{specifier_count}
use Rattle.ak_flatten.specs.Laws.{Spells}
use Rattle.ak_flatten.proofs.Items.{item_fits, item_of_spelled, item_over}
use Rattle.ak_flatten.proofs.item.Item.from_flat.Goals as goal

pub returns-then-popped-specifiers-clause-fault : goal.returns-then-popped-specifiers-clause-fault
returns-then-popped-specifiers-clause-fault c =
    let message = c.in_ok-message.message in
    let over : specifier_count message.fields < c.args.popped = omega arith in
    item_over c.args.flat c.args.popped message (subst (λ bytes. Spells bytes message) c.as_slice.ensures c.in_ok-message.ensures.spelled) over

pub invariant_of-result : goal.invariant_of-result
invariant_of-result c =
    let message = c.in_ok-message.message in
    let within : c.args.popped ≤ specifier_count message.fields = omega arith in
    item_of_spelled _ message (subst (λ bytes. Spells bytes message) c.as_slice.ensures c.in_ok-message.ensures.spelled) within

pub returns-clause-fits : goal.returns-clause-fits
returns-clause-fits c =
    let message = c.in_ok-message.message in
    let within : c.args.popped ≤ specifier_count message.fields = omega arith in
    item_fits c.args.flat c.args.popped message (subst (λ bytes. Spells bytes message) c.as_slice.ensures c.in_ok-message.ensures.spelled) within
