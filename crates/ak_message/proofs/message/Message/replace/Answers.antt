-- The fields are those of a replacement without fault, so the message is whole, and its depth is counted anew.
use Rattle.std.proofs.Common.{◌≡◌, None, arith}
use Rattle.std.proofs.lemmas.Grind.{common_steps}
use Rattle.ak_message.specs.Fields.{replace_fault}
use Rattle.ak_message.specs.Inside.{message_in}
use Rattle.ak_message.specs.Seen.{value_of, fields_of}
use Rattle.ak_message.proofs.Remaining.{shallow_replaced, whole_replaced}
use Rattle.ak_message.proofs.message.Message.replace.Goals as goal

pub overflow_add-self : goal.overflow_add-self
overflow_add-self c =
    let none : replace_fault (fields_of c.self.inside.fields.items) c.args.name.now c.args.index (value_of c.args.value) ≡ None = grind (arith, common_steps) in
    let shallow = shallow_replaced c.args.name.now c.args.index _ (message_in c.self.inside) c.self.invariant.whole c.shows_that_it_fits.ensures none in
    grind (arith, common_steps)

pub invariant_of-self : goal.invariant_of-self
invariant_of-self c =
    let none : replace_fault (fields_of c.self.inside.fields.items) c.args.name.now c.args.index (value_of c.args.value) ≡ None = grind (arith, common_steps) in
    record {
      whole = rw c.put_at.ensures (whole_replaced c.args.name.now c.args.index _ (message_in c.self.inside) c.self.invariant.whole c.shows_that_it_fits.ensures none);
      depth = grind (arith, common_steps);
    }
