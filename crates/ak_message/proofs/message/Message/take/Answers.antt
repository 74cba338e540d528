-- The fields are those of a removal, so the message is whole, and its depth and what is popped are counted anew.
use Rattle.std.proofs.Common.{arith}
use Rattle.std.proofs.lemmas.Grind.{common_steps}
use Rattle.ak_message.specs.Inside.{message_in}
use Rattle.ak_message.proofs.Remaining.{shallow_without_data, whole_without_data}
use Rattle.ak_message.proofs.message.Message.take.Goals as goal

pub overflow_add-self : goal.overflow_add-self
overflow_add-self c =
    let shallow = shallow_without_data (message_in c.self.inside) c.args.name.now c.args.index c.self.invariant.whole in
    grind (arith, common_steps)

pub invariant_of-self-2 : goal.invariant_of-self-2
invariant_of-self-2 c =
    record {
      whole = rw (c.at_most-self-inside.ensures, c.specifiers_among.ensures, c.deref-2.ensures.value, c.in_ok-value.ensures.some) (whole_without_data (message_in c.self.inside) c.args.name.now c.args.index c.self.invariant.whole);
      depth = grind (arith, common_steps);
    }
