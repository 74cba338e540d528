-- The fields are those of a removal, so the message is whole, and its depth and what is popped are counted anew.
use Rattle.std.proofs.Common.{◌≡◌, arith}
use Rattle.std.proofs.lemmas.Grind.{common_steps}
use Rattle.ak_message.specs.Fields.{removed_name}
use Rattle.ak_message.specs.Inside.{message_in}
use Rattle.ak_message.specs.Seen.{fields_of}
use Rattle.ak_message.proofs.Changing.{removed_at}
use Rattle.ak_message.proofs.Remaining.{shallow_without_name, whole_without_name}
use Rattle.ak_message.proofs.message.Message.remove_name.Goals as goal

pub overflow_add-self : goal.overflow_add-self
overflow_add-self c =
    let after : fields_of c.remove-field.new.self.items ≡ removed_name (fields_of c.self.inside.fields.items) c.args.name.now = grind (arith, removed_at) in
    let shallow = shallow_without_name (message_in c.self.inside) c.args.name.now c.self.invariant.whole in
    grind (arith, common_steps)

pub invariant_of-self : goal.invariant_of-self
invariant_of-self c =
    let after : fields_of c.remove-field.new.self.items ≡ removed_name (fields_of c.self.inside.fields.items) c.args.name.now = grind (arith, removed_at) in
    record {
      whole = rw (c.at_most-self-inside.ensures, c.specifiers_among.ensures, c.deref-3.ensures.value, after) (whole_without_name (message_in c.self.inside) c.args.name.now c.self.invariant.whole);
      depth = grind (arith, common_steps);
    }
