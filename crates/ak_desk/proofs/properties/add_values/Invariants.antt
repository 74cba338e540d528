-- What is added so far, and what is left, makes up all of it.
use Rattle.std.proofs.Common.{◌≡◌, map}
use Rattle.ak_message.specs.Seen.{value_of}
use Rattle.ak_desk.specs.Replies.{ResultAlone, with_values}
use Rattle.ak_desk.proofs.properties.add_values.Given as goal

abbrev pub invariant-loop-value : goal.invariant-loop-value
invariant-loop-value l =
    record {
      added : with_values l.reply.fields (map value_of l.value-iterator.rest.items) ≡ with_values l.fn.reply.fields (map value_of l.fn.values.items);
      alone : ResultAlone l.reply.fields;
      others : l.reply ≡ record l.fn.reply { fields = l.reply.fields };
    }
