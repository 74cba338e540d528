-- The fields are those of an addition without fault, so the message is one, and its depth is the greater of the two.
use Rattle.std.proofs.Common.{◌≡◌, None, arith}
use Rattle.std.proofs.lemmas.Grind.{common_steps}
use Rattle.ak_message.specs.Fields.{add_fault}
use Rattle.ak_message.specs.Inside.{message_in}
use Rattle.ak_message.specs.Seen.{value_of, fields_of}
use Rattle.ak_message.proofs.Keeping.{whole_after, depth-added}
use Rattle.ak_message.proofs.message.Message.add.Goals as goal

pub invariant_of-self-2 : goal.invariant_of-self-2
invariant_of-self-2 c =
    let old = fields_of c.self.inside.fields.items in
    let none : add_fault old c.args.name.now (value_of c.args.value) ≡ None = grind (arith, common_steps) in
    record {
      whole = rw c.in_ok-put.ensures.ok (whole_after (message_in c.self.inside) c.args.name.now _ c.self.invariant.whole c.shows_that_it_fits.ensures none);
      depth = rw c.in_ok-put.ensures.ok (grind (arith, depth-added old c.args.name.now (value_of c.args.value), c.self.invariant.depth));
    }
