-- The value is of their kind, and there is room.
use Rattle.std.proofs.Common.{◌≡◌, ◌<◌, length, arith}
use Rattle.std.proofs.lemmas.Grind.{common_steps}
use Rattle.ak_message.specs.Message.{kind_of, depth_of_value}
use Rattle.ak_message.specs.Seen.{value_of}
use Rattle.ak_action.proofs.Holding.{pushed}
use Rattle.ak_action.proofs.values.Values.push.Goals as goal

pub invariant_of-self-2 : goal.invariant_of-self-2
invariant_of-self-2 c =
    let same : kind_of (value_of c.args.value) ≡ c.self.inside.kind = grind (arith, common_steps) in
    let shallow : depth_of_value (value_of c.args.value) < 16 = grind (arith, common_steps) in
    let room : length c.self.inside.list.items < 255 = grind (arith, common_steps) in
    pushed _ _ _ _ c.in_ok-push.ensures.items same shallow room c.self.invariant
