-- There are at most 255 specifiers.
use Rattle.std.proofs.Common.{arith}
use Rattle.std.proofs.lemmas.Grind.{common_steps}
use Rattle.ak_message.proofs.Specifiers.{specifier_count-small}
use Rattle.ak_message.proofs.message.Message.specifiers.Goals as goal

pub overflow_cast-result : goal.overflow_cast-result
overflow_cast-result c =
    let small = specifier_count-small _ c.self.invariant.whole.0.every_field in
    grind (arith, common_steps)
