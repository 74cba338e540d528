use Rattle.std.proofs.Common.{arith}
use Rattle.ak_base.proofs.Numbers.{text_nonempty}
use Rattle.ak_base.proofs.number.read_int.Goals as goal

pub returns-in_default-clause-none : goal.returns-in_default-clause-none
returns-in_default-clause-none c = λ z t. omega (arith, text_nonempty c.args.bytes.now z t, c.in_default.ensures.cases)
