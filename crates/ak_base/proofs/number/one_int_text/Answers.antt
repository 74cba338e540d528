use Rattle.ak_base.proofs.Numbers.{one_int_text}
use Rattle.ak_base.proofs.number.one_int_text.Goals as goal

pub returns : goal.returns
returns c = one_int_text
