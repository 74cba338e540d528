use Rattle.ak_base.proofs.Codes.{one_code_text}
use Rattle.ak_base.proofs.code.one_code_text.Goals as goal

pub returns : goal.returns
returns c = one_code_text
