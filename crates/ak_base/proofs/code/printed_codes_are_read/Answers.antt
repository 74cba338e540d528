use Rattle.ak_base.proofs.Codes.{printed_codes_are_read}
use Rattle.ak_base.proofs.code.printed_codes_are_read.Goals as goal

pub returns : goal.returns
returns c = printed_codes_are_read
