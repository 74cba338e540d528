use Rattle.std.proofs.Common.{arith}
use Rattle.ak_base.proofs.Codes.{hex_found}
use Rattle.ak_base.proofs.code.read_hex.Goals as goal

pub returns-clause-found : goal.returns-clause-found
returns-clause-found c =
    hex_found c.args.word.now c.in_ok-first.first c.in_ok-second.second c.in_ok-third.third c.in_ok-fourth.fourth _ c.requires c.if-word-ne48.false c.if-word-ne120.false
    c.in_ok-first.ensures.found c.in_ok-second.ensures.found c.in_ok-third.ensures.found c.in_ok-fourth.ensures.found
    (omega arith) (omega arith) (omega arith) (omega arith) c.from_be_bytes.ensures
