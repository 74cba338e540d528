use Rattle.std.proofs.Common.{arith, sym}
use Rattle.ak_base.proofs.Codes.{quoted_found}
use Rattle.ak_base.proofs.code.read_quoted.Goals as goal

pub returns-clause-found : goal.returns-clause-found
returns-clause-found c =
    quoted_found c.args.word.now _ c.requires c.if-word-ne39.false c.if-word-ne39-2.false (sym c.if-not-may_all_be_quoted.ensures) (λ i. omega (arith, c.type_inv.word i)) c.from_be_bytes.ensures
