-- The code of four letters is the kind's that they are.
use Rattle.std.proofs.Common.{ap, ◌∙◌, arith}
use Rattle.ak_message.specs.Kind.{kind_of_code}
use Rattle.ak_input.proofs.Letters.{coded_before}
use Rattle.ak_input.proofs.payload.kind_before.Goals as goal

pub returns-clause-kind : goal.returns-clause-kind
returns-clause-kind c =
    c.from_code.ensures ∙ ap kind_of_code c.from_be_bytes.ensures ∙ coded_before c.args.text.now (omega arith) c.if-text-ne58.false (λ i. omega (arith, c.type_inv.text i))
