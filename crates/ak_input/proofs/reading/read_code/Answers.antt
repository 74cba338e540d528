-- A code's text is read as it.
use Rattle.std.proofs.Common.{ℕ, Option, ap, sym, arith}
use Rattle.std.specs.Prelude.{option_map}
use Rattle.ak_input.specs.Written.{coded}
use Rattle.ak_input.proofs.CodeLaws.{code_again, no_code}
use Rattle.ak_input.proofs.reading.read_code.Goals as goal

pub returns-in-Some-clause-number : goal.returns-in-Some-clause-number
returns-in-Some-clause-number c = sym (code_again c.args.word.now _ c.in-Some.ensures.found)

pub returns-in-Some-clause-code : goal.returns-in-Some-clause-code
returns-in-Some-clause-code c = sym (ap (λ (o : Option ℕ). option_map coded o) (code_again c.args.word.now _ c.in-Some.ensures.found))

pub returns-in-None-clause-number : goal.returns-in-None-clause-number
returns-in-None-clause-number c = sym (no_code c.args.word.now (λ i. omega (arith, c.type_inv.word i)) c.in-None.ensures.none)

pub returns-in-None-clause-code : goal.returns-in-None-clause-code
returns-in-None-clause-code c = sym (ap (λ (o : Option ℕ). option_map coded o) (no_code c.args.word.now (λ i. omega (arith, c.type_inv.word i)) c.in-None.ensures.none))

pub returns-in-Some-clause-written : goal.returns-in-Some-clause-written
returns-in-Some-clause-written c = c.in-Some.ensures.found

pub returns-in-None-clause-written : goal.returns-in-None-clause-written
returns-in-None-clause-written c = λ code is. c.in-None.ensures.none code.0 is
