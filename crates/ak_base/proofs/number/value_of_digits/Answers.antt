use Rattle.std.proofs.Common.{arith}
use Rattle.std.proofs.lemmas.Int.Digits.{digits_more}
use Rattle.ak_base.proofs.Digits.{not_all_digits, taken_below, value_more, value_all}
use Rattle.ak_base.proofs.number.value_of_digits.Goals as goal

pub returns-then-not-is_ascii_digit-clause-none : goal.returns-then-not-is_ascii_digit-clause-none
returns-then-not-is_ascii_digit-clause-none c = not_all_digits c.args.b.now c.loop-digit.digit-index (omega arith) c.if-not-is_ascii_digit.ensures.cases

pub overflow_mul-n : goal.overflow_mul-n
overflow_mul-n c =
    let l = c.loop-digit in
    omega (arith, taken_below c.args.b.now l.digit-index l.invariant.digits (omega arith) c.requires)

pub overflow_add-n : goal.overflow_add-n
overflow_add-n c =
    let l = c.loop-digit in
    omega (arith, c.from.ensures, taken_below c.args.b.now l.digit-index l.invariant.digits (omega arith) c.requires)

pub loop-digit-preserved : goal.loop-digit-preserved
loop-digit-preserved c =
    let l = c.loop-digit in
    let b = c.args.b.now in
    record {
      digits = digits_more 10 b l.digit-index (omega arith) l.invariant.digits c.if-not-is_ascii_digit.ensures.bound;
      value = value_more b l.digit-index l.n c.from.result (omega arith) l.invariant.value c.if-not-is_ascii_digit.ensures.bound c.from.ensures;
    }

pub returns-clause-below : goal.returns-clause-below
returns-clause-below c = let l = c.loop-digit in value_all c.args.b.now l.digit-index l.n c.loop-digit-test.false c.requires l.invariant.digits l.invariant.value
