use Rattle.std.proofs.Common.{◌≡◌, ℕ, ◌≤◌, length, arith, ◌∙◌, sym, ap, refl}
use Rattle.std.specs.Fmt.{decimal}
use Rattle.std.proofs.lemmas.Option.{IfSome_then}
use Rattle.ak_base.proofs.Digits.{form_of, decimal_from_digits}
use Rattle.ak_base.proofs.Numbers.{IfNone_then}
use Rattle.ak_base.proofs.number.read_digits.Goals as goal
use Rattle.ak_base.proofs.number.read_digits.Goals.{then-is_empty-via-then-is_empty, then-is_empty-via-else-is_empty+then-b-gt-DIGITS_LIMIT, then-is_empty-via-else-is_empty+else-b-gt-DIGITS_LIMIT+then-has_leading_zero}

pub returns-then-is_empty-clause-none : goal.returns-then-is_empty-clause-none
returns-then-is_empty-clause-none c = λ n e short.
    let f = form_of c.args.b.now n e short in
    elim c.then-is_empty.branch [
      | then-is_empty-via-then-is_empty w ↦ grind (arith, f.some)
      | then-is_empty-via-else-is_empty+then-b-gt-DIGITS_LIMIT w ↦ omega arith
      | then-is_empty-via-else-is_empty+else-b-gt-DIGITS_LIMIT+then-has_leading_zero w ↦
          let z = w.if-has_leading_zero.ensures.0 refl in omega (arith, z, f.lead z.1)
    ]

pub returns-clause-found : goal.returns-clause-found
returns-clause-found c =
    IfSome_then _ {Q = λ n. (c.args.b.now ≡ decimal n) × (length c.args.b.now ≤ 20)} c.value_of_digits.ensures.found
    (λ n p. (decimal_from_digits c.args.b.now p.0 (grind arith) (omega arith) (λ e. grind arith) ∙ ap decimal (sym p.1), omega arith))

pub returns-clause-none : goal.returns-clause-none
returns-clause-none c = IfNone_then _ _ ((n : ℕ) → c.args.b.now ≡ decimal n → length c.args.b.now ≤ 20 → ⊥) c.value_of_digits.ensures.none (λ none n e short. none (form_of c.args.b.now n e short).digits)
