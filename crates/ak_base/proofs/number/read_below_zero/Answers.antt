use Rattle.std.proofs.Common.{ℤ, ◌∷◌}
use Rattle.std.proofs.lemmas.Option.{IfSome_then}
use Rattle.ak_base.specs.Number.{IsIntText}
use Rattle.ak_base.proofs.Numbers.{minus_text, no_minus_zero, text_below_zero, IfNone_then}
use Rattle.ak_base.proofs.number.read_below_zero.Goals as goal

pub returns-in_default-clause-none : goal.returns-in_default-clause-none
returns-in_default-clause-none c = λ z t. let m = minus_text c.args.digits.now z t in c.in_default.ensures.none m.0 m.2 m.3

pub returns-clause-found : goal.returns-clause-found
returns-clause-found c =
    let h = c.in-Some.ensures.found in
    IfSome_then _ {Q = λ z. IsIntText (45 ∷ c.args.digits.now) z} c.below_zero.ensures.found (λ z p. rw p.1 (text_below_zero c.args.digits.now c.in-Some.n h.0 h.1 p.0))

pub returns-clause-none : goal.returns-clause-none
returns-clause-none c =
    let h = c.in-Some.ensures.found in
    IfNone_then _ _ ((z : ℤ) → IsIntText (45 ∷ c.args.digits.now) z → ⊥) c.below_zero.ensures.none (λ e z. no_minus_zero c.args.digits.now c.in-Some.n z h.0 h.1 e)
