-- Sums of numbers of one kind.
use Rattle.std.proofs.Common.{◌≡◌, ℤ, ◌+ℤ◌, true, Option, refl, sym, ap, ◌∙◌, arith, tests}
use Rattle.ak_message.specs.declared.kind.Kind.{Kind}
use Rattle.ak_message.specs.Kind.{is_same_kind}
use Rattle.ak_action.specs.declared.number.Number.{Number}
use Rattle.ak_action.specs.Number.{number_kind, number_in, int_of, sum_of}

same_kind-refl : (kind : Kind) → is_same_kind kind kind ≡ true
same_kind-refl kind = grind (arith, tests)

sum_of-one_kind : (a b : Number) → number_kind a ≡ number_kind b → sum_of a b ≡ number_in (number_kind a) (int_of a +ℤ int_of b)
sum_of-one_kind a b same = rw (← same, same_kind-refl (number_kind a)) refl

pub is_sum : (a b : Number) (kind : Kind) (int : ℤ) (outcome : Option Number) → number_kind a ≡ number_kind b → kind ≡ number_kind a → int ≡ int_of a +ℤ int_of b → outcome ≡ number_in kind int → outcome ≡ sum_of a b
is_sum a b kind int outcome same its_kind its_sum e =
    e ∙ ap (λ k. number_in k int) its_kind ∙ ap (λ z. number_in (number_kind a) z) its_sum ∙ sym (sum_of-one_kind a b same)
