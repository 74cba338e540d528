-- `work` is a name that may be looked up.
use Rattle.std.proofs.Common.{ℕ, List, IsTrue, refl, sym, subst}
use Rattle.std.specs.Prelude.{codes}
use Rattle.std.specs.Fmt.{digits}
use Rattle.ak_base.specs.declared.app_word.AppWord.TheVariants as app
use Rattle.ak_input.specs.Payload.{int_within}
use Rattle.ak_input.specs.Written.{is_looked_up}
use Rattle.ak_script.proofs.generating.messages.hey.Goals as goal

work_is : IsTrue (is_looked_up (app.Name (codes "work")))
unfolding int_within digits
work_is = refl

pub invariant_of-result : goal.invariant_of-result
invariant_of-result c =
    record { form = subst (λ (name : List ℕ). IsTrue (is_looked_up (app.Name name))) (sym c.in_ok-from_word.ensures) work_is; fits = c.requires }
