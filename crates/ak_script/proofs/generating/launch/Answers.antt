-- `/gen/work` is a path.
use Rattle.std.proofs.Common.{ℕ, List, IsTrue, refl, sym, subst}
use Rattle.ak_base.specs.AppName.{is_path}
use Rattle.ak_script.proofs.generating.launch.Goals as goal

pub invariant_of-result : goal.invariant_of-result
invariant_of-result c =
    record { word_is = tt; form = subst (λ (word : List ℕ). IsTrue (is_path word)) (sym c.in_ok-from_word.ensures) refl; fits = tt }
