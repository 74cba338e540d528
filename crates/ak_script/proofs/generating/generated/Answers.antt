-- The application is whole, and the lines are few.
use Rattle.std.proofs.Common.{◌≡◌, ◌≤◌, List, [], ◌∷◌, sym, subst, arith}
use Rattle.std.proofs.lemmas.Grind.{common_steps}
use Rattle.ak_describe.specs.Whole.{AreWholeApps}
use Rattle.ak_script.specs.Generated.{app}
use Rattle.ak_script.specs.Limits.{statement_limit}
use Rattle.ak_script.specs.Statement.{StatementData, lines_in}
use Rattle.ak_script.proofs.GeneratedApp.{whole}
use Rattle.ak_script.proofs.GeneratedCounts.{few_lines}
use Rattle.ak_script.proofs.generating.generated.Goals as goal

pub invariant_of-result-clause-whole : goal.invariant_of-result-clause-whole
invariant_of-result-clause-whole c =
    let pushed : c.push.new.self.items ≡ app ∷ [] = grind (arith, common_steps) in
    ∣ subst AreWholeApps (sym pushed) whole ∣₁

pub invariant_of-result-clause-few : goal.invariant_of-result-clause-few
invariant_of-result-clause-few c =
    subst (λ (statements : List StatementData). lines_in statements ≤ statement_limit) (sym c.in_ok-statements.ensures) (few_lines c.args.n c.requires.limit)

pub returns-clause-whole : goal.returns-clause-whole
returns-clause-whole c =
    let pushed : c.push.new.self.items ≡ app ∷ [] = grind (arith, common_steps) in
    subst AreWholeApps (sym pushed) whole
