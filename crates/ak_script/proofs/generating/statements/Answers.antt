-- One question more stands behind the others.
use Rattle.std.proofs.Common.{◌≡◌, ℕ, suc, ◌+◌, List, [], ◌∷◌, ◌++◌, refl, ap, sym, ◌∙◌, arith}
use Rattle.std.proofs.lemmas.Grind.{common_steps}
use Rattle.std.proofs.lemmas.List.{map_push}
use Rattle.ak_script.specs.declared.statement.Hey.{Hey}
use Rattle.ak_script.specs.declared.statement.Statement.{Statement}
use Rattle.ak_script.specs.declared.statement.Statement.TheVariants as says
use Rattle.ak_script.specs.Generated.{block, get_count, launch, up_to}
use Rattle.ak_script.specs.Statement.{HeyData, StatementData, hey_statement, launch_statement, together_statement}
use Rattle.ak_script.specs.StatementSeen.{hey_seen, statement_seen, statements_seen}
use Rattle.ak_script.proofs.generating.statements.Goals as goal

up_to-more : {A : Type 0} (n : ℕ) (f : ℕ → A) → up_to n f ++ f (n + 1) ∷ [] ≡ up_to (n + 1) f
up_to-more {A} n f =
    let next : suc n ≡ n + 1 = omega arith in
    let more : up_to (suc n) f ≡ up_to n f ++ f (suc n) ∷ [] = refl in
    ap (λ (k : ℕ). up_to n f ++ f k ∷ []) (sym next) ∙ sym more ∙ ap (λ (k : ℕ). up_to k f) next

abbrev question : ℕ → StatementData
question place = hey_statement (get_count place)

abbrev asked : ℕ → ℕ → List StatementData
asked n place = launch_statement launch ∷ together_statement (block n) ∷ up_to place question

one_more : (n place : ℕ) (before now : List Statement) (hey : Hey) → now ≡ before ++ says.Hey hey ∷ [] → statements_seen before ≡ asked n place
    → hey_seen hey ≡ get_count (place + 1) → statements_seen now ≡ asked n (place + 1)
one_more n place before now hey pushed so_far is =
    ap statements_seen pushed ∙ map_push statement_seen before (says.Hey hey)
    ∙ ap (λ (seen : List StatementData). seen ++ hey_statement (hey_seen hey) ∷ []) so_far
    ∙ ap (λ (h : HeyData). asked n place ++ hey_statement h ∷ []) is
    ∙ ap (λ (questions : List StatementData). launch_statement launch ∷ together_statement (block n) ∷ questions) (up_to-more place question)

pub loop-place-preserved : goal.loop-place-preserved
loop-place-preserved c =
    let pushed : c.push-in-loop-place.new.self.items ≡ c.loop-place.statements.items ++ says.Hey c.in_ok-get_count.field-0 ∷ [] = grind (arith, common_steps) in
    one_more c.args.n c.loop-place.place c.loop-place.statements.items c.push-in-loop-place.new.self.items c.in_ok-get_count.field-0 pushed c.loop-place.invariant c.in_ok-get_count.ensures
