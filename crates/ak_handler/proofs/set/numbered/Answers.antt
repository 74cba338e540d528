-- The next one is the first of those that are left.
use Rattle.std.proofs.Common.{◌≡◌, ◌≢◌, ◌∙◌, ◌∷◌, AllPairs, length, sym, ap, subst, arith}
use Rattle.std.proofs.lemmas.Grind.{common_steps}
use Rattle.ak_handler.specs.Changes.{numbered_rows}
use Rattle.ak_handler.proofs.Describing.{both, no_such_name, numbered_more}
use Rattle.ak_handler.proofs.set.numbered.Goals as goal

pub push-requires : goal.push-requires
push-requires g c =
    let before = c.loop-name.rows in
    let left = c.next.new.self.rest.items in
    let next : c.loop-name.name-iterator.rest.items ≡ (c.in-Some.name, c.in-Some.next, c.in-Some.content) ∷ left = grind (arith, common_steps) in
    let whole = sym (ap (both before) next) ∙ c.loop-name.invariant in
    no_such_name before _ (numbered_rows _ left) (subst (λ l. AllPairs (λ a b. a.name ≢ b.name) l) (sym whole) c.requires)

pub loop-name-preserved : goal.loop-name-preserved
loop-name-preserved g c =
    let before = c.loop-name.rows in
    let left = c.next.new.self.rest.items in
    let token : c.len-token.result ≡ length before = grind (arith, common_steps) in
    let next : c.loop-name.name-iterator.rest.items ≡ (c.in-Some.name, c.in-Some.next, c.in-Some.content) ∷ left = grind (arith, common_steps) in
    ap (λ rows. both rows left) c.in_ok-push.ensures.ok ∙ numbered_more before _ left token ∙ sym (ap (both before) next) ∙ c.loop-name.invariant
