-- The next one is the first of those that are left.
use Rattle.std.proofs.Common.{◌≡◌, [], ◌∷◌, ◌++◌, arith}
use Rattle.std.proofs.lemmas.Grind.{common_steps}
use Rattle.ak_describe.specs.Described.{HasRoom, plan_row}
use Rattle.ak_describe.specs.Seen.{row_data}
use Rattle.ak_describe.proofs.ground.Lists.{one_more, first_of_all, rest_of_all}
use Rattle.ak_describe.proofs.described.plan_rows.Goals as goal

pub plan_row-requires : goal.plan_row-requires
plan_row-requires c =
    let next : c.loop-row.row-iterator.rest.items ≡ c.in-Some.row ∷ c.next.new.self.rest.items = grind (arith, common_steps) in
    first_of_all HasRoom row_data c.loop-row.row-iterator.rest.items c.next.new.self.rest.items c.in-Some.row next c.loop-row.invariant.whole

pub loop-row-preserved : goal.loop-row-preserved
loop-row-preserved c =
    let next : c.loop-row.row-iterator.rest.items ≡ c.in-Some.row ∷ c.next.new.self.rest.items = grind (arith, common_steps) in
    let pushed : c.push.new.self.items ≡ c.loop-row.plans.items ++ c.in_ok-plan_row.field-0 ∷ [] = grind (arith, common_steps) in
    record {
      made = one_more row_data plan_row c.loop-row.plans.items c.push.new.self.items c.loop-row.row-iterator.rest.items c.next.new.self.rest.items c.in-Some.row c.in_ok-plan_row.field-0 _ next pushed c.in_ok-plan_row.ensures c.loop-row.invariant.made;
      whole = rest_of_all HasRoom row_data c.loop-row.row-iterator.rest.items c.next.new.self.rest.items c.in-Some.row next c.loop-row.invariant.whole;
    }
