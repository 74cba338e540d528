-- The next one is the first of those that are left.
use Rattle.std.proofs.Common.{◌≡◌, [], ◌∷◌, ◌++◌, arith}
use Rattle.std.proofs.lemmas.Grind.{common_steps}
use Rattle.ak_describe.specs.Described.{IsWhole, plan_parts}
use Rattle.ak_describe.specs.Seen.{looper_data}
use Rattle.ak_describe.proofs.ground.Lists.{one_more, first_of_all, rest_of_all}
use Rattle.ak_describe.proofs.described.plans.Goals as goal

pub plan-requires : goal.plan-requires
plan-requires c =
    let next : c.loop-looper.looper-iterator.rest.items ≡ c.in-Some.looper ∷ c.next.new.self.rest.items = grind (arith, common_steps) in
    first_of_all IsWhole looper_data c.loop-looper.looper-iterator.rest.items c.next.new.self.rest.items c.in-Some.looper next c.loop-looper.invariant.whole

pub loop-looper-preserved : goal.loop-looper-preserved
loop-looper-preserved c =
    let next : c.loop-looper.looper-iterator.rest.items ≡ c.in-Some.looper ∷ c.next.new.self.rest.items = grind (arith, common_steps) in
    let pushed : c.push.new.self.items ≡ c.loop-looper.plans.items ++ c.in_ok-plan.field-0 ∷ [] = grind (arith, common_steps) in
    record {
      made = one_more looper_data plan_parts c.loop-looper.plans.items c.push.new.self.items c.loop-looper.looper-iterator.rest.items c.next.new.self.rest.items c.in-Some.looper c.in_ok-plan.field-0 _ next pushed c.in_ok-plan.ensures c.loop-looper.invariant.made;
      whole = rest_of_all IsWhole looper_data c.loop-looper.looper-iterator.rest.items c.next.new.self.rest.items c.in-Some.looper next c.loop-looper.invariant.whole;
    }
