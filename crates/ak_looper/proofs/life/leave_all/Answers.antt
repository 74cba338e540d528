-- One item more, and at the end all of them.
use Rattle.std.proofs.Common.{◌≡◌, List, [], ◌∷◌, sym, ap, subst, arith}
use Rattle.std.proofs.lemmas.Grind.{common_steps}
use Rattle.ak_flatten.specs.declared.item.Duty.{Duty}
use Rattle.ak_flatten.specs.declared.item.Taken.{Taken}
use Rattle.ak_diary.specs.Turns.{LeavesOne}
use Rattle.ak_looper.specs.Stands.{GoesOn}
use Rattle.ak_looper.proofs.Going.{keeps_all, keeps_on}
use Rattle.ak_looper.proofs.Leaving.{GoesLeaving, begins_leaving, goes_on_leaving, has_left}
use Rattle.ak_looper.proofs.life.leave_all.Goals as goal

pub loop-taken-init : goal.loop-taken-init
loop-taken-init g c =
    let all : c.args.left.items ≡ c.into_iter-taken-iterator.result.rest.items = ap (λ d. d.items) (sym c.into_iter-taken-iterator.ensures.into_iter_gives.0) in
    record {
      goes = subst (λ (rest : List Taken). GoesLeaving c.args.left.items rest c.args.reach.now c.args.reach.now) all (begins_leaving c.args.left.items c.args.reach.now);
      keeps = keeps_all c.args.reach.now;
    }

pub loop-taken-preserved : goal.loop-taken-preserved
loop-taken-preserved g c =
    let so_far = c.loop-taken.invariant in
    let r = c.args.reach.now in
    let next : c.loop-taken.taken-iterator.rest.items ≡ c.in-Some.taken ∷ c.next.new.self.rest.items = grind (arith, common_steps) in
    let before = subst (λ (rest : List Taken). GoesLeaving c.args.left.items rest r c.loop-taken.reach) next so_far.goes in
    record {
      goes =
          goes_on_leaving c.args.left.items c.next.new.self.rest.items c.in-Some.taken r c.loop-taken.reach c.leave_one.new.reach before
          (λ l start from stands. subst (λ (owed : Duty). GoesOn l start from (LeavesOne owed) c.leave_one.new.reach) c.duty.ensures (c.leave_one.ensures.goes l start from stands));
      keeps = keeps_on r c.loop-taken.reach c.leave_one.new.reach so_far.keeps c.leave_one.ensures.keeps;
    }

pub returns : goal.returns
returns g c =
    let so_far = c.loop-taken.invariant in
    let r = c.args.reach.now in
    let none : c.loop-taken.taken-iterator.rest.items ≡ [] = grind (arith, common_steps) in
    record {
      goes = has_left c.args.left.items r c.loop-taken.reach (subst (λ (rest : List Taken). GoesLeaving c.args.left.items rest r c.loop-taken.reach) none so_far.goes);
      keeps = so_far.keeps;
    }
