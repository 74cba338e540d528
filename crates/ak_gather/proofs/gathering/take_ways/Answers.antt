-- One way is taken in.
use Rattle.std.proofs.Common.{◌≡◌, ℕ, [], ◌∷◌, All, sym, subst, arith}
use Rattle.std.proofs.lemmas.Grind.{common_steps}
use Rattle.std.proofs.lemmas.List.Elements.{All-cons, All-head, All-nil, All-tail, All-weaker}
use Rattle.ak_looper.specs.declared.door.Door.{Door}
use Rattle.ak_gather.specs.Gathering.{IsTakenIn, IsWayIn}
use Rattle.ak_gather.proofs.Taking.{all_gain_further, all_gain_nothing, taken_still, taking_gains, took_there, way_still}
use Rattle.ak_gather.proofs.gathering.take_ways.Goals as goal

pub loop-number-init : goal.loop-number-init
loop-number-init c =
    let js = c.args.loopers.now.items in
    let same = c.into_iter-number-iterator.ensures.into_iter_gives.0 in
    record {
      gaining = all_gain_nothing js;
      there = subst (All (IsWayIn js)) (sym same) c.requires.there;
      taken = λ later gains all. subst (All (IsTakenIn later)) same all;
    }

pub take_at-requires-clause-there : goal.take_at-requires-clause-there
take_at-requires-clause-there c =
    let was = c.loop-number in
    let rest = c.next.new.self.rest.items in
    let x : ℕ × Door = (c.in-Some.number, c.in-Some.way) in
    let next : was.number-iterator.rest.items ≡ x ∷ rest = grind (arith, common_steps) in
    All-head (IsWayIn was.loopers.items) x rest (subst (All (IsWayIn was.loopers.items)) next was.invariant.there)

pub loop-number-preserved : goal.loop-number-preserved
loop-number-preserved c =
    let was = c.loop-number in
    let rest = c.next.new.self.rest.items in
    let x : ℕ × Door = (c.in-Some.number, c.in-Some.way) in
    let next : was.number-iterator.rest.items ≡ x ∷ rest = grind (arith, common_steps) in
    let js = was.loopers.items in
    let js' = c.take_at.new.loopers.items in
    let gains = taking_gains x.0 x.1.port_seat x.1.desk_seat js js' c.take_at.ensures in
    let took = took_there x.0 x.1.port_seat x.1.desk_seat js js' c.take_at.ensures in
    record {
      gaining = all_gain_further c.args.loopers.now.items js js' was.invariant.gaining gains;
      there = All-weaker (IsWayIn js) (IsWayIn js') (λ way at. way_still js js' way gains at) rest (All-tail (IsWayIn js) x rest (subst (All (IsWayIn js)) next was.invariant.there));
      taken = λ later on all.
          was.invariant.taken later (all_gain_further js js' later gains on) (subst (All (IsTakenIn later)) (sym next) (All-cons (IsTakenIn later) x rest (taken_still js' later x on took) all));
    }

pub returns : goal.returns
returns c =
    let was = c.loop-number in
    let none : was.number-iterator.rest.items ≡ [] = grind (arith, common_steps) in
    record {
      gaining = was.invariant.gaining;
      taken = was.invariant.taken was.loopers.items (all_gain_nothing was.loopers.items) (subst (All (IsTakenIn was.loopers.items)) (sym none) (All-nil (IsTakenIn was.loopers.items)));
    }
