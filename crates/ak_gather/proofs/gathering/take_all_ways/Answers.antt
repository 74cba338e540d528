-- The ways of one looper are taken in.
use Rattle.std.proofs.Common.{◌≡◌, [], ◌∷◌, All, sym, subst, arith}
use Rattle.std.proofs.lemmas.Grind.{common_steps}
use Rattle.std.proofs.lemmas.List.Elements.{All-cons, All-head, All-nil, All-tail, All-weaker}
use Rattle.ak_gather.specs.Gathering.{AreTakenIn, AreWaysIn}
use Rattle.ak_gather.proofs.Taking.{all_gain_further, all_gain_nothing, all_taken_still, all_ways_still}
use Rattle.ak_gather.proofs.gathering.take_all_ways.Goals as goal

pub loop-ways-init : goal.loop-ways-init
loop-ways-init c =
    let js = c.args.loopers.now.items in
    let same = c.into_iter-ways-iterator.ensures.into_iter_gives.0 in
    record {
      gaining = all_gain_nothing js;
      there = subst (All (AreWaysIn js)) (sym same) c.requires.there;
      taken = λ later gains all. subst (All (AreTakenIn later)) same all;
    }

pub take_ways-requires : goal.take_ways-requires
take_ways-requires c =
    let was = c.loop-ways in
    let rest = c.next.new.self.rest.items in
    let x = c.in-Some.ways in
    let next : was.ways-iterator.rest.items ≡ x ∷ rest = grind (arith, common_steps) in
    record { there = All-head (AreWaysIn was.loopers.items) x rest (subst (All (AreWaysIn was.loopers.items)) next was.invariant.there) }

pub loop-ways-preserved : goal.loop-ways-preserved
loop-ways-preserved c =
    let was = c.loop-ways in
    let rest = c.next.new.self.rest.items in
    let x = c.in-Some.ways in
    let next : was.ways-iterator.rest.items ≡ x ∷ rest = grind (arith, common_steps) in
    let js = was.loopers.items in
    let js' = c.take_ways.new.loopers.items in
    let gains = c.take_ways.ensures.gaining in
    record {
      gaining = all_gain_further c.args.loopers.now.items js js' was.invariant.gaining gains;
      there = All-weaker (AreWaysIn js) (AreWaysIn js') (λ ways at. all_ways_still js js' ways.items gains at) rest (All-tail (AreWaysIn js) x rest (subst (All (AreWaysIn js)) next was.invariant.there));
      taken = λ later on all.
          was.invariant.taken later (all_gain_further js js' later gains on) (subst (All (AreTakenIn later)) (sym next) (All-cons (AreTakenIn later) x rest (all_taken_still js' later x.items on c.take_ways.ensures.taken) all));
    }

pub returns : goal.returns
returns c =
    let was = c.loop-ways in
    let none : was.ways-iterator.rest.items ≡ [] = grind (arith, common_steps) in
    record {
      gaining = was.invariant.gaining;
      taken = was.invariant.taken was.loopers.items (all_gain_nothing was.loopers.items) (subst (All (AreTakenIn was.loopers.items)) (sym none) (All-nil (AreTakenIn was.loopers.items)));
    }
