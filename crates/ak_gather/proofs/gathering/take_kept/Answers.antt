-- One door is taken in: main's seat at that place is the head.
use Rattle.std.proofs.Common.{◌≡◌, ◌≢◌, ℕ, suc, ◌+◌, List, [], ◌∷◌, length, refl, sym, ap, ◌∙◌, subst, arith}
use Rattle.std.proofs.lemmas.Grind.{common_steps}
use Rattle.ak_looper.specs.declared.kept_door.KeptDoor.{KeptDoor}
use Rattle.ak_gather.specs.Gathering.{AreHeadsIn, AreKeptIn, IsNoHead}
use Rattle.ak_gather.proofs.Taking.{all_at, all_gain_further, all_gain_nothing, beside_taken, head_still, head_there, kept_still, taking_gains}
use Rattle.ak_gather.proofs.gathering.take_kept.Goals as goal

pub loop-door-init : goal.loop-door-init
loop-door-init c =
    let js = c.args.loopers.now.items in
    let same = c.into_iter-door-iterator.ensures.into_iter_gives.0 in
    record {
      gaining = all_gain_nothing js;
      count = omega (arith, ap (λ (l : List KeptDoor). length l) same);
      there = subst (AreKeptIn js 0) (sym same) c.requires.there;
      no_heads = λ place j low there. all_at IsNoHead js place j c.requires.no_heads there;
      heads = λ later gains all. subst (AreHeadsIn later 0) same all;
    }

pub take_at-requires-clause-there : goal.take_at-requires-clause-there
take_at-requires-clause-there c =
    let was = c.loop-door in
    let rest = c.next.new.self.rest.items in
    let x = c.in-Some.door in
    let next : was.door-iterator.rest.items ≡ x ∷ rest = grind (arith, common_steps) in
    (subst (AreKeptIn was.loopers.items was.place) next was.invariant.there).0

pub loop-door-preserved : goal.loop-door-preserved
loop-door-preserved c =
    let was = c.loop-door in
    let rest = c.next.new.self.rest.items in
    let x = c.in-Some.door in
    let next : was.door-iterator.rest.items ≡ x ∷ rest = grind (arith, common_steps) in
    let js = was.loopers.items in
    let js' = c.take_at.new.loopers.items in
    let one : suc was.place ≡ was.place + 1 = omega arith in
    let taken = c.take_at.ensures in
    let gains = taking_gains was.place x.port_seat x.desk_seat js js' taken in
    let none = was.invariant.no_heads was.place taken.before (omega arith) taken.there in
    let head = head_there was.place x.port_seat x.desk_seat js js' taken x refl refl none in
    record {
      gaining = all_gain_further c.args.loopers.now.items js js' was.invariant.gaining gains;
      count = omega (arith, was.invariant.count, ap (λ (l : List KeptDoor). length l) next);
      there = subst (λ (n : ℕ). AreKeptIn js' n rest) one (kept_still js js' (suc was.place) rest gains (subst (AreKeptIn js was.place) next was.invariant.there).1);
      no_heads = λ place j low there.
          let other : place ≢ was.place = λ same. omega (arith, low, same) in
          was.invariant.no_heads place j (omega (arith, low)) (sym (beside_taken was.place x.port_seat x.desk_seat js js' taken place other) ∙ there);
      heads = λ later on all.
          was.invariant.heads later (all_gain_further js js' later gains on)
          (subst (AreHeadsIn later was.place) (sym next) (head_still js' later was.place x on head, subst (λ (n : ℕ). AreHeadsIn later n rest) (sym one) all));
    }

pub returns : goal.returns
returns c =
    let was = c.loop-door in
    let none : was.door-iterator.rest.items ≡ [] = grind (arith, common_steps) in
    record {
      gaining = was.invariant.gaining;
      heads = was.invariant.heads was.loopers.items (all_gain_nothing was.loopers.items) (subst (AreHeadsIn was.loopers.items was.place) (sym none) tt);
    }
