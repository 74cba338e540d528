-- One more is joined.
use Rattle.std.proofs.Common.{◌≡◌, List, [], ◌∷◌, ◌++◌, length, refl, ap, ◌∙◌, subst, sym, arith, append_assoc, append-nil}
use Rattle.std.proofs.lemmas.Grind.{common_steps}
use Rattle.std.proofs.lemmas.List.{length-append}
use Rattle.std.specs.declared.thread.PromisedHandle.{PromisedHandle}
use Rattle.ak_lines.specs.declared.job.SessionEnd.{SessionEnd}
use Rattle.ak_block.specs.declared.starting.Carries.{Carries}
use Rattle.ak_block.specs.Threads.{AreEnds, CameOfAll, jobs_of}
use Rattle.ak_block.proofs.starting.join_all.Goals as goal

pub loop-handle-init : goal.loop-handle-init
loop-handle-init g c =
    let same = c.into_iter-handle-iterator.ensures.into_iter_gives.0 in
    record {
      joined = λ more came. record { ends = more; are = subst (λ (l : List (PromisedHandle SessionEnd Carries)). CameOfAll (jobs_of l) more) same came; behind = refl };
      room = omega (arith, ap (λ (l : List (PromisedHandle SessionEnd Carries)). length l) same, c.requires.room);
      capacity = refl;
    }

pub push_reserved-requires : goal.push_reserved-requires
push_reserved-requires g c =
    let was = c.loop-handle in
    let rest = c.next.new.self.rest.items in
    let x = c.in-Some.handle in
    let next : was.handle-iterator.rest.items ≡ x ∷ rest = grind (arith, common_steps) in
    omega (arith, was.invariant.room, ap (λ (l : List (PromisedHandle SessionEnd Carries)). length l) next, was.ends.ok.0)

pub loop-handle-preserved : goal.loop-handle-preserved
loop-handle-preserved g c =
    let was = c.loop-handle in
    let rest = c.next.new.self.rest.items in
    let x = c.in-Some.handle in
    let next : was.handle-iterator.rest.items ≡ x ∷ rest = grind (arith, common_steps) in
    let end = c.join-end.result in
    let pushed = c.push_reserved.ensures in
    record {
      joined = λ more came.
          let all : CameOfAll (jobs_of was.handle-iterator.rest.items) (end ∷ more) = subst (λ (l : List (PromisedHandle SessionEnd Carries)). CameOfAll (jobs_of l) (end ∷ more)) (sym next) (c.join-end.ensures, came) in
          subst (AreEnds (jobs_of c.args.running.items) c.args.ends.now.items) (sym (ap (λ (l : List SessionEnd). l ++ more) pushed.items ∙ append_assoc was.ends.items (end ∷ []) more)) (was.invariant.joined (end ∷ more) all);
      room = omega (arith, was.invariant.room, ap (λ (l : List (PromisedHandle SessionEnd Carries)). length l) next, ap (λ (l : List SessionEnd). length l) pushed.items, length-append was.ends.items (end ∷ []), pushed.capacity);
      capacity = pushed.capacity ∙ was.invariant.capacity;
    }

pub returns : goal.returns
returns g c =
    let was = c.loop-handle in
    let none : was.handle-iterator.rest.items ≡ [] = grind (arith, common_steps) in
    record {
      joined = subst (AreEnds (jobs_of c.args.running.items) c.args.ends.now.items) (append-nil was.ends.items)
          (was.invariant.joined [] (subst (λ (l : List (PromisedHandle SessionEnd Carries)). CameOfAll (jobs_of l) []) (sym none) tt));
      capacity = was.invariant.capacity;
    }
