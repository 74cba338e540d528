-- One more is closed.
use Rattle.std.proofs.Common.{◌≡◌, ◌+◌, List, [], ◌∷◌, ◌++◌, length, refl, ap, ◌∙◌, subst, sym, arith}
use Rattle.std.proofs.lemmas.Grind.{common_steps}
use Rattle.std.proofs.lemmas.List.{length-append}
use Rattle.ak_lines.specs.declared.job.SessionEnd.{SessionEnd}
use Rattle.ak_block.specs.declared.blocks.Heard.{Heard}
use Rattle.ak_block.specs.Together.{AreOpen}
use Rattle.ak_block.proofs.Closing.{ClosedSoFar, all_closed_now, closed_push, may_close, none_closed}
use Rattle.ak_block.proofs.blocks.close_all.Goals as goal

pub loop-end-init : goal.loop-end-init
loop-end-init g c =
    let same = c.into_iter-end-iterator.ensures.into_iter_gives.0 in
    let rest = c.into_iter-end-iterator.result.rest.items in
    let none = c.requires.none in
    record {
      kept = λ heads before time from sessions are.
          subst (λ (hs : List Heard). ClosedSoFar heads before time from sessions c.args.run.now c.args.run.now rest hs) (sym none)
          (none_closed heads before time from sessions c.args.run.now rest (subst (λ (l : List SessionEnd). AreOpen heads before time from sessions c.args.run.now l) (sym same) are));
      room = omega (arith, ap (λ (l : List SessionEnd). length l) same, ap (λ (l : List Heard). length l) none, c.requires.room);
      running = c.requires.running;
      count = refl;
      apps = refl;
    }

pub close_session-requires : goal.close_session-requires
close_session-requires g c =
    let was = c.loop-end in
    let rest = c.next.new.self.rest.items in
    let x = c.in-Some.end in
    let next : was.end-iterator.rest.items ≡ x ∷ rest = grind (arith, common_steps) in
    let o = c.requires.opened in
    let so_far = was.invariant.kept o.0 o.1 o.2 o.3 o.4 o.5 in
    record {
      running = was.invariant.running;
      came = may_close o.0 (o.1 ++ so_far.closed) o.2 (o.3 + length so_far.done) so_far.todo was.run x rest
          (subst (AreOpen o.0 (o.1 ++ so_far.closed) o.2 (o.3 + length so_far.done) so_far.todo was.run) next so_far.are_open);
    }

pub push_reserved-requires : goal.push_reserved-requires
push_reserved-requires g c =
    let was = c.loop-end in
    let rest = c.next.new.self.rest.items in
    let x = c.in-Some.end in
    let next : was.end-iterator.rest.items ≡ x ∷ rest = grind (arith, common_steps) in
    omega (arith, was.invariant.room, ap (λ (l : List SessionEnd). length l) next, was.heard.ok.0)

pub loop-end-preserved : goal.loop-end-preserved
loop-end-preserved g c =
    let was = c.loop-end in
    let rest = c.next.new.self.rest.items in
    let x = c.in-Some.end in
    let next : was.end-iterator.rest.items ≡ x ∷ rest = grind (arith, common_steps) in
    let closed = c.close_session.ensures in
    let pushed = c.push_reserved.ensures in
    let h : Heard = record { outcomes = x.outcomes; tolds = x.tolds; short = x.short } in
    record {
      kept = λ heads before time from sessions are.
          closed_push heads before time from sessions c.args.run.now was.run x rest was.heard.items
          (subst (λ (l : List SessionEnd). ClosedSoFar heads before time from sessions c.args.run.now was.run l was.heard.items) next (was.invariant.kept heads before time from sessions are))
          c.close_session.new.self closed.closed closed.seen closed.did h _ refl pushed.items;
      room = omega (arith, was.invariant.room, ap (λ (l : List SessionEnd). length l) next, ap (λ (l : List Heard). length l) pushed.items, length-append was.heard.items (h ∷ []), pushed.capacity);
      running = closed.running;
      count = closed.count ∙ was.invariant.count;
      apps = closed.apps ∙ was.invariant.apps;
    }

pub returns : goal.returns
returns g c =
    let was = c.loop-end in
    let none : was.end-iterator.rest.items ≡ [] = grind (arith, common_steps) in
    record {
      kept = λ heads before time from sessions are.
          all_closed_now heads before time from sessions c.args.run.now was.run was.heard.items
          (subst (λ (l : List SessionEnd). ClosedSoFar heads before time from sessions c.args.run.now was.run l was.heard.items) none (was.invariant.kept heads before time from sessions are));
      running = was.invariant.running;
      count = was.invariant.count;
      apps = was.invariant.apps;
    }
