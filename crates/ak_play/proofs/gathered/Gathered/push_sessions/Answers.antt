-- What one session more came to.
use Rattle.std.proofs.Common.{◌≡◌, ◌+◌, List, [], ◌∷◌, length, map, sym, ap, ◌∙◌, arith}
use Rattle.std.proofs.lemmas.Grind.{common_steps}
use Rattle.std.proofs.lemmas.List.{length-append}
use Rattle.ak_block.specs.declared.blocks.Heard.{Heard}
use Rattle.ak_block.specs.Together.{part_of}
use Rattle.ak_play.specs.Gathered.{GatheredData, gathered_and, gathered_seen, of_session, of_sessions}
use Rattle.ak_play.specs.Parts.{session_outcomes, session_tolds}
use Rattle.ak_play.proofs.Gathering.{and_more, and_nothing, one_at_most}
use Rattle.ak_play.proofs.gathered.Gathered.push_sessions.Goals as goal

pub loop-heard-init : goal.loop-heard-init
loop-heard-init c =
    let same = c.into_iter-heard-iterator.ensures.into_iter_gives.0 in
    record {
      all = ap (λ (l : List Heard). gathered_and (gathered_seen c.args.self.now) (of_sessions c.args.from (map part_of l))) same;
      numbers = omega (arith, ap (λ (l : List Heard). length l) same, c.requires.numbers);
      room = record {
        outcomes = omega (arith, ap (λ (l : List Heard). length (session_outcomes (map part_of l))) same, c.requires.room.outcomes);
        tolds = omega (arith, ap (λ (l : List Heard). length (session_tolds (map part_of l))) same, c.requires.room.tolds);
        short = omega (arith, ap (λ (l : List Heard). length l) same, c.requires.room.short);
      };
      kept = record { outcomes = omega arith; tolds = omega arith };
    }

pub push_session-requires : goal.push_session-requires
push_session-requires c =
    let was = c.loop-heard in
    let rest = c.next.new.self.rest.items in
    let x = c.in-Some.heard in
    let next : was.heard-iterator.rest.items ≡ x ∷ rest = grind (arith, common_steps) in
    let room = was.invariant.room in
    record {
      room = record {
        outcomes = omega (arith, room.outcomes, ap (λ (l : List Heard). length (session_outcomes (map part_of l))) next, length-append x.outcomes.items (session_outcomes (map part_of rest)));
        tolds = omega (arith, room.tolds, ap (λ (l : List Heard). length (session_tolds (map part_of l))) next, length-append x.tolds.items (session_tolds (map part_of rest)));
        short = omega (arith, room.short, ap (λ (l : List Heard). length l) next);
      };
    }

pub loop-heard-preserved : goal.loop-heard-preserved
loop-heard-preserved c =
    let was = c.loop-heard in
    let rest = c.next.new.self.rest.items in
    let x = c.in-Some.heard in
    let next : was.heard-iterator.rest.items ≡ x ∷ rest = grind (arith, common_steps) in
    let room = was.invariant.room in
    let before = gathered_seen was.self in
    let one = of_session was.number (part_of x) in
    let others = of_sessions (was.number + 1) (map part_of rest) in
    let pushed = c.push_session.ensures in
    let seen = pushed.seen in
    record {
      all = ap (λ (g : GatheredData). gathered_and g others) seen ∙ and_more before one others ∙ ap (λ (l : List Heard). gathered_and before (of_sessions was.number (map part_of l))) (sym next) ∙ was.invariant.all;
      numbers = omega (arith, ap (λ (l : List Heard). length l) next, was.invariant.numbers);
      room = record {
        outcomes = omega (
          arith,
          room.outcomes,
          ap (λ (l : List Heard). length (session_outcomes (map part_of l))) next,
          length-append x.outcomes.items (session_outcomes (map part_of rest)),
          ap (λ (g : GatheredData). length g.outcomes) seen,
          length-append was.self.outcomes.items x.outcomes.items,
          pushed.kept.outcomes,
        );
        tolds = omega (
          arith,
          room.tolds,
          ap (λ (l : List Heard). length (session_tolds (map part_of l))) next,
          length-append x.tolds.items (session_tolds (map part_of rest)),
          ap (λ (g : GatheredData). length g.tolds) seen,
          length-append was.self.tolds.items x.tolds.items,
          pushed.kept.tolds,
        );
        short = omega (arith, room.short, ap (λ (l : List Heard). length l) next, ap (λ (g : GatheredData). length g.short) seen, length-append was.self.short.items one.short, one_at_most (part_of x).short was.number, pushed.kept_for_short);
      };
      kept = record { outcomes = omega (arith, was.invariant.kept.outcomes, pushed.kept.outcomes); tolds = omega (arith, was.invariant.kept.tolds, pushed.kept.tolds) };
    }

pub returns : goal.returns
returns c =
    let was = c.loop-heard in
    let none : was.heard-iterator.rest.items ≡ [] = grind (arith, common_steps) in
    record {
      seen = sym (and_nothing was.self.outcomes.items was.self.tolds.items was.self.short.items) ∙ ap (λ (l : List Heard). gathered_and (gathered_seen was.self) (of_sessions was.number (map part_of l))) (sym none) ∙ was.invariant.all;
      kept = was.invariant.kept;
    }
