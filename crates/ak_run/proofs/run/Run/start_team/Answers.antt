-- The own looper starts, and then the others, one after another.
use Rattle.std.proofs.Common.{◌≡◌, ◌≤◌, ◌+◌, ℕ, Bool, true, false, List, [], ◌∷◌, length, map, refl, sym, ap, ◌∙◌, subst, arith}
use Rattle.std.specs.Prelude.{IsFalse, IsTrue}
use Rattle.ak_outside.specs.Faults.{Rose}
use Rattle.ak_outside.proofs.Surface.{Rose-after, Rose-before}
use Rattle.std.proofs.lemmas.Grind.{common_steps}
use Rattle.ak_looper.specs.declared.door.Door.{Door}
use Rattle.ak_team.specs.declared.new_looper.NewLooper.{NewLooper}
use Rattle.ak_run.specs.Recording.{fronts_with}
use Rattle.ak_team.specs.InTime.{new_front, team_fronts}
use Rattle.ak_run.specs.Starting.{IsStarting, MayStart}
use Rattle.ak_run.specs.Stopping.{StopsSince}
use Rattle.ak_run.proofs.Starts.{RefusedBut, StartedBut, next_started, none_yet, refused_so_far, some_started, whole_started}
use Rattle.ak_run.proofs.Stopping.{has_all, own_stops, stops_on}
use Rattle.ak_run.proofs.TeamStarts as teams
use Rattle.ak_run.proofs.TeamStarts.{all_started, next_may_start, others_follow, own_may_start}
use Rattle.ak_run.proofs.run.Run.start_team.Goals as goal

-- where some looper was not started, the count of faults rose
rose_so_far : (a b c : ℕ) (all : Bool) → (IsTrue all → b ≡ a) → (IsFalse all → Rose a b) → a ≤ b → (IsTrue all → Rose b c) → b ≤ c → Rose a c
rose_so_far a b c true kept rose first later second = Rose-after a b c first second (later refl)
rose_so_far a b c false kept rose first later second = Rose-before a b c (rose refl) second

pub start_one-all-requires-clause-start : goal.start_one-all-requires-clause-start
start_one-all-requires-clause-start g c κs within =
    let s = c.requires.start in
    (s.0, s.1, 0, own_may_start s.0 s.1 s.2 c.args.team c.args.new c.args.self.now s.3)

pub loop-other-init : goal.loop-other-init
loop-other-init g c =
    let s = c.requires.start in
    let now = c.start_one-all.new.self in
    let same = c.into_iter-other-iterator.ensures.into_iter_gives.0 in
    let left = length c.into_iter-other-iterator.result.rest.items in
    let many = c.args.team.loopers in
    let before = g.W.Spawner.calls c.args.spawner.now in
    let after = g.W.Spawner.calls c.start_one-all.new.spawner in
    let all_left : many ≡ left + 1 = omega (arith, ap (λ (l : List NewLooper). length l) same, s.3.loopers, s.3.all) in
    let first : StartedBut (left + 1) many before before = subst (λ (k : ℕ). StartedBut k many before before) all_left (none_yet many before) in
    record {
      starting = subst (IsStarting c.args.team c.args.self.now now) (sym same) (others_follow s.0 s.1 s.2 c.args.team c.args.new c.args.self.now now s.3 c.start_one-all.ensures.started);
      quiet = λ all. subst (λ (ns : List NewLooper). fronts_with now (map new_front ns) ≡ fronts_with c.args.self.now (team_fronts c.args.new)) (sym same) ((c.start_one-all.ensures.quiet all).same (map new_front c.args.new.others.items));
      stops = λ none.
          subst (λ (ns : List NewLooper). StopsSince c.args.team c.args.self.now (team_fronts c.args.new) now (map new_front ns)) (sym same)
          (own_stops c.args.team c.args.self.now now c.args.new s.3.next c.start_one-all.ensures.started (c.start_one-all.ensures.stops refl none));
      kept = c.start_one-all.ensures.kept;
      cause = c.start_one-all.ensures.cause refl;
      never_falls = c.start_one-all.ensures.never_falls;
      asked = λ all. next_started left many before before after first (c.start_one-all.ensures.asked all);
      given_back = λ none. refused_so_far left many before before after true (λ all. first) (λ bad. absurd (cc bad)) (λ all. c.start_one-all.ensures.given_back refl none) (λ bad. absurd (cc bad));
      gates = omega (arith, ap (λ (l : List NewLooper). length l) same, c.next_gate-gate.ensures, c.requires.gates, s.3.loopers, s.3.all);
    }

pub start_one-all-requires-in-loop-other-clause-start : goal.start_one-all-requires-in-loop-other-clause-start
start_one-all-requires-in-loop-other-clause-start g c κs within =
    let was = c.loop-other in
    let x = c.in-Some.other in
    let rest = c.next.new.self.rest.items in
    let next : was.other-iterator.rest.items ≡ x ∷ rest = grind (arith, common_steps) in
    let is = subst (IsStarting c.args.team c.args.self.now was.self) next was.invariant.starting in
    let may = next_may_start c.args.team c.args.self.now was.self x rest is in
    (is.heads, is.plans, is.so_far, subst (λ (ws : List (ℕ × Door)). MayStart is.heads is.plans is.so_far c.args.team x ws was.self) (sym c.new.ensures.items) may)

pub loop-other-preserved : goal.loop-other-preserved
loop-other-preserved g c =
    let was = c.loop-other in
    let x = c.in-Some.other in
    let rest = c.next.new.self.rest.items in
    let next : was.other-iterator.rest.items ≡ x ∷ rest = grind (arith, common_steps) in
    let is = subst (IsStarting c.args.team c.args.self.now was.self) next was.invariant.starting in
    let now = c.start_one-all-in-loop-other.new.self in
    let begun = fronts_with c.args.self.now (team_fronts c.args.new) in
    let one = c.start_one-all-in-loop-other.ensures in
    let before = g.W.Spawner.faults c.args.spawner.now in
    let between = g.W.Spawner.faults was.spawner in
    let after = g.W.Spawner.faults c.start_one-all-in-loop-other.new.spawner in
    let left = length rest in
    let many = c.args.team.loopers in
    let at_first = g.W.Spawner.calls c.args.spawner.now in
    let so_far = g.W.Spawner.calls was.spawner in
    let now_asked = g.W.Spawner.calls c.start_one-all-in-loop-other.new.spawner in
    let one_less : length was.other-iterator.rest.items ≡ left + 1 = omega (arith, ap (λ (l : List NewLooper). length l) next) in
    let started = λ (all : IsTrue was.all). subst (λ (k : ℕ). StartedBut k many at_first so_far) one_less (was.invariant.asked all) in
    let refused = λ (none : IsFalse was.all). subst (λ (k : ℕ). RefusedBut k many at_first so_far) one_less (was.invariant.given_back none) in
    let quiet_so_far = λ (all : IsTrue was.all). subst (λ (ns : List NewLooper). fronts_with was.self (map new_front ns) ≡ begun) next (was.invariant.quiet all) in
    record {
      starting = teams.next_started c.args.team c.args.self.now was.self now x rest is one.started;
      quiet = λ all. (one.quiet all).same (map new_front rest) ∙ quiet_so_far (one.only all);
      stops = stops_on c.args.team c.args.self.now was.self now (team_fronts c.args.new) x rest is one.started was.all c.start_one-all-in-loop-other.result quiet_so_far
          (λ none. subst (λ (ns : List NewLooper). StopsSince c.args.team c.args.self.now (team_fronts c.args.new) was.self (map new_front ns)) next (was.invariant.stops none)) one.stops one.shut;
      kept = λ all. one.kept all ∙ was.invariant.kept (one.only all);
      cause = λ none. rose_so_far before between after was.all was.invariant.kept was.invariant.cause was.invariant.never_falls (λ all. one.cause all none) one.never_falls;
      never_falls = omega (arith, was.invariant.never_falls, one.never_falls);
      asked = λ all. next_started left many at_first so_far now_asked (started (one.only all)) (one.asked all);
      given_back = λ none. refused_so_far left many at_first so_far now_asked was.all started refused (λ all. one.given_back all none) one.not_asked;
      gates = omega (arith, c.next_gate-gate-in-loop-other.ensures, was.invariant.gates, ap (λ (l : List NewLooper). length l) next);
    }

pub returns : goal.returns
returns g c =
    let was = c.loop-other in
    let none : was.other-iterator.rest.items ≡ [] = grind (arith, common_steps) in
    let is = subst (IsStarting c.args.team c.args.self.now was.self) none was.invariant.starting in
    let many = c.args.team.loopers in
    let at_first = g.W.Spawner.calls c.args.spawner.now in
    let now_asked = g.W.Spawner.calls was.spawner in
    record {
      started = all_started c.args.team c.args.self.now was.self is;
      stops = λ failed.
          subst (λ (ns : List NewLooper). StopsSince c.args.team c.args.self.now (team_fronts c.args.new) was.self (map new_front ns)) none (was.invariant.stops failed) c.args.team.loopers
          (has_all c.args.team c.args.self.now was.self is);
      quiet = λ all. subst (λ (ns : List NewLooper). fronts_with was.self (map new_front ns) ≡ fronts_with c.args.self.now (team_fronts c.args.new)) none (was.invariant.quiet all);
      kept = was.invariant.kept;
      cause = was.invariant.cause;
      never_falls = was.invariant.never_falls;
      asked = λ all. whole_started many at_first now_asked (subst (λ (ns : List NewLooper). StartedBut (length ns) many at_first now_asked) none (was.invariant.asked all));
      given_back = λ failed. some_started many at_first now_asked (subst (λ (ns : List NewLooper). RefusedBut (length ns) many at_first now_asked) none (was.invariant.given_back failed));
    }
