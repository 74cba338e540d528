-- One item after the other, until it is closed.
use Rattle.std.proofs.Common.{ℕ, List, ◌++◌, ◌∙◌, arith}
use Rattle.std.proofs.lemmas.Grind.{common_steps}
use Rattle.ak_diary.specs.Looper.{LooperFacts}
use Rattle.ak_diary.specs.Step.{Step}
use Rattle.ak_looper.specs.Living.{ComesTo, GoesOnWorking, HasInHand, HasRestedSo, Later}
use Rattle.ak_looper.specs.declared.at_work.After.TheVariants as after
use Rattle.ak_looper.specs.declared.job.EndKind.TheVariants as kind
use Rattle.ak_looper.proofs.Working.{desk_as, later_as, later_then, places_of, places_then, still_its_desk, works_on}
use Rattle.ak_turn.proofs.Surface.{keeps_then_keeps}
use Rattle.ak_looper.proofs.at_work.Life.work.Goals as goal

pub returns-in_default-clause-rested : goal.returns-in_default-clause-rested
returns-in_default-clause-rested g c l start work working =
    let at = c.loop.invariant in
    let now = c.loop.self in
    let then = c.take_one.new.self in
    later_as (λ so_far. GoesOnWorking l start so_far now.reach now.desk_seat) (λ so_far. HasRestedSo l start so_far kind.TeamClosed then.queue.items then.reach then.desk_seat) work
    (at.later l start work working) (λ so_far goes. c.in_default.ensures.rested l start so_far goes)

pub serve_one-requires-clause-in_hand : goal.serve_one-requires-clause-in_hand
serve_one-requires-clause-in_hand g c lifetimes within =
    let is = c.loop.invariant.working in
    let took = c.in-Some-take_one.ensures.took is.facts is.start is.work is.goes_on in
    let hand : (l : LooperFacts) × (start : ℕ) × (work : List Step) × HasInHand l start work c.in-Some-take_one.taken c.take_one.new.self.reach c.take_one.new.self.desk_seat = (is.facts, is.start, is.work ++ took.turn, took.then_is) in
    hand

pub returns-in-Closed-clause-rested : goal.returns-in-Closed-clause-rested
returns-in-Closed-clause-rested g c l start work working =
    let now = c.loop.self in
    let took = c.take_one.new.self in
    let served = c.serve_one.new.self in
    let then = c.take_rest.new.self in
    let k = c.in-Closed.kind in
    let taken = c.in-Some-take_one.taken in
    let Works : List Step → Type 0 = λ so_far. GoesOnWorking l start so_far now.reach now.desk_seat in
    let Holds : List Step → Type 0 = λ so_far. HasInHand l start so_far taken took.reach took.desk_seat in
    let Closes : List Step → Type 0 = λ so_far. ComesTo l start so_far (after.Closed k) served.reach served.desk_seat in
    let Rests : List Step → Type 0 = λ so_far. HasRestedSo l start so_far k then.queue.items then.reach then.desk_seat in
    later_as Closes Rests work
    (later_then Holds Closes work (later_then Works Holds work (c.loop.invariant.later l start work working) (λ so_far goes. c.in-Some-take_one.ensures.took l start so_far goes))
    (λ so_far hand. c.in-Closed.ensures.served l start so_far hand))
    (λ so_far closed. c.take_rest.ensures.rested l start so_far k closed.0)

pub returns-in-Closed-clause-keeps : goal.returns-in-Closed-clause-keeps
returns-in-Closed-clause-keeps g c =
    let first = c.args.self.now.reach in
    let took = c.take_one.new.self.reach in
    let served = c.serve_one.new.self.reach in
    places_then first served c.take_rest.new.self.reach
    (places_then first took served (places_then first c.loop.self.reach took c.loop.invariant.keeps c.take_one.ensures.keeps) (places_of took served c.serve_one.ensures.keeps)) c.take_rest.ensures.keeps

pub loop-preserved : goal.loop-preserved
loop-preserved g c =
    let at = c.loop.invariant in
    let first = c.args.self.now in
    let now = c.loop.self in
    let took = c.take_one.new.self in
    let served = c.serve_one.new.self in
    let taken = c.in-Some-take_one.taken in
    let keeps = places_then now.reach took.reach served.reach c.take_one.ensures.keeps (places_of took.reach served.reach c.serve_one.ensures.keeps) in
    let seat = desk_as now.desk_seat took.desk_seat served.desk_seat c.take_one.ensures.desk.1 c.serve_one.ensures.desk.1 in
    let later : (l : LooperFacts) (start : ℕ) (work : List Step) → GoesOnWorking l start work now.reach now.desk_seat → Later (λ so_far. GoesOnWorking l start so_far served.reach served.desk_seat) work
    = λ l start work goes. later_then (λ so_far. HasInHand l start so_far taken took.reach took.desk_seat) (λ so_far. GoesOnWorking l start so_far served.reach served.desk_seat) work
    (c.in-Some-take_one.ensures.took l start work goes) (λ so_far hand. c.in_default-serve_one.ensures.served l start so_far hand) in
    record {
      next = grind (arith, common_steps);
      finite = grind (arith, common_steps);
      can = c.serve_one.ensures.can;
      desk = still_its_desk now.reach.number served.reach.number now.desk_seat served.desk_seat keeps.number seat at.desk;
      working = works_on now.reach served.reach now.desk_seat served.desk_seat at.working later;
      later = λ l start work goes. later_then (λ so_far. GoesOnWorking l start so_far now.reach now.desk_seat) (λ so_far. GoesOnWorking l start so_far served.reach served.desk_seat) work (at.later l start work goes) (λ so_far. later l start so_far);
      keeps = places_then first.reach now.reach served.reach at.keeps keeps;
      lock = c.serve_one.ensures.desk.0 ∙ c.take_one.ensures.desk.0 ∙ at.lock;
      seat = keeps_then_keeps first.desk_seat now.desk_seat served.desk_seat at.seat seat;
    }
