-- One port more, and at the end all of them.
use Rattle.std.proofs.Common.{◌≡◌, ℕ, ◌+◌, ◌∙◌, ap, sym, arith}
use Rattle.std.specs.List.{range_with_len}
use Rattle.ak_looper.proofs.ClosingSteps.{begins_shutting, goes_on_shutting, has_shut, numbers_within}
use Rattle.ak_looper.proofs.Going.{keeps_all, keeps_on, still_standing}
use Rattle.ak_looper.proofs.Shutting.{team_is_shut}
use Rattle.ak_diary.specs.Turns.{ShutsAll}
use Rattle.ak_looper.proofs.reach.Reach.shut_team.Goals as goal

pub loop-place-init : goal.loop-place-init
loop-place-init g c = record { goes = begins_shutting c.args.self.now; keeps = keeps_all c.args.self.now }

pub overflow_add-looper : goal.overflow_add-looper
overflow_add-looper g c =
    let within = numbers_within c.args.self.now c.requires.stands in
    let first = c.loop-place.invariant.keeps.first in
    omega arith

pub way_in_team-way-requires : goal.way_in_team-way-requires
way_in_team-way-requires g c =
    let so_far = c.loop-place.invariant in
    let r = c.loop-place.self in
    let loopers = so_far.keeps.loopers in
    record {
      stands = still_standing (λ l from. ShutsAll (range_with_len l.first c.loop-place.place)) c.args.self.now r c.requires.stands so_far.goes;
      of = record { own = so_far.keeps.number ∙ c.requires.own ∙ sym so_far.keeps.first; from = omega arith; below = omega arith };
    }

pub loop-place-preserved : goal.loop-place-preserved
loop-place-preserved g c =
    let so_far = c.loop-place.invariant in
    let looper = c.loop-place.self.first + c.loop-place.place in
    record {
      goes =
          goes_on_shutting c.loop-place.place looper c.args.self.now c.loop-place.self c.shut.new.self (ap (λ (n : ℕ). n + c.loop-place.place) so_far.keeps.first)
          so_far.goes c.shut.ensures.goes;
      keeps = keeps_on c.args.self.now c.loop-place.self c.shut.new.self so_far.keeps c.shut.ensures.keeps;
    }

pub returns : goal.returns
returns g c =
    let so_far = c.loop-place.invariant in
    let all : c.loop-place.place ≡ c.args.self.now.loopers = omega arith in
    let goes = has_shut c.loop-place.place c.args.self.now c.loop-place.self all so_far.goes in
    record {
      goes = goes;
      shut = team_is_shut c.args.self.now c.loop-place.self c.requires.stands c.requires.own goes;
      keeps = so_far.keeps;
    }
