-- A door for each looper that the launch starts.
use Rattle.std.proofs.Common.{◌≡◌, length, [], sym, ap, ◌∙◌}
use Rattle.ak_turn.specs.declared.clock.Clock.{Clock}
use Rattle.ak_roster.specs.Answers.{decision_of}
use Rattle.ak_roster.specs.Machine.{launch_of, loopers_at}
use Rattle.ak_roster.specs.Roster.{state}
use Rattle.ak_roster.proofs.Surface.{fresh_decided, fresh_launch, doors_for_start}
use Rattle.uses_objects.proofs.OwnDoors.{by_deciding, by_launching, by_staying}
use Rattle.uses_objects.proofs.rosters.calls.decide_and_launch.Goals as goal

pub launch-requires-clause-doors : goal.launch-requires-clause-doors
launch-requires-clause-doors c =
    doors_for_start c.decide-decision.new.self.heads c.decide-decision.new.clock.thread.0
    (launch_of c.decide-decision.new.self.heads (state c.decide-decision.new.self) c.args.word.now) c.in-Starts.description c.in-Starts.team c.in-Starts.first
    (length (state c.decide-decision.new.self).loopers) c.in_ok-doors.doors.items
    (c.in-Starts.ensures.answer ∙ ap (λ r. decision_of (launch_of r.heads (state r) c.args.word.now)) (sym c.in-Starts.ensures.stays.0))
    (c.in_ok-doors.ensures ∙ ap (λ hs. loopers_at hs c.in-Starts.description) c.heads.ensures.value)

pub returns-in_default-clause-fresh : goal.returns-in_default-clause-fresh
returns-in_default-clause-fresh c =
    fresh_decided c.decide-decision.result c.args.word.now (launch_of c.args.roster.now.heads (state c.args.roster.now) c.args.word.now) [] c.args.roster.now.doors
    c.args.roster.now c.decide-decision.new.self c.args.clock.now c.decide-decision.new.clock c.decide-decision.ensures.entry c.decide-decision.ensures.stays

pub returns-clause-fresh : goal.returns-clause-fresh
returns-clause-fresh c =
    fresh_launch c.launch.result c.args.word.now (launch_of c.decide-decision.new.self.heads (state c.decide-decision.new.self) c.args.word.now) _ _
    c.args.roster.now c.decide-decision.new.self c.launch.new.self c.decide-decision.new.clock c.launch.new.clock c.in-Starts.ensures.stays.0
    c.launch.ensures.entry c.launch.ensures.stays

pub returns-in_default-clause-mine : goal.returns-in_default-clause-mine
returns-in_default-clause-mine c t is all =
    by_deciding t c.decide-decision.result _ _ c.args.roster.now c.decide-decision.new.self c.args.clock.now c.decide-decision.new.clock is c.decide-decision.ensures.entry c.decide-decision.ensures.stays all

pub returns-clause-mine : goal.returns-clause-mine
returns-clause-mine c t is all =
    let same : c.decide-decision.new.clock.thread.0 ≡ t = ap (λ (x : Clock). x.thread.0) c.in-Starts.ensures.stays.1 ∙ is in
    let old = by_staying t c.args.roster.now c.decide-decision.new.self c.args.clock.now c.decide-decision.new.clock c.in-Starts.ensures.stays all in
    by_launching t c.launch.result _ _ _ c.decide-decision.new.self c.launch.new.self c.decide-decision.new.clock c.launch.new.clock same c.launch.ensures.entry c.launch.ensures.stays old
