-- The tries before it entered nothing.
use Rattle.std.proofs.Common.{Option, subst, sym, ap, ◌∙◌}
use Rattle.std.specs.Prelude.{IfNone, IfSome}
use Rattle.ak_base.specs.declared.thread.ThreadId.{ThreadId}
use Rattle.ak_turn.proofs.Surface.{seen_then_seen}
use Rattle.ak_roster.specs.declared.entry.RosterEvent.TheVariants as event
use Rattle.ak_looper.specs.declared.door.Door.{Door}
use Rattle.ak_looper.specs.RosterCalls.{HasEnteredDoor, HasSeenNone}
use Rattle.ak_looper.specs.Rosters.{MayGetDoor, by_number}
use Rattle.ak_looper.proofs.RosterTurns.{seen_then_entered}
use Rattle.ak_looper.proofs.roster.get_door.Goals as goal

pub returns-in-Some-2-clause-got : goal.returns-in-Some-2-clause-got
returns-in-Some-2-clause-got g c =
    seen_then_entered (event.Door c.args.looper) c.args.clock.now c.loop.clock c.try_door.new.clock c.args.seat.now c.loop.seat c.try_door.new.seat c.loop.invariant.seen c.loop.invariant.clock
    (subst (λ (o : Option Door). IfSome o (λ (d : Door). HasEnteredDoor c.args.looper c.loop.clock c.try_door.new.clock c.loop.seat c.try_door.new.seat)) c.in-Some-2.is c.in_ok-door.ensures.got)

pub loop-preserved : goal.loop-preserved
loop-preserved g c =
    let so_far = c.loop.invariant in
    let keeps = c.try_door.ensures.seat in
    let looked = subst (λ (o : Option Door). IfNone o (HasSeenNone c.loop.clock c.try_door.new.clock c.loop.seat c.try_door.new.seat)) c.in_default.is c.in_ok-door.ensures.none in
    record {
      of = keeps.lock ∙ so_far.of;
      idle = keeps.turn ∙ so_far.idle;
      thread = keeps.thread ∙ so_far.thread ∙ sym (ap (λ (t : ThreadId). t.0) c.try_door.ensures.clock);
      may = subst (λ (o : Option Door). IfNone o (MayGetDoor c.args.looper c.try_door.new.seat)) c.in_default.is (c.in_ok-door.ensures.may so_far.may);
      seen = seen_then_seen by_number c.args.seat.now c.loop.seat c.try_door.new.seat so_far.seen looked.seen;
      clock = looked.clocked ∙ so_far.clock;
    }
