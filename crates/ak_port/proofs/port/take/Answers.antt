use Rattle.std.proofs.Common.{◌-◌, ◌∙◌, Some, None, ap, subst, sym}
use Rattle.std.specs.VecDeque.{deque_len, deque_capacity}
use Rattle.ak_base.specs.declared.thread.ThreadId.{ThreadId}
use Rattle.ak_turn.proofs.Surface.{answered_keeps, looked_then_answered}
use Rattle.ak_port.specs.PortCalls.{by_number, entry_of, stamp_number, CanTake, take_event}
use Rattle.ak_port.proofs.PortTaken.{takes_all, takes_count, takes_more, takes_some}
use Rattle.ak_port.proofs.PortTaking.{can_after_take, can_after_seen}
use Rattle.ak_port.proofs.port.take.Goals as goal

pub returns-in-Some-try_take-clause-answered : goal.returns-in-Some-try_take-clause-answered
returns-in-Some-try_take-clause-answered g c =
    looked_then_answered by_number stamp_number entry_of (Some (take_event c.in-Some-try_take.answer)) _ _ _ _ _ _ c.loop.invariant.looked c.in-Some-try_take.ensures.answered

pub returns-in-Some-try_take-clause-seat : goal.returns-in-Some-try_take-clause-seat
returns-in-Some-try_take-clause-seat g c = (answered_keeps by_number stamp_number entry_of (Some (take_event c.in-Some-try_take.answer)) _ _ _ _ (returns-in-Some-try_take-clause-answered g c)).0

pub returns-in-Some-try_take-clause-clock : goal.returns-in-Some-try_take-clause-clock
returns-in-Some-try_take-clause-clock g c = (answered_keeps by_number stamp_number entry_of (Some (take_event c.in-Some-try_take.answer)) _ _ _ _ (returns-in-Some-try_take-clause-answered g c)).1

pub returns-in-Some-try_take-clause-taking : goal.returns-in-Some-try_take-clause-taking
returns-in-Some-try_take-clause-taking g c =
    can_after_take c.in-Some-try_take.answer _ _ _ _ (returns-in-Some-try_take-clause-answered g c) c.in-Some-try_take.ensures.port c.args.clock.now.thread

pub returns-in-Some-try_take-clause-some : goal.returns-in-Some-try_take-clause-some
returns-in-Some-try_take-clause-some g c =
    takes_some c.args.clock.now.thread _ _ c.in-Some-try_take.answer _ _ (returns-in-Some-try_take-clause-answered g c) c.requires.taking.taker c.requires.thread c.in-Some-try_take.ensures.port

pub returns-in-Some-try_take-clause-rises : goal.returns-in-Some-try_take-clause-rises
returns-in-Some-try_take-clause-rises g c =
    takes_count c.args.clock.now.thread _ _ c.in-Some-try_take.answer _ _ (returns-in-Some-try_take-clause-answered g c) c.requires.taking.taker c.requires.thread c.in-Some-try_take.ensures.port

pub returns-in-Some-try_take-clause-goes_on : goal.returns-in-Some-try_take-clause-goes_on
returns-in-Some-try_take-clause-goes_on g c =
    takes_more c.args.clock.now.thread _ _ c.in-Some-try_take.answer _ _ (returns-in-Some-try_take-clause-answered g c) c.requires.taking.taker c.requires.thread c.in-Some-try_take.ensures.port

pub returns-in-Some-try_take-clause-rest : goal.returns-in-Some-try_take-clause-rest
returns-in-Some-try_take-clause-rest g c =
    takes_all c.args.clock.now.thread _ _ c.in-Some-try_take.answer _ _ (returns-in-Some-try_take-clause-answered g c) c.requires.taking.taker c.requires.thread c.in-Some-try_take.ensures.port

pub loop-preserved : goal.loop-preserved
loop-preserved g c =
    let looked = c.in_default.ensures.looked in
    let same = c.in_default.ensures.nothing in
    let stays = answered_keeps by_number stamp_number entry_of None _ _ _ _ looked in
    let room = deque_capacity c.loop.out - deque_len c.loop.out in
    record {
      of = stays.0.lock ∙ c.loop.invariant.of;
      idle = stays.0.turn ∙ c.loop.invariant.idle;
      thread = stays.0.thread ∙ c.loop.invariant.thread ∙ sym (ap (λ (t : ThreadId). t.0) stays.1);
      looked = looked_then_answered by_number stamp_number entry_of None _ _ _ _ _ _ c.loop.invariant.looked looked;
      out = same ∙ c.loop.invariant.out;
      taking =
          subst (λ q. CanTake c.try_take.new.clock.thread (deque_capacity q - deque_len q) c.try_take.new.seat) (sym same)
          (subst (λ t. CanTake t room c.try_take.new.seat) (sym stays.1) (can_after_seen c.loop.clock.thread room _ _ c.loop.invariant.taking looked.seen c.in_default.ensures.port));
    }
