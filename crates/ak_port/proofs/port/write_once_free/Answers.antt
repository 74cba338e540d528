use Rattle.std.proofs.Common.{◌∙◌, None, ap, subst, sym}
use Rattle.ak_base.specs.declared.thread.ThreadId.{ThreadId}
use Rattle.ak_turn.proofs.Surface.{answered_keeps, looked_then_answered}
use Rattle.ak_port.specs.PortCalls.{by_number, entry_of, stamp_number, HasAnswered, write_entry}
use Rattle.ak_port.proofs.port.write_once_free.Goals as goal

pub returns-in-Ok-clause-answered : goal.returns-in-Ok-clause-answered
returns-in-Ok-clause-answered g c =
    looked_then_answered by_number stamp_number entry_of (write_entry c.in-Ok.answer c.args.item) _ _ _ _ _ _ c.loop.invariant.looked
    (subst (λ i. HasAnswered (write_entry c.in-Ok.answer i) c.loop.clock c.try_write.new.clock c.loop.seat c.try_write.new.seat) c.loop.invariant.item c.in-Ok.ensures.answered)

pub loop-preserved : goal.loop-preserved
loop-preserved g c =
    let looked = c.in-Err.ensures.looked in
    let stays = answered_keeps by_number stamp_number entry_of None _ _ _ _ looked in
    record {
      of = stays.0.lock ∙ c.loop.invariant.of;
      idle = stays.0.turn ∙ c.loop.invariant.idle;
      thread = stays.0.thread ∙ c.loop.invariant.thread ∙ sym (ap (λ (t : ThreadId). t.0) stays.1);
      looked = looked_then_answered by_number stamp_number entry_of None _ _ _ _ _ _ c.loop.invariant.looked looked;
      item = c.in-Err.ensures.item ∙ c.loop.invariant.item;
    }
