use Rattle.std.proofs.Common.{◌∙◌, subst, sym}
use Rattle.ak_port.specs.declared.port_entry.TakeAnswer.TheVariants as answer
use Rattle.ak_port.specs.PortCalls.{CanTake}
use Rattle.ak_port.proofs.Surface.{takes_on}
use Rattle.uses_objects.proofs.ports.three.take_all.Goals as goal

pub loop-preserved : goal.loop-preserved
loop-preserved g c =
    let so_far = c.loop.invariant in
    let took = c.in-Took.ensures in
    let taking = took.taking 3 (subst (λ t. CanTake t 3 c.loop.seat) (sym so_far.thread) so_far.taking) in
    record {
      taken = takes_on c.args.port.now c.args.thread c.loop.taken.items c.take.new.out.items (answer.Took c.in-Took.field-0) _ _ _ _ so_far.taken took.answered took.seat took.port took.items;
      thread = took.clock ∙ so_far.thread;
      taking = subst (λ t. CanTake t 3 c.take.new.seat) so_far.thread taking;
      room = took.room ∙ so_far.room;
    }
