-- The taker can take, as long as it has not taken the rest.
use Rattle.std.proofs.Common.{◌≡◌, ap, subst, sym, ◌∙◌}
use Rattle.ak_base.specs.declared.thread.ThreadId.{ThreadId}
use Rattle.ak_turn.specs.declared.clock.Clock.{Clock}
use Rattle.ak_port.specs.PortCalls.{CanTake}
use Rattle.uses_objects.proofs.ports.lives.write_take_and_shut.Goals as goal

pub take_first-requires-clause-taking : goal.take_first-requires-clause-taking
take_first-requires-clause-taking g c =
    let first = c.put.ensures.taking _ 1 c.in_ok-port.ensures.taking in
    let second = c.put-2.ensures.taking _ 1 first in
    subst (λ (t : ThreadId). CanTake t 1 c.put-2.new.seat)
    (sym (c.put-2.ensures.clock ∙ c.put.ensures.clock ∙ ap (λ (k : Clock). k.thread) c.in_ok-port.ensures.clock)) second

pub shut_and_empty-requires-clause-taking : goal.shut_and_empty-requires-clause-taking
shut_and_empty-requires-clause-taking g c =
    let third = c.put-3.ensures.taking _ 1 c.in_ok-taken.ensures.taking in
    subst (λ (t : ThreadId). CanTake t 1 c.put-3.new.seat) (sym (c.put-3.ensures.clock ∙ c.take_first.ensures.clock)) third
