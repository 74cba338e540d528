use Rattle.std.proofs.Common.{◌∙◌, subst, sym}
use Rattle.ak_port.specs.PortCalls.{CanTake}
use Rattle.ak_port.proofs.Surface.{can_titled}
use Rattle.uses_objects.proofs.ports.lives.shut_and_empty.Goals as goal

pub take_one-requires-clause-taking : goal.take_one-requires-clause-taking
take_one-requires-clause-taking g c =
    let split = can_titled c.args.clock.thread 1 _ c.args.seat c.split-guest.new.seat c.requires.taking c.split-guest.ensures.old in
    let closed = c.close-shut.ensures.taking c.args.clock.thread 1 split in
    let put = c.put.ensures.taking c.args.clock.thread 1 closed in
    subst (λ t. CanTake t 1 c.put.new.seat) (sym (c.put.ensures.clock ∙ c.close-shut.ensures.clock)) put
