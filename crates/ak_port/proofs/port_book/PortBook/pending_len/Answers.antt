use Rattle.std.proofs.Common.{◌≤◌, subst, arith}
use Rattle.ak_port.specs.PortCalls.{PortData}
use Rattle.ak_port.specs.PortMachine.{state_of}
use Rattle.ak_port.proofs.PortSound.{few_pending}
use Rattle.ak_port.proofs.port_book.PortBook.pending_len.Goals as goal

pub overflow_cast-result : goal.overflow_cast-result
overflow_cast-result c =
    let few = (few_pending c.self.inside c.self.invariant).2 in
    let within = c.self.invariant.within.0 in
    let len = c.len.ensures in
    omega arith

pub returns-clause-within : goal.returns-clause-within
returns-clause-within c =
    subst (λ (p : PortData). c.len.result ≤ (state_of p.entries).capacity) c.self.view_is
    (let few = (few_pending c.self.inside c.self.invariant).2 in let capacity = c.self.invariant.tells.capacity in let len = c.len.ensures in omega arith)
