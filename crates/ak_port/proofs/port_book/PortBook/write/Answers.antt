use Rattle.ak_port.proofs.PortCalled.{writes_by_machine}
use Rattle.ak_port.proofs.port_book.PortBook.write.Goals as goal

pub returns-in-None-clause-machine : goal.returns-in-None-clause-machine
returns-in-None-clause-machine c = writes_by_machine c.accept.result c.args.item _ _ _ _ c.accept.ensures.added c.accept.ensures.port

pub returns-in-Some-clause-machine : goal.returns-in-Some-clause-machine
returns-in-Some-clause-machine c = writes_by_machine c.refuse.result c.args.item _ _ _ _ c.refuse.ensures.added c.refuse.ensures.port
