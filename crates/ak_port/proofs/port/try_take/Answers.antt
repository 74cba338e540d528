use Rattle.std.proofs.Common.{◌≤◌, ◌-◌, arith}
use Rattle.std.specs.VecDeque.{deque_len, deque_capacity}
use Rattle.ak_port.specs.PortMachine.{state_of}
use Rattle.ak_port.proofs.PortTaking.{book_unrested, book_room}
use Rattle.ak_port.proofs.port.try_take.Goals as goal

pub take-tried-requires-clause-unrested : goal.take-tried-requires-clause-unrested
take-tried-requires-clause-unrested g c port =
    let turn = c.lock-turn.ensures in
    book_unrested c.args.clock.now.thread _ _ _ c.lock-turn.result.book c.book.result.now c.book.ensures.value turn.list turn.opening c.requires.taking turn.seen turn.known c.requires.thread port

pub take-tried-requires-clause-room : goal.take-tried-requires-clause-room
take-tried-requires-clause-room g c port =
    let turn = c.lock-turn.ensures in
    let fits : (state_of c.book.result.now.entries).capacity ≤ deque_capacity c.args.out.now - deque_len c.args.out.now =
    book_room c.args.clock.now.thread _ _ _ c.lock-turn.result.book c.book.result.now c.book.ensures.value turn.list turn.opening c.requires.taking turn.seen port in
    omega arith
