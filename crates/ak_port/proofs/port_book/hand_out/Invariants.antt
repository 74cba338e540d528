-- so many of the oldest were handed out
use Rattle.std.proofs.Common.{◌≡◌, ◌+◌, ◌++◌, take, drop}
use Rattle.std.specs.VecDeque.{deque_len, deque_capacity}
use Rattle.ak_port.specs.PortMachine.{numbered}
use Rattle.ak_port.proofs.port_book.hand_out.Given as goal

abbrev pub invariant-loop-k : goal.invariant-loop-k
invariant-loop-k l = record {
  pending : l.pending.items ≡ drop l.k l.fn.pending.items;
  pending_len : deque_len l.pending + l.k ≡ deque_len l.fn.pending;
  pending_room : deque_capacity l.pending ≡ deque_capacity l.fn.pending;
  out : l.out.items ≡ l.fn.out.items ++ numbered l.first (take l.k l.fn.pending.items);
  out_len : deque_len l.out ≡ deque_len l.fn.out + l.k;
  out_room : deque_capacity l.out ≡ deque_capacity l.fn.out;
}
