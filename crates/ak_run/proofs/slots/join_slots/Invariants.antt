-- Main's seats know what those so far knew, and the rest are closed; once they are joined, all are.
use Rattle.std.proofs.Common.{◌+◌, ◌≤◌, ℕ, List, ◌++◌, length, map, All, vec_capacity}
use Rattle.std.specs.Prelude.{Vec}
use Rattle.std.specs.declared.alloc.Global.{Global}
use Rattle.ak_port.specs.ReplySeats.{ReplySeat}
use Rattle.ak_looper.specs.declared.door.Door.{Door}
use Rattle.ak_looper.specs.Rosters.{RosterSeat}
use Rattle.ak_gather.specs.Gathering.{GoesOnKnowing}
use Rattle.ak_run.specs.Sessions.{AreSessionsJoined, IsClosedAt, told_in, told_of}
use Rattle.ak_run.proofs.slots.join_slots.Given as goal

abbrev pub invariant-loop-slot : goal.invariant-loop-slot
invariant-loop-slot l = record {
  roster : GoesOnKnowing l.fn.roster_seat l.roster_seat;
  book : GoesOnKnowing l.fn.book_seat l.book_seat;
  rest : All (IsClosedAt l.fn.roster l.fn.book) (map told_of l.slot-iterator.rest.items);
  joined : (roster : RosterSeat) (book : ReplySeat) (more : List (Vec (ℕ × Door) Global)) → GoesOnKnowing l.roster_seat roster → GoesOnKnowing l.book_seat book
      → AreSessionsJoined roster book (map told_of l.slot-iterator.rest.items) more → AreSessionsJoined roster book (told_in l.fn.slots) (l.ways.items ++ more);
  room : length l.ways.items + length l.slot-iterator.rest.items ≤ vec_capacity l.ways;
}
