-- What is still to be taken in leads there still, and once it is taken in, all is.
use Rattle.std.proofs.Common.{List, All}
use Rattle.ak_gather.specs.declared.gathering.Joined.{Joined}
use Rattle.ak_gather.specs.Gathering.{AreGaining, IsTakenIn, IsWayIn}
use Rattle.ak_gather.proofs.gathering.take_ways.Given as goal

abbrev pub invariant-loop-number : goal.invariant-loop-number
invariant-loop-number l = record {
  gaining : AreGaining l.fn.loopers.items l.loopers.items;
  there : All (IsWayIn l.loopers.items) l.number-iterator.rest.items;
  taken : (later : List Joined) → AreGaining l.loopers.items later → All (IsTakenIn later) l.number-iterator.rest.items → All (IsTakenIn later) l.fn.ways.items;
}
