-- What is still to be taken in leads there still, and once it is taken in, all is.
use Rattle.std.proofs.Common.{List, All}
use Rattle.ak_gather.specs.declared.gathering.Joined.{Joined}
use Rattle.ak_gather.specs.Gathering.{AreGaining, AreTakenIn, AreWaysIn}
use Rattle.ak_gather.proofs.gathering.take_all_ways.Given as goal

abbrev pub invariant-loop-ways : goal.invariant-loop-ways
invariant-loop-ways l = record {
  gaining : AreGaining l.fn.loopers.items l.loopers.items;
  there : All (AreWaysIn l.loopers.items) l.ways-iterator.rest.items;
  taken : (later : List Joined) → AreGaining l.loopers.items later → All (AreTakenIn later) l.ways-iterator.rest.items → All (AreTakenIn later) l.fn.all.items;
}
