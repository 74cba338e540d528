-- Those that are still to be taken in lead there still, where main's seats are no heads; and once they are taken in, all are heads.
use Rattle.std.proofs.Common.{◌≡◌, ℕ, ◌+◌, ◌≤◌, List, Some, length}
use Rattle.std.specs.Prelude.{slice_get}
use Rattle.ak_gather.specs.declared.gathering.Joined.{Joined}
use Rattle.ak_gather.specs.Gathering.{AreGaining, AreHeadsIn, AreKeptIn, IsNoHead}
use Rattle.ak_gather.proofs.gathering.take_kept.Given as goal

abbrev pub invariant-loop-door : goal.invariant-loop-door
invariant-loop-door l = record {
  gaining : AreGaining l.fn.loopers.items l.loopers.items;
  count : l.place + length l.door-iterator.rest.items ≡ length l.fn.kept.items;
  there : AreKeptIn l.loopers.items l.place l.door-iterator.rest.items;
  no_heads : (place : ℕ) (j : Joined) → l.place ≤ place → slice_get l.loopers.items place ≡ Some j → IsNoHead j;
  heads : (later : List Joined) → AreGaining l.loopers.items later → AreHeadsIn later l.place l.door-iterator.rest.items → AreHeadsIn later 0 l.fn.kept.items;
}
