-- So far the entries before that place are counted.
use Rattle.std.proofs.Common.{◌≡◌, ◌≤◌, take}
use Rattle.ak_desk.specs.Machine.{counted_all, gave_up}
use Rattle.desk_rows.proofs.conditions.counts_of.Given as goal

abbrev pub invariant-loop-place : goal.invariant-loop-place
invariant-loop-place l =
    record {
      dispatches : l.counts.dispatches ≡ counted_all 0 (take l.place l.desk.entries);
      gave_up : l.counts.gave_up ≡ gave_up (take l.place l.desk.entries);
      within : l.counts.dispatches ≤ l.place;
    }
