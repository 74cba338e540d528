use Rattle.std.proofs.Common.{◌≡◌, ◌++◌, take}
use Rattle.ak_world.specs.Merged.{desk_entries, each_from}
use Rattle.ak_world.proofs.listing.put_desks.Given as goal

abbrev pub invariant-loop-place : goal.invariant-loop-place
invariant-loop-place l = l.out.items ≡ l.fn.out.items ++ each_from desk_entries 0 (take l.place l.desks)
