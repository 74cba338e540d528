use Rattle.std.proofs.Common.{◌≡◌, ◌++◌, map, take}
use Rattle.ak_world.specs.Merged.{roster_entry}
use Rattle.ak_world.proofs.listing.put_roster.Given as goal

abbrev pub invariant-loop-entry : goal.invariant-loop-entry
invariant-loop-entry l = l.out.items ≡ l.fn.out.items ++ map roster_entry (take l.entry-index l.entries)
