use Rattle.std.proofs.Common.{◌≡◌, ◌++◌, take}
use Rattle.ak_world.specs.Merged.{port_entries, each_from}
use Rattle.ak_world.proofs.listing.put_ports.Given as goal

abbrev pub invariant-loop-place : goal.invariant-loop-place
invariant-loop-place l = l.out.items ≡ l.fn.out.items ++ each_from port_entries 0 (take l.place l.ports)
