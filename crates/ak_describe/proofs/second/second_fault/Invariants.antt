-- The names so far and those to come are all.
use Rattle.std.proofs.Common.{◌≡◌, drop}
use Rattle.ak_describe.specs.Led.{led_fault, chains_of}
use Rattle.ak_describe.specs.Seen.{apps_data}
use Rattle.ak_describe.proofs.second.second_fault.Given as goal

abbrev pub invariant-loop-named : goal.invariant-loop-named
invariant-loop-named l =
    led_fault (apps_data l.apps) l.chains (drop l.named-index l.names) ≡ led_fault (apps_data l.apps) (chains_of 0 0) l.names
