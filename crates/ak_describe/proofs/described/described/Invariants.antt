-- What is made so far, and what is left, makes up all of it.
use Rattle.std.proofs.Common.{◌≡◌, ◌++◌}
use Rattle.ak_describe.specs.Described.{described, AreWhole}
use Rattle.ak_describe.specs.Seen.{apps_data}
use Rattle.ak_describe.proofs.described.described.Given as goal

abbrev pub invariant-loop-app : goal.invariant-loop-app
invariant-loop-app l =
    record {
      made : l.texts.items ++ described (apps_data l.app-iterator.rest.items) ≡ described (apps_data l.fn.apps.items);
      whole : AreWhole (apps_data l.app-iterator.rest.items);
    }
