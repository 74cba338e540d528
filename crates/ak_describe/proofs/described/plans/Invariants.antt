-- What is made so far, and what is left, makes up all of it.
use Rattle.std.proofs.Common.{◌≡◌, ◌++◌}
use Rattle.std.specs.List.{All}
use Rattle.ak_describe.specs.Described.{plans, IsWhole}
use Rattle.ak_describe.specs.Seen.{loopers_data}
use Rattle.ak_describe.proofs.described.plans.Given as goal

abbrev pub invariant-loop-looper : goal.invariant-loop-looper
invariant-loop-looper l =
    record {
      made : l.plans.items ++ plans (loopers_data l.looper-iterator.rest.items) ≡ plans (loopers_data l.fn.loopers.items);
      whole : All IsWhole (loopers_data l.looper-iterator.rest.items);
    }
