-- What is made so far, and what is left, makes up all of it.
use Rattle.std.proofs.Common.{◌≡◌, ◌++◌}
use Rattle.std.specs.List.{All}
use Rattle.ak_describe.specs.Described.{plan_rows, HasRoom}
use Rattle.ak_describe.specs.Seen.{rows_data}
use Rattle.ak_describe.proofs.described.plan_rows.Given as goal

abbrev pub invariant-loop-row : goal.invariant-loop-row
invariant-loop-row l =
    record {
      made : l.plans.items ++ plan_rows (rows_data l.row-iterator.rest.items) ≡ plan_rows (rows_data l.fn.rows.items);
      whole : All HasRoom (rows_data l.row-iterator.rest.items);
    }
