-- So many copies are made.
use Rattle.std.proofs.Common.{◌≡◌, length}
use Rattle.std.specs.List.{All}
use Rattle.ak_message.specs.Seen.{value_of}
use Rattle.ak_value.proofs.access.copies_of.Given as goal

abbrev pub invariant-loop : goal.invariant-loop
invariant-loop l =
    record {
      equal : All (λ v. value_of v ≡ value_of l.value) l.copies.items;
      len : length l.copies.items ≡ l.counter;
    }
