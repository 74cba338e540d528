-- What is added so far, and what is left, makes up all of it, and has room.
use Rattle.std.proofs.Common.{◌≡◌, ◌+◌, ◌≤◌, ◌++◌, length}
use Rattle.ak_describe.specs.Described.{table_of, elements_of}
use Rattle.ak_describe.proofs.described.tables.Given as goal

abbrev pub invariant-loop-property : goal.invariant-loop-property
invariant-loop-property l =
    record {
      table : l.table ++ table_of l.property-iterator.rest.items ≡ table_of l.fn.properties.items;
      elements : l.all.items ++ elements_of l.property-iterator.rest.items ≡ elements_of l.fn.properties.items;
      room : length l.table + length l.property-iterator.rest.items ≤ 64;
    }
