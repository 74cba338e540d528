-- The elements before the place have the value, and for each of the others there is a copy.
use Rattle.std.proofs.Common.{◌≡◌, ◌+◌, ◌≤◌, length}
use Rattle.std.specs.List.{All}
use Rattle.ak_message.specs.Seen.{value_of}
use Rattle.ak_value.specs.Access.{with_value}
use Rattle.ak_value.specs.Seen.{elements_of_list}
use Rattle.ak_value.proofs.Parts.{changed_within}
use Rattle.ak_value.proofs.access.put_in.Given as goal

abbrev pub invariant-loop-copy : goal.invariant-loop-copy
invariant-loop-copy l =
    record {
      put : elements_of_list l.list.items ≡ changed_within (with_value (value_of l.value)) l.fn.part.from l.place (elements_of_list l.fn.list.items);
      copies : All (λ v. value_of v ≡ value_of l.value) l.copy-iterator.rest.items;
      left : l.place + length l.copy-iterator.rest.items ≡ l.fn.part.from + l.fn.part.count;
      begun : l.fn.part.from ≤ l.place;
      len : length l.list.items ≡ length l.fn.list.items;
    }
