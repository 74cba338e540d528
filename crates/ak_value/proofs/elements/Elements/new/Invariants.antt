-- What is numbered so far, and what is left, makes up all of it.
use Rattle.std.proofs.Common.{◌≡◌, ◌+◌, ◌++◌, length}
use Rattle.ak_value.specs.Elements.{numbered}
use Rattle.ak_value.specs.Seen.{pairs_of, elements_of_list}
use Rattle.ak_value.proofs.elements.Elements.new.Given as goal

abbrev pub invariant-loop-name : goal.invariant-loop-name
invariant-loop-name l =
    record {
      numbered : elements_of_list l.elements.items ++ numbered l.next_id (pairs_of l.name-iterator.rest.items) ≡ numbered 1 (pairs_of l.fn.list.items);
      next : l.next_id + length l.name-iterator.rest.items ≡ 1 + length l.fn.list.items;
    }
