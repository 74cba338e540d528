-- What is added so far, and what is left, makes up all of it, and has room.
use Rattle.std.proofs.Common.{◌≡◌, ◌+◌, ◌≤◌, ◌++◌, length}
use Rattle.ak_describe.proofs.described.reaction_list.Given as goal

abbrev pub invariant-loop-reaction : goal.invariant-loop-reaction
invariant-loop-reaction l =
    record {
      added : l.list ++ l.reaction-iterator.rest.items ≡ l.fn.reactions.items;
      room : length l.list + length l.reaction-iterator.rest.items ≤ 64;
    }
