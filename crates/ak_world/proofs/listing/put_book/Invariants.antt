use Rattle.std.proofs.Common.{◌≡◌, ◌++◌, map, take}
use Rattle.ak_world.proofs.listing.put_book.Given as goal

abbrev pub invariant-loop-place : goal.invariant-loop-place
invariant-loop-place g l =
    l.out.items ≡ l.fn.out.items ++ map (λ entry. g.B.Listed.listed l.object (g.B.Book.plain entry)) (take l.place (g.B.Book.entries l.book))
