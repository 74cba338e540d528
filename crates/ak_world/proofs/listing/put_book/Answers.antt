use Rattle.std.proofs.Common.{arith}
use Rattle.ak_world.proofs.InOrder.{one_more}
use Rattle.ak_world.proofs.listing.put_book.Goals as goal

pub loop-place-preserved : goal.loop-place-preserved
loop-place-preserved g c =
    one_more g.B.Book.plain (g.B.Listed.listed c.args.object) (g.B.Book.entries c.args.book.now) c.loop-place.place _ c.in_ok-plain.field-0 c.in-Some.plain c.list.result c.args.out.now.items c.loop-place.out.items c.push.new.self.items
    (omega (arith)) c.in_ok-plain.ensures c.in-Some.is c.list.ensures c.loop-place.invariant c.in_ok-push-in-Some.ensures.items
