use Rattle.std.proofs.Common.{length, arith, refl}
use Rattle.std.proofs.lemmas.Option.{slice_get_read}
use Rattle.ak_world.specs.Merged.{desk_entries}
use Rattle.ak_world.proofs.InOrder.{one_thing_more}
use Rattle.ak_world.proofs.listing.put_desks.Goals as goal

pub loop-place-preserved : goal.loop-place-preserved
loop-place-preserved c =
    one_thing_more desk_entries c.args.desks.now c.loop-place.place _ c.in_ok-number_of.field-0 c.index-desks-place.result c.args.out.now.items c.loop-place.out.items c.put_book.new.out.items
    (omega (arith)) (slice_get_read c.args.desks.now (length c.args.desks.now) c.loop-place.place c.index-desks-place.result refl c.loop-place-test.true c.index-desks-place.is) c.in_ok-number_of.ensures c.loop-place.invariant c.in_ok-put_book.ensures
