use Rattle.std.proofs.Common.{length, arith, refl}
use Rattle.std.proofs.lemmas.Option.{slice_get_read}
use Rattle.ak_world.specs.Merged.{port_entries}
use Rattle.ak_world.proofs.InOrder.{one_thing_more}
use Rattle.ak_world.proofs.listing.put_ports.Goals as goal

pub loop-place-preserved : goal.loop-place-preserved
loop-place-preserved c =
    one_thing_more port_entries c.args.ports.now c.loop-place.place _ c.in_ok-number_of.field-0 c.index-ports-place.result c.args.out.now.items c.loop-place.out.items c.put_book.new.out.items
    (omega (arith)) (slice_get_read c.args.ports.now (length c.args.ports.now) c.loop-place.place c.index-ports-place.result refl c.loop-place-test.true c.index-ports-place.is) c.in_ok-number_of.ensures c.loop-place.invariant c.in_ok-put_book.ensures
