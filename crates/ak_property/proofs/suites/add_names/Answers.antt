-- One more name has room, and stands behind the others.
use Rattle.std.proofs.Common.{◌<◌, codes, take, length, refl, ap, arith}
use Rattle.std.proofs.lemmas.List.{length-map, length-take}
use Rattle.ak_message.specs.Message.{MessageData}
use Rattle.ak_property.specs.declared.table.PropertyRow.{PropertyRow}
use Rattle.ak_property.specs.Suites.{names_of}
use Rattle.ak_property.proofs.Texts.{text-fits, texts-grown, map-one_more}
use Rattle.ak_property.proofs.suites.add_names.Goals as goal

pub add_fitting-requires : goal.add_fitting-requires
add_fitting-requires c =
    let rows = take c.loop-row.row-index c.args.rows.now in
    let few : length (names_of rows) < 255 = omega (arith, length-map rows (λ (row : PropertyRow). row.name), length-take c.loop-row.row-index c.args.rows.now) in
    let so_far = ap (λ (m : MessageData). m.fields) c.loop-row.invariant in
    rw so_far (text-fits c.args.reply.now.fields (codes "properties") (names_of rows) c.row-item.result.name refl c.requires.new c.requires.room few)

pub loop-row-preserved : goal.loop-row-preserved
loop-row-preserved c =
    let more = map-one_more (λ (row : PropertyRow). row.name) c.args.rows.now c.loop-row.row-index c.row-item.result c.loop-row-test.true c.row-item.is in
    texts-grown c.args.reply.now c.loop-row.reply c.add_fitting.new.self (codes "properties") _ _ _ c.in_ok-try_clone.field-0 c.requires.new c.loop-row.invariant c.in_ok-try_clone.ensures c.in_ok-add_fitting.ensures.ok more
