-- Each field of a template finds room, and comes behind those before it.
use Rattle.std.proofs.Common.{◌≡◌, List, ap, sym, subst, ◌∙◌}
use Rattle.ak_message.specs.Message.{FieldData, MessageData}
use Rattle.ak_action.specs.Building.{HasRoomFor, built_fields, given_values, with_new}
use Rattle.ak_action.specs.Template.{AreTemplateFields}
use Rattle.ak_action.proofs.Growing.{built_are, made-next, room-next}
use Rattle.ak_action.proofs.building.built.Goals as goal

pub add_field-requires : goal.add_field-requires
add_field-requires c =
    let fields = c.as_slice-fields in
    let are : AreTemplateFields fields.result.now = subst AreTemplateFields (sym fields.ensures.value) fields.ensures.are_fields in
    subst (λ (fs : List FieldData). HasRoomFor fs c.field-item.result.name) (sym (ap (λ (n : MessageData). n.fields) c.loop-field.invariant)) (room-next (given_values c.args.row.now c.args.m.now) (built_fields c.args.row.now c.args.m.now) (built_are c.args.row.now c.args.m.now) fields.result.now c.loop-field.field-index c.field-item.result are c.loop-field-test.true c.field-item.is)

pub loop-field-preserved : goal.loop-field-preserved
loop-field-preserved c =
    let f = c.field-item.result in
    let next =
    made-next (given_values c.args.row.now c.args.m.now) (built_fields c.args.row.now c.args.m.now) (built_are c.args.row.now c.args.m.now) c.as_slice-fields.result.now c.loop-field.field-index f c.loop-field-test.true c.field-item.is in
    let values = given_values c.args.row.now c.args.m.now f.given in
    let more : c.add_field.new.message ≡ with_new c.loop-field.message f.name values = c.in_ok-add_field.ensures in
    more ∙ ap (λ (n : MessageData). with_new n f.name values) c.loop-field.invariant ∙ ap (λ (fs : List FieldData). record { what = c.args.template.now.what.0; fields = fs; popped = 0 }) (sym next)
