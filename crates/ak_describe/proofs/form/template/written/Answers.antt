-- Each field of a template finds room, and comes behind those before it.
use Rattle.std.proofs.Common.{◌≡◌, List, refl, ap, sym, subst, ◌∙◌}
use Rattle.ak_message.specs.Message.{FieldData, MessageData}
use Rattle.ak_action.specs.Building.{HasRoomFor, with_new}
use Rattle.ak_action.specs.Template.{AreTemplateFields}
use Rattle.ak_action.proofs.Surface.{AreMade, made-next, room-next}
use Rattle.ak_describe.specs.Actions.{written_values, written_fields}
use Rattle.ak_describe.proofs.form.template.written.Goals as goal

written_are : AreMade written_values written_fields
written_are = record { none = refl; more = λ g gs. refl }

pub write_field-requires : goal.write_field-requires
write_field-requires c =
    let fields = c.as_slice-list in
    let are : AreTemplateFields fields.result.now = subst AreTemplateFields (sym fields.ensures.value) fields.ensures.are_fields in
    subst (λ (fs : List FieldData). HasRoomFor fs c.field-item.result.name) (sym (ap (λ (n : MessageData). n.fields) c.loop-field.invariant)) (room-next written_values written_fields written_are fields.result.now c.loop-field.field-index c.field-item.result are c.loop-field-test.true c.field-item.is)

pub loop-field-preserved : goal.loop-field-preserved
loop-field-preserved c =
    let f = c.field-item.result in
    let next = made-next written_values written_fields written_are c.as_slice-list.result.now c.loop-field.field-index f c.loop-field-test.true c.field-item.is in
    let values = written_values f.given in
    let more : c.write_field.new.message ≡ with_new c.loop-field.message f.name values = c.in_ok-write_field.ensures in
    more ∙ ap (λ (n : MessageData). with_new n f.name values) c.loop-field.invariant ∙ ap (λ (fs : List FieldData). record { what = c.args.what.0; fields = fs; popped = 0 }) (sym next)
