-- The name is a word of its own, and there is room.
use Rattle.std.proofs.Common.{◌≡◌, ◌<◌, true, false, length, arith}
use Rattle.std.proofs.lemmas.Grind.{common_steps}
use Rattle.ak_base.specs.Word.{is_word}
use Rattle.ak_action.specs.Template.{has_name}
use Rattle.ak_action.proofs.Fields.{added}
use Rattle.ak_action.proofs.template.TemplateFields.add.Goals as goal

pub invariant_of-self-2 : goal.invariant_of-self-2
invariant_of-self-2 c =
    let word : is_word c.args.field.name ≡ true = grind (arith, common_steps) in
    let none : has_name c.self.inside.list.items c.args.field.name ≡ false = grind (arith, common_steps) in
    let room : length c.self.inside.list.items < 64 = grind (arith, common_steps) in
    added _ _ _ c.in_ok-push.ensures.items word none room c.self.invariant
