-- A reply whose flat text spells it answers a want that is an ask.
use Rattle.std.proofs.Common.{ℕ, List, Option, subst}
use Rattle.ak_action.specs.declared.answer.Answer.TheVariants as answer
use Rattle.ak_action.specs.declared.answer.Want.{Want}
use Rattle.ak_desk.specs.Desk.{DeskAwaits}
use Rattle.ak_flatten.specs.Laws.{Spells}
use Rattle.run_lists.proofs.heard.hand_reply.Goals as goal

pub give-requires : goal.give-requires
give-requires c =
    subst (λ (w : Want). DeskAwaits w c.args.desk.now) c.in-Ask.is c.requires (answer.Reply c.in_ok-flat.flat c.in_ok-message.message)
    (λ (into : Option ℕ). subst (λ (bytes : List ℕ). Spells bytes c.in_ok-message.message) c.as_slice.ensures c.in_ok-message.ensures.spelled)
