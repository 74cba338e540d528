use Rattle.std.proofs.Common.{◌∙◌, ap, List, ℕ, ◌∷◌}
use Rattle.std.specs.Prelude.{codes}
use Rattle.ak_input.specs.MessageText.{message_text}
use Rattle.ak_print.proofs.Words.{behind_reply}
use Rattle.ak_print.proofs.laws.printed_replies_are_read.Goals as goal

pub returns : goal.returns
returns c =
    λ m whole.
    let words = c.printed_messages_are_read.ensures.words m whole in
    let all = behind_reply (message_text m) words.0 words.1 in
    (all.0, all.1, all.2 ∙ ap (λ (texts : List (List ℕ)). codes "reply" ∷ texts) words.2, c.printed_messages_are_read.ensures.without_popped m whole)
