-- What holds of each line that is printed.
use Rattle.std.specs.Prelude.{◌≡◌, ℕ, ◌==◌, List, ◌∷◌, count_by, map, Some, codes}
use Rattle.ak_base.specs.declared.limited.Limited.TheVariants.{Within}
use Rattle.ak_input.specs.declared.line.Word.{Word}
use Rattle.ak_message.specs.Message.{MessageData}
use Rattle.ak_input.specs.MessageText.{message_words}
use Rattle.ak_message.specs.Popped.{unpopped}
use Rattle.ak_input.specs.Reading.{read_message}
use Rattle.ak_message.specs.Whole.{IsWhole}
use Rattle.ak_input.specs.Words.{IsLine}
use Rattle.ak_print.specs.declared.told.Told.{Told}
use Rattle.ak_print.specs.declared.told.Told.TheVariants as told
use Rattle.ak_print.specs.Told.{told_text}

-- the reply, if it is one, is within the limits at every depth, as every message is
abbrev pub IsWholeOutcome : Told → Type 0
IsWholeOutcome (told.Reply m) = IsWhole m
IsWholeOutcome _ = Unit {0}

-- behind the text of an outcome its line has an LF; in that text none is
abbrev pub OutcomesAreLines : Type 0
OutcomesAreLines = (t : Told) → IsWholeOutcome t → count_by (λ (b : ℕ). b == 10) (told_text t) ≡ 0

-- the line of a reply has the word `reply` and then those of the message, which are read as the message with nothing popped
abbrev pub PrintedRepliesAreRead : Type 0
PrintedRepliesAreRead =
    (m : MessageData)
    → IsWhole m
    → (words : List Word)
    × IsLine 1 (told_text (told.Reply m)) words
    × (map (λ (word : Word). word.bytes) words ≡ codes "reply" ∷ message_words m)
    × (read_message (message_words m) ≡ Some (Within (unpopped m)))
