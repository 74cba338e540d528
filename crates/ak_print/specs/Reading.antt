-- Reading back what is printed of a message
use Rattle.std.specs.Prelude.{◌≡◌, List, ℕ, ◌∷◌, [], ◌++◌, Option, Some, None, codes}
use Rattle.ak_base.specs.declared.limited.Limited.{Limited}
use Rattle.ak_base.specs.declared.limited.Limited.TheVariants.{Within}
use Rattle.ak_message.specs.Message.{ValueData, message_value, MessageData, message_of_nested}
use Rattle.ak_input.specs.MessageText.{message_text}
use Rattle.ak_message.specs.Popped.{IsUnpopped}
use Rattle.ak_message.specs.Whole.{IsWhole}

-- These bytes are what is printed of the message. It is within the limits at every depth, as all messages that exist are, and
-- nothing of it is popped, at any depth.
pub record IsPrintedOf (m : MessageData) (text : List ℕ) : Type 0 where
  pub printed : message_text m ≡ text
  pub whole : IsWhole m
  pub unpopped : IsUnpopped m

-- the bytes in braces, as a field's value of messages has them
abbrev pub in_braces : List ℕ → List ℕ
in_braces text = codes "MSGG:{" ++ text ++ 125 ∷ []

-- the message that was read, where a value was and is one
abbrev pub message_among : Option (Limited ValueData) → Option MessageData
message_among (Some (Within (message_value what fields popped))) = Some (message_of_nested what fields popped)
message_among _ = None
