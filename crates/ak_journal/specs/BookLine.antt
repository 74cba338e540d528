-- The words of what was done to a slot of the reply book.
use Rattle.std.specs.Prelude.{ℕ, List, [], ◌∷◌, codes}
use Rattle.std.specs.Fmt.{decimal}
use Rattle.ak_port.specs.declared.reply_entry.ReplyEvent.{ReplyEvent}
use Rattle.ak_port.specs.declared.reply_entry.ReplyEvent.TheVariants as event
use Rattle.ak_journal.specs.Parts.{flat_text}

abbrev pub book_words : ReplyEvent → List (List ℕ)
book_words (event.Opened n) = codes "opened" ∷ decimal n ∷ []
book_words (event.Filled n flat) = codes "filled" ∷ decimal n ∷ flat_text flat ∷ []
book_words (event.Cancelled n) = codes "cancelled" ∷ decimal n ∷ []
book_words (event.Taken n) = codes "taken" ∷ decimal n ∷ []
