-- What was done to a slot is read of its words.
use Rattle.std.proofs.Common.{◌≡◌, Some, refl}
use Rattle.ak_port.specs.declared.reply_entry.ReplyEvent.{ReplyEvent}
use Rattle.ak_port.specs.declared.reply_entry.ReplyEvent.TheVariants as event
use Rattle.ak_journal.specs.BookLine.{book_words}
use Rattle.ak_journal.specs.Legible.{IsLegibleBook}
use Rattle.ak_journal.specs.ReadBook.{book_event}
use Rattle.ak_journal.proofs.Numbers.{u64_again}
use Rattle.ak_journal.proofs.PortAgain.{flat_again}

pub book_again : (what : ReplyEvent) → IsLegibleBook what → book_event (book_words what) ≡ Some what
book_again (event.Opened n) legible = rw (u64_again n legible) refl
book_again (event.Filled n flat) legible = rw (u64_again n legible.0, flat_again flat legible.1.0, legible.1.1) refl
book_again (event.Cancelled n) legible = rw (u64_again n legible) refl
book_again (event.Taken n) legible = rw (u64_again n legible) refl
