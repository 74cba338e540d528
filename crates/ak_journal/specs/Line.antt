-- The line of an entry, as `4 l0 port 0 took 1`
use Rattle.std.specs.Prelude.{ℕ, List, [], ◌∷◌, ◌++◌, codes}
use Rattle.std.specs.Fmt.{decimal}
use Rattle.ak_journal.specs.declared.entry.Entry.{Entry}
use Rattle.ak_journal.specs.declared.entry.Event.{Event}
use Rattle.ak_journal.specs.declared.entry.Event.TheVariants as event
use Rattle.ak_journal.specs.declared.entry.ObjectName.{ObjectName}
use Rattle.ak_journal.specs.declared.entry.ObjectName.TheVariants as object
use Rattle.ak_journal.specs.BookLine.{book_words}
use Rattle.ak_journal.specs.DeskLine.{desk_words}
use Rattle.ak_journal.specs.Parts.{joined, thread_text}
use Rattle.ak_journal.specs.PortLine.{port_words}
use Rattle.ak_journal.specs.RosterLine.{roster_words}

abbrev pub object_words : ObjectName → List (List ℕ)
object_words (object.Port looper) = codes "port" ∷ decimal looper ∷ []
object_words (object.Desk looper) = codes "desk" ∷ decimal looper ∷ []
object_words object.Book = codes "book" ∷ []
object_words object.Roster = codes "roster" ∷ []

abbrev pub event_words : Event → List (List ℕ)
event_words (event.Port e) = port_words e
event_words (event.Desk e) = desk_words e
event_words (event.Book e) = book_words e
event_words (event.Roster e) = roster_words e

-- the stamp, the thread, the object, and what was done to it
abbrev pub entry_words : Entry → List (List ℕ)
entry_words entry = decimal entry.stamp ∷ thread_text entry.by.0 ∷ (object_words entry.object ++ event_words entry.event)

-- the line, without its end
abbrev pub entry_line : Entry → List ℕ
entry_line entry = joined (entry_words entry)
