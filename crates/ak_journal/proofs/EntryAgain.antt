-- The line of a legible entry is read as that entry.
use Rattle.std.proofs.Common.{◌≡◌, ℕ, List, ◌++◌, Some, None, refl, sym, ap, ◌∙◌}
use Rattle.ak_base.proofs.Surface.{some_is}
use Rattle.ak_journal.specs.declared.entry.Entry.{Entry}
use Rattle.ak_journal.specs.declared.entry.Event.{Event}
use Rattle.ak_journal.specs.declared.entry.Event.TheVariants as event
use Rattle.ak_journal.specs.declared.entry.ObjectName.{ObjectName}
use Rattle.ak_journal.specs.declared.entry.ObjectName.TheVariants as object
use Rattle.ak_journal.specs.Line.{entry_line, entry_words, event_words, object_words}
use Rattle.ak_journal.specs.Parting.{parted}
use Rattle.ak_journal.specs.Legible.{IsLegible, IsLegibleAt}
use Rattle.ak_journal.specs.Reading.{IsPrintedOf, done_at, entry_of}
use Rattle.ak_journal.proofs.BookAgain.{book_again}
use Rattle.ak_journal.proofs.DarkWords.{entry_dark}
use Rattle.ak_journal.proofs.DeskAgain.{desk_again}
use Rattle.ak_journal.proofs.Numbers.{thread_again, u32_again, u64_again}
use Rattle.ak_journal.proofs.Parted.{parted_again}
use Rattle.ak_journal.proofs.PortAgain.{port_again}
use Rattle.ak_journal.proofs.RosterAgain.{roster_again}

done_again : (at : ObjectName) (what : Event) → IsLegibleAt at what → done_at (object_words at ++ event_words what) ≡ Some (at, what)
done_again (object.Port looper) (event.Port p) legible = rw (u32_again looper legible.0, port_again p legible.1) refl
done_again (object.Desk looper) (event.Desk d) legible = rw (u32_again looper legible.0, desk_again d legible.1) refl
done_again object.Book (event.Book b) legible = rw (book_again b legible) refl
done_again object.Roster (event.Roster r) legible = rw (roster_again r legible) refl
done_again (object.Port looper) (event.Desk d) legible = absurd legible
done_again (object.Port looper) (event.Book b) legible = absurd legible
done_again (object.Port looper) (event.Roster r) legible = absurd legible
done_again (object.Desk looper) (event.Port p) legible = absurd legible
done_again (object.Desk looper) (event.Book b) legible = absurd legible
done_again (object.Desk looper) (event.Roster r) legible = absurd legible
done_again object.Book (event.Port p) legible = absurd legible
done_again object.Book (event.Desk d) legible = absurd legible
done_again object.Book (event.Roster r) legible = absurd legible
done_again object.Roster (event.Port p) legible = absurd legible
done_again object.Roster (event.Desk d) legible = absurd legible
done_again object.Roster (event.Book b) legible = absurd legible

words_again : (entry : Entry) → IsLegible entry → entry_of (entry_words entry) ≡ Some entry
words_again entry legible =
    rw (u64_again entry.stamp legible.stamp, thread_again entry.by.0 legible.by, done_again entry.object entry.event legible.done) refl

pub entry_again : (entry : Entry) → IsLegible entry → entry_of (parted (entry_line entry)) ≡ Some entry
entry_again entry legible =
    let dark = entry_dark entry legible in
    ap entry_of (parted_again _ _ dark.0 dark.1) ∙ words_again entry legible

-- ---- reading a line
pub reads : (entry : Entry) (line : List ℕ) → IsPrintedOf entry line → entry_of (parted line) ≡ Some entry
reads entry line is = ap (λ (l : List ℕ). entry_of (parted l)) (sym is.printed) ∙ entry_again entry is.legible

-- where nothing is read
pub is_none : (entry : Entry) (line : List ℕ) → None ≡ entry_of (parted line) → IsPrintedOf entry line → ⊥
is_none entry line none is = let both : None ≡ Some entry = none ∙ reads entry line is in absurd cc

-- where what is read is printed otherwise
pub is_other : (entry found : Entry) (line : List ℕ) → Some found ≡ entry_of (parted line) → (entry_line found ≡ line → ⊥) → IsPrintedOf entry line → ⊥
is_other entry found line read other is =
    let same = some_is found entry (read ∙ reads entry line is) in
    other (ap entry_line same ∙ is.printed)
