-- Reading an entry of the words of a line.
use Rattle.std.specs.Prelude.{◌≡◌, ℕ, if◌then◌else◌, List, codes, Option, Some, None}
use Rattle.std.specs.Str.{bytes_eq}
use Rattle.ak_base.specs.Option.{◌>>=◌}
use Rattle.ak_base.specs.declared.thread.ThreadId.{ThreadId}
use Rattle.ak_journal.specs.declared.entry.Entry.{Entry}
use Rattle.ak_journal.specs.declared.entry.Event.{Event}
use Rattle.ak_journal.specs.declared.entry.Event.TheVariants as event
use Rattle.ak_journal.specs.declared.entry.ObjectName.{ObjectName}
use Rattle.ak_journal.specs.declared.entry.ObjectName.TheVariants as object
use Rattle.ak_journal.specs.Line.{entry_line}
use Rattle.ak_journal.specs.Legible.{IsLegible}
use Rattle.ak_journal.specs.ReadBook.{book_event}
use Rattle.ak_journal.specs.ReadDesk.{desk_event}
use Rattle.ak_journal.specs.ReadParts.{first_of, thread_at, u32_at, u64_at}
use Rattle.ak_journal.specs.ReadPort.{port_event}
use Rattle.ak_journal.specs.ReadRoster.{roster_event}

-- the line is what is printed of the legible entry
pub record IsPrintedOf (entry : Entry) (line : List ℕ) : Type 0 where
  pub printed : entry_line entry ≡ line
  pub legible : IsLegible entry

-- ---- an object and its event
abbrev pub at_port : List (List ℕ) → Option (ObjectName × Event)
at_port words = u32_at words >>= λ looper. port_event looper.1 >>= λ e. Some (object.Port looper.0, event.Port e)

abbrev pub at_desk : List (List ℕ) → Option (ObjectName × Event)
at_desk words = u32_at words >>= λ looper. desk_event looper.1 >>= λ e. Some (object.Desk looper.0, event.Desk e)

abbrev pub at_book : List (List ℕ) → Option (ObjectName × Event)
at_book words = book_event words >>= λ e. Some (object.Book, event.Book e)

abbrev pub at_roster : List (List ℕ) → Option (ObjectName × Event)
at_roster words = roster_event words >>= λ e. Some (object.Roster, event.Roster e)

abbrev pub done_by : List ℕ → List (List ℕ) → Option (ObjectName × Event)
done_by key words =
    if bytes_eq key (codes "port") then at_port words
    else if bytes_eq key (codes "desk") then at_desk words
    else if bytes_eq key (codes "book") then at_book words
    else if bytes_eq key (codes "roster") then at_roster words
    else None

abbrev pub done_at : List (List ℕ) → Option (ObjectName × Event)
done_at words = first_of words >>= λ key. done_by key.0 key.1

-- ---- entries
abbrev pub entry_with : ℕ → ThreadId → ObjectName × Event → Entry
entry_with stamp thread done = record { stamp = stamp; by = thread; object = done.0; event = done.1 }

abbrev pub entry_of : List (List ℕ) → Option Entry
entry_of words = u64_at words >>= λ stamp. thread_at stamp.1 >>= λ thread. done_at thread.1 >>= λ done. Some (entry_with stamp.0 thread.0 done)
