-- All entries of a run, as one list.
use Rattle.std.specs.Prelude.{ℕ, suc, Bool, List, [], ◌∷◌, ◌++◌, map}
use Rattle.std.specs.List.Sorted.{IsSortedBy, IsStableBy}
use Rattle.std.specs.Ordering.{is_lt, nat_cmp, on, then_cmp}
use Rattle.ak_roster.specs.declared.entry.RosterEntry.{RosterEntry}
use Rattle.ak_port.specs.declared.port_entry.PortEntry.{PortEntry}
use Rattle.ak_port.specs.declared.reply_entry.ReplyEntry.{ReplyEntry}
use Rattle.ak_port.specs.PortCalls.{PortData}
use Rattle.ak_desk.specs.declared.entry.DeskEntry.{DeskEntry}
use Rattle.ak_desk.specs.Desk.{DeskData}
use Rattle.ak_desk.specs.Entry.{EntryData}
use Rattle.ak_diary.specs.declared.histories.Histories.{Histories}
use Rattle.ak_journal.specs.declared.entry.Entry.{Entry}
use Rattle.ak_journal.specs.declared.entry.Event.TheVariants as event
use Rattle.ak_journal.specs.declared.entry.ObjectName.{ObjectName}
use Rattle.ak_journal.specs.declared.entry.ObjectName.TheVariants as object

-- ---- an entry of an object, as the journal has it
abbrev pub roster_entry : RosterEntry → Entry
roster_entry entry = record { stamp = entry.stamp; by = entry.by; object = object.Roster; event = event.Roster entry.event }

abbrev pub book_entry : ObjectName → ReplyEntry → Entry
book_entry name entry = record { stamp = entry.stamp; by = entry.by; object = name; event = event.Book entry.event }

abbrev pub port_entry : ObjectName → PortEntry → Entry
port_entry name entry = record { stamp = entry.stamp; by = entry.by; object = name; event = event.Port entry.event }

abbrev pub desk_entry : ObjectName → DeskEntry → Entry
desk_entry name entry = record { stamp = entry.stamp; by = entry.by; object = name; event = event.Desk entry.event }

-- ---- those of all objects, one object after the other
-- of each thing in a list, by its number from that one on
abbrev pub each_from : {T : Type 0} → (ℕ → T → List Entry) → ℕ → List T → List Entry
each_from list number [] = []
each_from list number (thing ∷ things) = list number thing ++ each_from list (suc number) things

abbrev pub port_entries : ℕ → PortData → List Entry
port_entries number port = map (λ (entry : PortEntry). port_entry (object.Port number) entry) port.entries

abbrev pub desk_entries : ℕ → DeskData → List Entry
desk_entries number desk = map (λ (entry : EntryData). desk_entry (object.Desk number) entry.plain) desk.entries

-- the roster, the reply book, the ports and the desks
abbrev pub entries_of : Histories → List Entry
entries_of h =
    map roster_entry h.roster.items
    ++ (map (λ (entry : ReplyEntry). book_entry object.Book entry) h.book ++ (each_from port_entries 0 h.ports.items ++ each_from desk_entries 0 h.desks.items))

-- ---- in order
abbrev pub stamp_of : Entry → ℕ
stamp_of entry = entry.stamp

abbrev pub thread_of : Entry → ℕ
thread_of entry = entry.by.0

-- by the stamp, and then by the thread
abbrev pub is_before : Entry → Entry → Bool
is_before a b = is_lt (then_cmp (on stamp_of nat_cmp) (on thread_of nat_cmp) a b)

-- All that was done at the objects of a run: no entry stands behind one that it is before; and of each stamp and each thread there are just those
-- that the objects have, in the same order
pub record IsMerged (h : Histories) (entries : List Entry) : Type 0 where
  pub ordered : IsSortedBy is_before entries
  pub each : IsStableBy is_before (entries_of h) entries
