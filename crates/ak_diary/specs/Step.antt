-- What a thread did at the objects that threads share, step by step.
use Rattle.std.specs.Prelude.{◌≡◌, ℕ, ◌+◌, ◌==◌, max, Bool, true, false, List, [], ◌∷◌, if◌then◌else◌}
use Rattle.std.specs.List.{flat_map, list_any}
use Rattle.ak_turn.specs.Entries.{last_stamp_of}
use Rattle.ak_turn.specs.Noted.{Noted}
use Rattle.ak_roster.specs.declared.entry.RosterEntry.{RosterEntry}
use Rattle.ak_port.specs.declared.port_entry.PortEntry.{PortEntry}
use Rattle.ak_port.specs.declared.reply_entry.ReplyEntry.{ReplyEntry}
use Rattle.ak_port.specs.PortCalls as at_ports
use Rattle.ak_port.specs.ReplySeats as at_books
use Rattle.ak_desk.specs.Desk as at_desks
use Rattle.ak_desk.specs.Entry.{EntryData}

pub data Step : Type 0 where
  -- it made an entry, at the roster, at the reply book, at the port of the looper with that number, or at its desk
  at_roster : Noted RosterEntry → Step
  at_book : Noted ReplyEntry → Step
  at_port : ℕ → Noted PortEntry → Step
  at_desk : ℕ → Noted EntryData → Step
  -- it had a turn and made no entry, since what was to be done was done: this was the object's list
  saw_roster : List RosterEntry → Step
  saw_book : List ReplyEntry → Step
  saw_port : ℕ → List PortEntry → Step
  -- it found no memory
  lacked : Step

-- ---- what it did at each object
abbrev pub roster_entry : Step → List (Noted RosterEntry)
roster_entry (at_roster n) = n ∷ []
roster_entry _ = []

abbrev pub book_entry : Step → List (Noted ReplyEntry)
book_entry (at_book n) = n ∷ []
book_entry _ = []

abbrev pub port_entry : ℕ → Step → List (Noted PortEntry)
port_entry looper (at_port number n) = if number == looper then n ∷ [] else []
port_entry looper _ = []

abbrev pub desk_entry : ℕ → Step → List (Noted EntryData)
desk_entry looper (at_desk number n) = if number == looper then n ∷ [] else []
desk_entry looper _ = []

abbrev pub roster_entries : List Step → List (Noted RosterEntry)
roster_entries steps = flat_map roster_entry steps

abbrev pub book_entries : List Step → List (Noted ReplyEntry)
book_entries steps = flat_map book_entry steps

abbrev pub port_entries : ℕ → List Step → List (Noted PortEntry)
port_entries looper steps = flat_map (port_entry looper) steps

abbrev pub desk_entries : ℕ → List Step → List (Noted EntryData)
desk_entries looper steps = flat_map (desk_entry looper) steps

-- ---- the lists that it saw without an entry
abbrev pub roster_sight : Step → List (List RosterEntry)
roster_sight (saw_roster seen) = seen ∷ []
roster_sight _ = []

abbrev pub book_sight : Step → List (List ReplyEntry)
book_sight (saw_book seen) = seen ∷ []
book_sight _ = []

abbrev pub port_sight : ℕ → Step → List (List PortEntry)
port_sight looper (saw_port number seen) = if number == looper then seen ∷ [] else []
port_sight looper _ = []

abbrev pub roster_sights : List Step → List (List RosterEntry)
roster_sights steps = flat_map roster_sight steps

abbrev pub book_sights : List Step → List (List ReplyEntry)
book_sights steps = flat_map book_sight steps

abbrev pub port_sights : ℕ → List Step → List (List PortEntry)
port_sights looper steps = flat_map (port_sight looper) steps

-- ---- memory
abbrev pub is_lack : Step → Bool
is_lack lacked = true
is_lack _ = false

-- the thread found no memory at some step
abbrev pub ran_short : List Step → Bool
ran_short steps = list_any is_lack steps

-- ---- stamps
abbrev pub roster_stamp : RosterEntry → ℕ
roster_stamp entry = entry.stamp

-- the stamp that is due at a thread's time, behind that list of the object: one more than the greater of the two
abbrev pub due : {L : Type 0} → (L → ℕ) → ℕ → List L → ℕ
due stamp time before = 1 + max time (last_stamp_of stamp before)

-- the entry of a step has the stamp that was due
abbrev pub IsStamped : ℕ → Step → Type 0
IsStamped time (at_roster n) = n.entry.stamp ≡ due roster_stamp time n.before
IsStamped time (at_book n) = n.entry.stamp ≡ due at_books.stamp_of time n.before
IsStamped time (at_port looper n) = n.entry.stamp ≡ due at_ports.stamp_number time n.before
IsStamped time (at_desk looper n) = n.entry.plain.stamp ≡ due at_desks.stamp_number time n.before
IsStamped time _ = Unit {0}

-- the thread's time after a step: the stamp of its last entry
abbrev pub time_after : ℕ → Step → ℕ
time_after time (at_roster n) = n.entry.stamp
time_after time (at_book n) = n.entry.stamp
time_after time (at_port looper n) = n.entry.stamp
time_after time (at_desk looper n) = n.entry.plain.stamp
time_after time _ = time

abbrev pub time_of : ℕ → List Step → ℕ
time_of time [] = time
time_of time (step ∷ steps) = time_of (time_after time step) steps

-- so have all, from that time of the thread on
abbrev pub AreStamped : ℕ → List Step → Type 0
AreStamped time [] = Unit {0}
AreStamped time (step ∷ steps) = IsStamped time step × AreStamped (time_after time step) steps
