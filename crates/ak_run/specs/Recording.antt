-- What main did at the objects that threads share: its diary so far, and how that goes on.
use Rattle.std.specs.Prelude.{◌≡◌, ℕ, List, [], ◌∷◌, ◌++◌, map, All, get_or}
use Rattle.ak_base.specs.Thread.{main_thread}
use Rattle.ak_turn.specs.Entries.{StartsWith}
use Rattle.ak_turn.specs.Noted.{noted}
use Rattle.ak_roster.specs.declared.head.AppHead.{AppHead}
use Rattle.ak_roster.specs.declared.entry.RosterEntry.{RosterEntry}
use Rattle.ak_port.specs.declared.port_entry.PortEntry.{PortEntry}
use Rattle.ak_port.specs.declared.reply_entry.ReplyEntry.{ReplyEntry}
use Rattle.ak_port.specs.PortCalls as at_ports
use Rattle.ak_port.specs.ReplySeats as at_books
use Rattle.ak_desk.specs.Entry.{EntryData}
use Rattle.ak_desk.specs.Shared as at_desks
use Rattle.ak_diary.specs.Step.{Step, book_entries, book_sights, desk_entries, port_entries, port_sights, roster_entries, roster_sights}
use Rattle.ak_headline.specs.Main.{IsMainDiary}
use Rattle.ak_headline.specs.Run.{EditsStarted}
use Rattle.ak_looper.specs.Rosters.{maker_of, plain_of}
use Rattle.ak_run.specs.declared.run.Run.{Run}
use Rattle.ak_team.specs.InTime.{AreInTime}
use Rattle.ak_gather.specs.Members.{member_front}

-- ---- what main's seats have seen
-- main's time, the roster's list, the reply book's, and each port's, by the loopers' numbers
pub record Fronts : Type 0 where
  pub time : ℕ
  pub roster : List RosterEntry
  pub book : List ReplyEntry
  pub ports : List (List PortEntry)

abbrev pub fronts : ℕ → List RosterEntry → List ReplyEntry → List (List PortEntry) → Fronts
fronts time roster book ports = record { time = time; roster = roster; book = book; ports = ports }

-- a port's list; empty where there is no such port
abbrev pub list_at : List (List PortEntry) → ℕ → List PortEntry
list_at lists looper = get_or lists looper []

-- Those of a run. While a team starts, its loopers' ports that are made follow those of the loopers that have started
abbrev pub fronts_with : Run → List (List PortEntry) → Fronts
fronts_with r new = fronts r.hands.clock.time (plain_of r.roster_seat) r.hands.book_seat.front (map member_front r.members.items ++ new)

abbrev pub fronts_of : Run → Fronts
fronts_of r = fronts_with r []

-- ---- main's diary
-- the rules allow these steps, main's own entries at each object are those of them, and their stamps are due from 0 on; what it saw without an
-- entry is a beginning of what it knows
pub record IsRecorded (steps : List Step) (f : Fronts) : Type 0 where
  pub diary : IsMainDiary steps
  pub in_time : AreInTime 0 steps f.time
  pub roster : noted maker_of main_thread f.roster ≡ roster_entries steps
  pub book : noted at_books.maker_of main_thread f.book ≡ book_entries steps
  pub roster_seen : All (StartsWith f.roster) (roster_sights steps)
  pub book_seen : All (StartsWith f.book) (book_sights steps)
  pub ports : (looper : ℕ) → noted at_ports.by_number main_thread (list_at f.ports looper) ≡ port_entries looper steps
  pub ports_seen : (looper : ℕ) → All (StartsWith (list_at f.ports looper)) (port_sights looper steps)

-- there is such a diary, and of these lists of desks main's own entries are its edits there, each of a looper that it knew to be started
pub record HasRecord (heads : List AppHead) (f : Fronts) (lists : ℕ → List EntryData) : Type 0 where
  pub did : List Step
  pub recorded : IsRecorded did f
  pub started : EditsStarted heads did
  pub edits : (looper : ℕ) → noted at_desks.by_number main_thread (lists looper) ≡ desk_entries looper did

-- from one to the other its own entries went on by those of these steps, which are acts of main's; their stamps are due, and each list goes on
pub record GoesBy (steps : List Step) (a b : Fronts) : Type 0 where
  pub acts : IsMainDiary steps
  pub in_time : AreInTime a.time steps b.time
  pub roster : noted maker_of main_thread b.roster ≡ noted maker_of main_thread a.roster ++ roster_entries steps
  pub roster_on : StartsWith b.roster a.roster
  pub roster_seen : All (StartsWith b.roster) (roster_sights steps)
  pub book : noted at_books.maker_of main_thread b.book ≡ noted at_books.maker_of main_thread a.book ++ book_entries steps
  pub book_on : StartsWith b.book a.book
  pub book_seen : All (StartsWith b.book) (book_sights steps)
  pub ports : (looper : ℕ) → noted at_ports.by_number main_thread (list_at b.ports looper) ≡ noted at_ports.by_number main_thread (list_at a.ports looper) ++ port_entries looper steps
  pub ports_on : (looper : ℕ) → StartsWith (list_at b.ports looper) (list_at a.ports looper)
  pub ports_seen : (looper : ℕ) → All (StartsWith (list_at b.ports looper)) (port_sights looper steps)

-- by some acts, of which none is an edit
pub record Records (a b : Fronts) : Type 0 where
  pub steps : List Step
  pub goes : GoesBy steps a b
  pub no_edits : (looper : ℕ) → desk_entries looper steps ≡ []

-- by acts of which that holds
pub record RecordsSo (P : List Step → Type 0) (a b : Fronts) : Type 0 where
  pub steps : List Step
  pub so : P steps
  pub goes : GoesBy steps a b
  pub no_edits : (looper : ℕ) → desk_entries looper steps ≡ []

-- by a call of main's, whatever new ports there are
abbrev pub RecordsBeside : Run → Run → Type 0
RecordsBeside r r' = (new : List (List PortEntry)) → Records (fronts_with r new) (fronts_with r' new)

pub record RecordsBesideSo (P : List Step → Type 0) (r r' : Run) : Type 0 where
  pub beside : (new : List (List PortEntry)) → RecordsSo P (fronts_with r new) (fronts_with r' new)

-- by a call in which the list of the first of them went on too
pub record RecordsAtNew (P : List Step → Type 0) (port port' : List PortEntry) (r r' : Run) : Type 0 where
  pub beside : (new : List (List PortEntry)) → RecordsSo P (fronts_with r (port ∷ new)) (fronts_with r' (port' ∷ new))

-- by the start of the looper with that port, which is new no more
pub record RecordsStart (P : List Step → Type 0) (port : List PortEntry) (r r' : Run) : Type 0 where
  pub beside : (new : List (List PortEntry)) → RecordsSo P (fronts_with r (port ∷ new)) (fronts_with r' new)

-- the same without an act: the fronts are as they were
pub record StartsQuietly (port : List PortEntry) (r r' : Run) : Type 0 where
  pub same : (new : List (List PortEntry)) → fronts_with r' new ≡ fronts_with r (port ∷ new)
