-- What holds of the list of all entries.
use Rattle.std.specs.Prelude.{Some, slice_get, ◌≡◌, ◌≢◌, ◌<◌, ◌≤◌, ◌==◌, ◌&&◌, ℕ, Bool, true, false, List, [], ◌∷◌, ◌++◌, map, filter, length, All}
use Rattle.std.specs.List.{flat_map}
use Rattle.ak_base.specs.Thread.{looper_thread, main_thread}
use Rattle.ak_turn.specs.Stamps.{Rise}
use Rattle.ak_roster.specs.declared.head.AppHead.{AppHead}
use Rattle.ak_port.specs.declared.port_entry.PortEntry.{PortEntry}
use Rattle.ak_port.specs.declared.reply_entry.ReplyEntry.{ReplyEntry}
use Rattle.ak_port.specs.PortCalls as ports
use Rattle.ak_port.specs.ReplySeats as books
use Rattle.ak_action.specs.declared.state.DeskState.{DeskState}
use Rattle.ak_desk.specs.Desk as desks
use Rattle.ak_desk.specs.Desk.{DeskData}
use Rattle.ak_desk.specs.Entry.{EntryData}
use Rattle.ak_diary.specs.declared.histories.Histories.{Histories}
use Rattle.ak_diary.specs.Step.{Step, at_roster, at_book, at_port, at_desk, saw_roster, saw_book, saw_port, lacked, roster_stamp}
use Rattle.ak_headline.specs.Run.{ActsIn, IsRunWith, IsSession, MainIsBehind, desk_list, port_list}
use Rattle.ak_journal.specs.declared.entry.Entry.{Entry}
use Rattle.ak_journal.specs.declared.entry.ObjectName.{ObjectName}
use Rattle.ak_journal.specs.declared.entry.ObjectName.TheVariants as object
use Rattle.ak_world.specs.Merged.{IsMerged, book_entry, desk_entry, entries_of, port_entry, roster_entry, stamp_of, thread_of}
use Rattle.ak_world.specs.World.{Objects, ObjectsRun, first_objects}

-- ---- there is one such list, and no other
abbrev pub OneIsMerged : Type 0
OneIsMerged = (h : Histories) → (entries : List Entry) × IsMerged h entries

abbrev pub MergedIsOne : Type 0
MergedIsOne = (h : Histories) (entries others : List Entry) → IsMerged h entries → IsMerged h others → entries ≡ others

-- ---- stamps
-- it was made by that thread, with that stamp
abbrev pub is_by_at : ℕ → ℕ → Entry → Bool
is_by_at thread stamp entry = (thread_of entry == thread) && (stamp_of entry == stamp)

-- the stamps of each object's list rise; and no thread made two entries of one stamp, at whatever objects
pub record StampsRise (h : Histories) : Type 0 where
  pub at_roster : Rise roster_stamp 0 h.roster.items
  pub at_book : Rise books.stamp_of 0 h.book
  pub at_ports : (looper : ℕ) → Rise ports.stamp_number 0 (port_list h looper)
  pub at_desks : (looper : ℕ) → Rise desks.stamp_number 0 (desk_list h looper)
  pub once : (thread stamp : ℕ) → length (filter (is_by_at thread stamp) (entries_of h)) ≤ 1

abbrev pub RunsRise : Type 0
RunsRise = (sessions : ℕ) (heads : List AppHead) (short : List ℕ) (h : Histories) → IsRunWith sessions heads short h → StampsRise h

-- ---- what was done at one object
abbrev pub is_same : ObjectName → ObjectName → Bool
is_same object.Roster object.Roster = true
is_same object.Book object.Book = true
is_same (object.Port looper) (object.Port number) = looper == number
is_same (object.Desk looper) (object.Desk number) = looper == number
is_same _ _ = false

abbrev pub is_at : ObjectName → Entry → Bool
is_at name entry = is_same name entry.object

-- the object's list, each entry as the journal has it
abbrev pub entries_at : Histories → ObjectName → List Entry
entries_at h object.Roster = map roster_entry h.roster.items
entries_at h object.Book = map (λ (entry : ReplyEntry). book_entry object.Book entry) h.book
entries_at h (object.Port looper) = map (λ (entry : PortEntry). port_entry (object.Port looper) entry) (port_list h looper)
entries_at h (object.Desk looper) = map (λ (entry : EntryData). desk_entry (object.Desk looper) entry.plain) (desk_list h looper)

-- the entries at each object are just that object's list, in order
abbrev pub HasEachHistory : Histories → List Entry → Type 0
HasEachHistory h entries = (name : ObjectName) → filter (is_at name) entries ≡ entries_at h name

abbrev pub MergedHasEachHistory : Type 0
MergedHasEachHistory =
    (sessions : ℕ) (heads : List AppHead) (short : List ℕ) (h : Histories) → IsRunWith sessions heads short h
    → (entries : List Entry) → IsMerged h entries → HasEachHistory h entries

-- ---- what one thread did
abbrev pub is_by : ℕ → Entry → Bool
is_by thread entry = thread_of entry == thread

-- the entry of a step, as the journal has it; none of a step that made none
abbrev pub entry_in : Step → List Entry
entry_in (at_roster n) = roster_entry n.entry ∷ []
entry_in (at_book n) = book_entry object.Book n.entry ∷ []
entry_in (at_port looper n) = port_entry (object.Port looper) n.entry ∷ []
entry_in (at_desk looper n) = desk_entry (object.Desk looper) n.entry.plain ∷ []
entry_in (saw_roster seen) = []
entry_in (saw_book seen) = []
entry_in (saw_port looper seen) = []
entry_in lacked = []

-- those of a diary, in its order
abbrev pub entries_in : List Step → List Entry
entries_in steps = flat_map entry_in steps

-- the entries by main, by each looper and by each session are just those of its diary, in order; and there are no others
pub record HasEachDiary (sessions : ℕ) (heads : List AppHead) (short : List ℕ) (h : Histories) (run : IsRunWith sessions heads short h) (entries : List Entry) : Type 0 where
  pub by_main : filter (is_by main_thread) entries ≡ entries_in run.main
  pub by_looper : (looper : ℕ) (is : looper < length h.ports.items) → filter (is_by (looper_thread looper)) entries ≡ entries_in (run.loopers looper is).steps
  pub by_session : (number : ℕ) (is : IsSession sessions number) → filter (is_by number) entries ≡ entries_in (run.each_session number is).steps
  pub by_no_other : All (λ (entry : Entry). ActsIn h sessions (thread_of entry)) entries

abbrev pub MergedHasEachDiary : Type 0
MergedHasEachDiary =
    (sessions : ℕ) (heads : List AppHead) (short : List ℕ) (h : Histories) (run : IsRunWith sessions heads short h)
    → (entries : List Entry) → IsMerged h entries → HasEachDiary sessions heads short h run entries

-- ---- behind a session
-- behind an entry that main made past that time stands none of the session's at the same object
abbrev pub IsBehind : ℕ → ℕ → List Entry → Type 0
IsBehind time number entries =
    (before : List Entry) (entry : Entry) (behind : List Entry) → entries ≡ before ++ entry ∷ behind
    → thread_of entry ≡ main_thread → time < stamp_of entry → All (λ (e : Entry). thread_of e ≡ number → e.object ≢ entry.object) behind

abbrev pub MergedIsBehind : Type 0
MergedIsBehind =
    (sessions : ℕ) (heads : List AppHead) (short : List ℕ) (h : Histories) → IsRunWith sessions heads short h
    → (entries : List Entry) → IsMerged h entries → (time number : ℕ) → MainIsBehind h time number → IsBehind time number entries

-- ---- the list is a run of the objects
-- the desk of each looper is opened so
abbrev pub AreOpened : Histories → (ℕ → DeskState) → Type 0
AreOpened h openings = (looper : ℕ) (desk : DeskData) → slice_get h.desks.items looper ≡ Some desk → openings looper ≡ desk.opening

-- each entry, one after the other, is a step of its object, by its own rules, from where nothing is launched
abbrev pub MergedRunsObjects : Type 0
MergedRunsObjects =
    (sessions : ℕ) (heads : List AppHead) (short : List ℕ) (h : Histories) → IsRunWith sessions heads short h
    → (entries : List Entry) → IsMerged h entries → (openings : ℕ → DeskState) → AreOpened h openings
    → (objects : Objects) × ObjectsRun heads (first_objects openings) entries objects
