-- A run that ended: its lists, and the diaries of all threads that made them.
use Rattle.std.specs.Prelude.{◌≡◌, ◌≢◌, ◌<◌, ◌≤◌, ◌==◌, ◌⊎◌, ◌+◌, ℕ, List, [], ◌∷◌, ◌++◌, length, All, Any, Some, option_map, slice_get, unwrap_or, true, AllPairs}
use Rattle.std.specs.List.{list_any}
use Rattle.ak_base.specs.Thread.{looper_thread, main_thread}
use Rattle.ak_base.specs.declared.app_word.AppWord.{AppWord}
use Rattle.ak_turn.specs.Entries.{StartsWith}
use Rattle.ak_turn.specs.Noted.{Noted, noted}
use Rattle.ak_roster.specs.declared.head.AppHead.{AppHead}
use Rattle.ak_roster.specs.declared.entry.RosterEntry.{RosterEntry}
use Rattle.ak_roster.specs.declared.entry.RosterEvent.TheVariants as roster_event
use Rattle.ak_roster.specs.declared.entry.LaunchOutcome.TheVariants as launch
use Rattle.ak_roster.specs.Kept.{count_of}
use Rattle.ak_roster.specs.Machine.{loopers_at, state_of}
use Rattle.ak_port.specs.declared.port_entry.PortEntry.{PortEntry}
use Rattle.ak_port.specs.declared.reply_entry.ReplyEntry.{ReplyEntry}
use Rattle.ak_port.specs.PortCalls as ports
use Rattle.ak_port.specs.PortCalls.{PortData}
use Rattle.ak_port.specs.ReplySeats as books
use Rattle.ak_desk.specs.Desk.{DeskData}
use Rattle.ak_desk.specs.Desk as desks
use Rattle.ak_desk.specs.Entry.{EntryData}
use Rattle.ak_diary.specs.declared.histories.Histories.{Histories}
use Rattle.ak_diary.specs.Histories.{AreHistories}
use Rattle.ak_diary.specs.Laws.{HasDiary}
use Rattle.ak_diary.specs.Looper.{LooperFacts, thread_of, is_of_team}
use Rattle.ak_diary.specs.Step.{AreStamped, Step, at_desk, book_entries, book_sights, port_entries, port_sights, ran_short, roster_entries, roster_sights, desk_entries}
use Rattle.ak_headline.specs.Main.{IsMainDiary, IsSessionDiary}

-- ---- the lists of a run
-- those of the port and of the desk of the looper with that number; empty where there is none
abbrev pub port_list : Histories → ℕ → List PortEntry
port_list h looper = unwrap_or (option_map (λ (port : PortData). port.entries) (slice_get h.ports.items looper)) []

abbrev pub desk_list : Histories → ℕ → List EntryData
desk_list h looper = unwrap_or (option_map (λ (desk : DeskData). desk.entries) (slice_get h.desks.items looper)) []

abbrev pub roster_maker : RosterEntry → ℕ
roster_maker entry = entry.by.0

abbrev pub desk_maker : EntryData → ℕ
desk_maker entry = entry.plain.by.0

-- ---- what a thread did
-- its steps have all that it made at the roster, at the reply book, at each port and at each desk; what it saw of the roster, of the book or of
-- a port without an entry is a beginning of that list
pub record HasDone (h : Histories) (thread : ℕ) (steps : List Step) : Type 0 where
  pub at_roster : noted roster_maker thread h.roster.items ≡ roster_entries steps
  pub at_book : noted books.maker_of thread h.book ≡ book_entries steps
  pub at_ports : (looper : ℕ) → noted ports.by_number thread (port_list h looper) ≡ port_entries looper steps
  pub at_desks : (looper : ℕ) → noted desk_maker thread (desk_list h looper) ≡ desk_entries looper steps
  pub roster_seen : All (StartsWith h.roster.items) (roster_sights steps)
  pub book_seen : All (StartsWith h.book) (book_sights steps)
  pub ports_seen : (looper : ℕ) → All (StartsWith (port_list h looper)) (port_sights looper steps)

-- a team was started with these numbers
abbrev pub StartedTeam : LooperFacts → RosterEntry → Type 0
StartedTeam l entry =
    (word : AppWord) × (place : ℕ) × (entry.event ≡ roster_event.Launch word (launch.Started place l.team l.first)) × (loopers_at l.heads place ≡ l.loopers)

-- by an entry with that stamp
abbrev pub StartedAt : LooperFacts → ℕ → RosterEntry → Type 0
StartedAt l time entry = StartedTeam l entry × (entry.stamp ≡ time)

-- The looper of that number: it is one of its team, which was started, and the diary of its thread has all that the thread did. Each of its
-- entries has the stamp that is due: one more than the greater of the stamp before it in its list and that before it in the diary, and for the
-- first one that of the launch. The looper is among those that found no memory exactly where a step says so
pub record HasLooper (heads : List AppHead) (short : List ℕ) (h : Histories) (looper : ℕ) : Type 0 where
  pub facts : LooperFacts
  pub number_is : facts.number ≡ looper
  pub of_team : is_of_team facts looper ≡ true
  pub heads_are : facts.heads ≡ heads
  pub opened : option_map (λ (desk : DeskData). desk.opening) (slice_get h.desks.items looper) ≡ Some facts.desk
  pub time : ℕ
  pub started : Any (StartedAt facts time) h.roster.items
  pub steps : List Step
  pub stamped : AreStamped time steps
  pub diary : HasDiary facts steps (port_list h looper) (desk_list h looper)
  pub done : HasDone h (thread_of facts) steps
  pub short_is : ran_short steps ≡ list_any (λ number. number == looper) short

-- The session of that number: its diary has all that its thread did, and from some time on the stamps that are due
pub record HasSession (h : Histories) (number : ℕ) : Type 0 where
  pub time : ℕ
  pub steps : List Step
  pub stamped : AreStamped time steps
  pub diary : IsSessionDiary steps
  pub done : HasDone h number steps

-- ---- the edits of main
-- how many loopers these entries at the roster started; they are numbered on from 0
abbrev pub started_by : List AppHead → List (Noted RosterEntry) → ℕ
started_by heads [] = 0
started_by heads (n ∷ notes) = count_of heads n.entry.event + started_by heads notes

-- main edits the handlers of those loopers alone that its own launches had started
abbrev pub EditsStarted : List AppHead → List Step → Type 0
EditsStarted heads steps =
    (before : List Step) (looper : ℕ) (n : Noted EntryData) (behind : List Step) → steps ≡ before ++ at_desk looper n ∷ behind
    → looper < started_by heads (roster_entries before)

-- ---- behind a session
-- behind each entry that main made past that time stands none of the thread
module _ {L : Type 0} (by stamp : L → ℕ) where
  abbrev pub StandsBehind : ℕ → ℕ → List L → Type 0
  StandsBehind time thread entries =
      (before : List L) (entry : L) (behind : List L) → entries ≡ before ++ entry ∷ behind
      → by entry ≡ main_thread → time < stamp entry → All (λ (e : L). by e ≢ thread) behind

-- each entry that main made past that time stands, in the list of its object, behind all that the session of that number made there
pub record MainIsBehind (h : Histories) (time number : ℕ) : Type 0 where
  pub at_roster : StandsBehind roster_maker (λ (entry : RosterEntry). entry.stamp) time number h.roster.items
  pub at_book : StandsBehind books.maker_of (λ (entry : ReplyEntry). entry.stamp) time number h.book
  pub at_ports : (looper : ℕ) → StandsBehind ports.by_number ports.stamp_number time number (port_list h looper)
  pub at_desks : (looper : ℕ) → StandsBehind desk_maker desks.stamp_number time number (desk_list h looper)

-- ---- the run
-- a thread of the run: main, or that of a looper
abbrev pub IsOfRun : Histories → ℕ → Type 0
IsOfRun h thread = (thread ≡ main_thread) ⊎ ((looper : ℕ) × (looper < length h.ports.items) × (thread ≡ looper_thread looper))

-- that of one of so many sessions, which are numbered from 1 on
abbrev pub IsSession : ℕ → ℕ → Type 0
IsSession sessions thread = (0 < thread) × (thread ≤ sessions)

-- any of them
abbrev pub ActsIn : Histories → ℕ → ℕ → Type 0
ActsIn h sessions thread = IsOfRun h thread ⊎ IsSession sessions thread

-- Each list is one that its object's machine allows; there are a port and a desk for each looper that was started, and no others. Each
-- looper has its diary, and so have main, whose stamps are due from 0 on and who edits the handlers of started loopers alone, and each session,
-- whose numbers are below those of the loopers' threads; no other thread made an entry at the roster, at the reply book, at a port or at a desk.
-- Those that found no memory are loopers of the run, in order, and each once
pub record IsRunWith (sessions : ℕ) (heads : List AppHead) (short : List ℕ) (h : Histories) : Type 0 where
  pub histories : AreHistories heads h
  pub all : length h.ports.items ≡ length (state_of heads h.roster.items).loopers
  pub loopers : (looper : ℕ) → looper < length h.ports.items → HasLooper heads short h looper
  pub short_are : All (λ (number : ℕ). number < length h.ports.items) short
  pub short_once : AllPairs (λ (a b : ℕ). a < b) short
  pub main : List Step
  pub main_diary : IsMainDiary main
  pub main_stamped : AreStamped 0 main
  pub main_done : HasDone h main_thread main
  pub main_edits : EditsStarted heads main
  pub few_sessions : sessions < looper_thread 0
  pub each_session : (number : ℕ) → IsSession sessions number → HasSession h number
  pub roster_makers : All (λ (entry : RosterEntry). ActsIn h sessions entry.by.0) h.roster.items
  pub book_makers : All (λ (entry : ReplyEntry). ActsIn h sessions entry.by.0) h.book
  pub port_makers : (looper : ℕ) → All (λ (entry : PortEntry). ActsIn h sessions entry.by.0) (port_list h looper)
  pub desk_makers : (looper : ℕ) → All (λ (entry : EntryData). ActsIn h sessions (desk_maker entry)) (desk_list h looper)

-- without a session
abbrev pub IsRun : List AppHead → List ℕ → Histories → Type 0
IsRun heads short h = IsRunWith 0 heads short h
