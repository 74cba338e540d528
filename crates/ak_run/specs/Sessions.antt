-- The sessions of a run, as main has them.
use Rattle.std.specs.Prelude.{◌≡◌, ◌+◌, ◌≤◌, ℕ, Bool, List, [], ◌∷◌, length, map, Option, None, Some, IfSome, is_some, slice_get, Vec, vec_capacity}
use Rattle.std.specs.List.{list_all}
use Rattle.std.specs.Arc.{arc_value}
use Rattle.std.specs.declared.alloc.Global.{Global}
use Rattle.ak_turn.specs.Seats.{LockId}
use Rattle.ak_roster.specs.declared.head.AppHead.{AppHead}
use Rattle.ak_port.specs.ReplySeats.{ReplySeat}
use Rattle.ak_diary.specs.Step.{Step}
use Rattle.ak_headline.specs.Main.{IsSessionDiary}
use Rattle.ak_looper.specs.declared.door.Door.{Door}
use Rattle.ak_looper.specs.Rosters.{RosterSeat}
use Rattle.ak_session.specs.declared.session.Session.{Session}
use Rattle.ak_session.specs.Stands.{KeepsSession, Stands}
use Rattle.ak_looper.specs.declared.shared.Shared.{Shared}
use Rattle.ak_run.specs.declared.run.Run.{Run}
use Rattle.ak_run.specs.declared.slots.Slot.{Slot}
use Rattle.ak_run.specs.declared.slots.Slots.{Slots}
use Rattle.ak_gather.specs.Gathering.{TookIn}

-- the most of them, whose threads come before those of the loopers
abbrev pub session_limit : ℕ
session_limit = 9999

-- ---- what calls tell of them
-- one that was opened: as it was then, and what it was closed with, if it was closed
abbrev pub Told : Type 0
Told = Session × Option Session

abbrev pub told_of : Slot → Told
told_of slot = (slot.opened.value, slot.closed)

abbrev pub told_in : Slots → List Told
told_in slots = map told_of slots.sessions.items

-- each that was opened, in order; its thread is one more than its place
abbrev pub sessions_of : Run → List Told
sessions_of r = told_in r.slots

abbrev pub session_count : Run → ℕ
session_count r = length (sessions_of r)

-- none of them is open
abbrev pub all_closed : Run → Bool
all_closed r = list_all (λ (told : Told). is_some told.1) (sessions_of r)

-- it is at the reply book and at the roster of the run
pub record HasLocksOf (r : Run) (s : Session) : Type 0 where
  pub book : arc_value s.hands.book ≡ arc_value r.shared.book
  pub roster : arc_value s.roster ≡ arc_value r.shared.roster

-- what came of a session, from where it was opened: it kept its thread and its locks, and stands by steps that a session's diary may have
pub record CameOf (opened closed : Session) : Type 0 where
  pub keeps : KeepsSession opened closed
  pub heads : List AppHead
  pub steps : List Step
  pub stands : Stands heads opened.hands.clock.time steps closed
  pub diary : IsSessionDiary steps

-- the run has open what that came of
pub record MayClose (r : Run) (s : Session) : Type 0 where
  pub place : ℕ
  pub number : s.hands.clock.thread.0 ≡ place + 1
  pub opened : Session
  pub open_there : slice_get (sessions_of r) place ≡ Some (opened, None)
  pub came : CameOf opened s

-- ---- how they stand
-- the one at that place is a session of this run, with the next thread
pub record IsSessionAt (heads : List AppHead) (shared : Shared) (place : ℕ) (told : Told) : Type 0 where
  pub thread : told.0.hands.clock.thread.0 ≡ place + 1
  pub heads_are : told.0.roster_seat.opening ≡ Some heads
  pub at_book : told.0.hands.book_seat.lock ≡ arc_value shared.book
  pub at_roster : told.0.roster_seat.lock ≡ arc_value shared.roster
  pub closed : IfSome told.1 (CameOf told.0)

-- with room for the doors of each
pub record HasSlots (heads : List AppHead) (shared : Shared) (slots : Slots) : Type 0 where
  pub few : length (told_in slots) ≤ session_limit
  pub each : (place : ℕ) (told : Told) → slice_get (told_in slots) place ≡ Some told → IsSessionAt heads shared place told
  pub no_ways : slots.ways.items ≡ []
  pub room : length (told_in slots) ≤ vec_capacity slots.ways

-- all but them is as before
pub record KeepsButSlots (r r' : Run) : Type 0 where
  pub apps : r'.apps ≡ r.apps
  pub hands : r'.hands ≡ r.hands
  pub shared : r'.shared ≡ r.shared
  pub roster_seat : r'.roster_seat ≡ r.roster_seat
  pub members : r'.members ≡ r.members
  pub joined : r'.joined ≡ r.joined
  pub ports : r'.ports ≡ r.ports
  pub desks : r'.desks ≡ r.desks

-- and so are they
pub record IsAsBefore (r r' : Run) : Type 0 where
  pub rest : KeepsButSlots r r'
  pub sessions : sessions_of r' ≡ sessions_of r

-- ---- at the end
-- it was closed, and its seats are at these locks
pub record IsClosedAt (roster book : LockId) (told : Told) : Type 0 where
  pub session : Session
  pub closed : told.1 ≡ Some session
  pub at_roster : session.roster_seat.lock ≡ roster
  pub at_book : session.hands.book_seat.lock ≡ book

-- main's seats know what its seats knew, and these are its doors
pub record IsSessionJoined (roster : RosterSeat) (book : ReplySeat) (told : Told) (ways : Vec (ℕ × Door) Global) : Type 0 where
  pub session : Session
  pub closed : told.1 ≡ Some session
  pub ways_are : ways ≡ session.doors
  pub at_roster : TookIn session.roster_seat roster
  pub at_book : TookIn session.hands.book_seat book

-- so it is of each, in order
abbrev pub AreSessionsJoined : RosterSeat → ReplySeat → List Told → List (Vec (ℕ × Door) Global) → Type 0
AreSessionsJoined roster book [] [] = Unit {0}
AreSessionsJoined roster book (told ∷ rest) (ways ∷ all) = IsSessionJoined roster book told ways × AreSessionsJoined roster book rest all
AreSessionsJoined roster book _ _ = ⊥
