-- What main knows of the loopers whose threads it joined.
use Rattle.std.specs.Prelude.{◌≡◌, ◌+◌, ◌≤◌, ℕ, suc, List, [], ◌∷◌, ◌++◌, length, map, filter, All, Any, Bool, true, false, Contains, IsSomeAnd, Some, set, slice_get, Vec, vec_capacity}
use Rattle.std.specs.Arc.{arc_value}
use Rattle.std.specs.declared.alloc.Global.{Global}
use Rattle.ak_base.specs.Thread.{looper_thread, main_thread}
use Rattle.ak_base.specs.declared.thread.ThreadId.{ThreadId}
use Rattle.ak_turn.specs.declared.view.Part.{Part}
use Rattle.ak_turn.specs.Entries.{AreByOthers, StartsWith}
use Rattle.ak_turn.specs.Rule.{IsKnown}
use Rattle.ak_turn.specs.Seats.{LockId, SeatData, joined_seat, part_of}
use Rattle.ak_roster.specs.declared.entry.EntryWithObjects.{EntryWithObjects}
use Rattle.ak_roster.specs.declared.head.AppHead.{AppHead}
use Rattle.ak_roster.specs.Machine.{IsHistory}
use Rattle.ak_roster.specs.Roster.{AreKept, IsAtRest, RosterData, objects_of, plain_entries, state}
use Rattle.ak_port.specs.declared.port_entry.PortEntry.{PortEntry}
use Rattle.ak_port.specs.declared.reply_entry.ReplyEntry.{ReplyEntry}
use Rattle.ak_port.specs.Reply.{HasFlatText, IsLegal}
use Rattle.ak_port.specs.PortCalls as ports
use Rattle.ak_port.specs.PortCalls.{PortData, PortSeat}
use Rattle.ak_port.specs.ReplySeats as books
use Rattle.ak_port.specs.ReplySeats.{ReplySeat}
use Rattle.ak_desk.specs.Desk.{DeskData}
use Rattle.ak_desk.specs.Entry.{EntryData}
use Rattle.ak_desk.specs.Shared as desks
use Rattle.ak_desk.specs.Shared.{DeskSeat}
use Rattle.ak_action.specs.declared.state.DeskState.{DeskState}
use Rattle.ak_looper.specs.declared.door.Door.{Door}
use Rattle.ak_looper.specs.declared.job.EndKind.{EndKind}
use Rattle.ak_looper.specs.declared.job.EndKind.TheVariants as kind
use Rattle.ak_looper.specs.Doors.{door_object}
use Rattle.ak_looper.specs.Job.{HasLived, IsReady, facts_of}
use Rattle.ak_looper.specs.declared.kept_door.KeptDoor.{KeptDoor}
use Rattle.ak_looper.specs.Rosters as rosters
use Rattle.ak_looper.specs.Rosters.{LeadsTo, Object, RosterSeat}
use Rattle.ak_gather.specs.declared.gathering.AllJoined.{AllJoined}
use Rattle.ak_gather.specs.declared.gathering.Joined.{Joined}
use Rattle.ak_looper.specs.NoHead.{HasNoNames}
use Rattle.ak_looper.specs.Starts.{StartsAt}

-- ---- behind main's seats
module _ {L : Type 0} (by : L → ℕ) where
  -- behind what main's seat has seen others alone made entries
  pub record EndsByOthers (front entries : List L) : Type 0 where
    pub between : List L
    pub goes_on : entries ≡ front ++ between
    pub others : AreByOthers by main_thread between

-- at each port
abbrev pub PortsEndByOthers : List (List PortEntry) → List PortData → Type 0
PortsEndByOthers [] [] = Unit {0}
PortsEndByOthers (front ∷ fronts) (port ∷ more) = EndsByOthers ports.by_number front port.entries × PortsEndByOthers fronts more
PortsEndByOthers _ _ = ⊥

module _ {O L : Type 0} where
  -- the seat knows what that other one knew of its own thread
  abbrev pub TookIn : SeatData O L → SeatData O L → Type 0
  TookIn other seat = Contains seat.joined (part_of other)

  -- what it knew of threads it still knows; it is at the same lock, of the same thread, and has no turn
  pub record GoesOnKnowing (seat seat' : SeatData O L) : Type 0 where
    pub lock : seat'.lock ≡ seat.lock
    pub opening : seat'.opening ≡ seat.opening
    pub thread : seat'.thread ≡ seat.thread
    pub turn : seat'.turn ≡ seat.turn
    pub front : seat'.front ≡ seat.front
    pub parts : (part : Part L) → Contains seat.joined part → Contains seat'.joined part
    -- where it is the head it stays the head
    pub head : (names : List ℕ) → seat.names ≡ Some names → seat'.names ≡ Some names

-- what the looper's thread gave back is what came of its job; main's seats know what the thread's seats knew, and its door leads to what the
-- roster pairs with the looper
pub record IsJoined (heads : List AppHead) (roster : RosterSeat) (book : ReplySeat) (j : Joined) : Type 0 where
  pub number : j.job.value.number ≡ j.number
  pub ready : IsReady j.job.value
  pub lived : HasLived j.job.value j.end.value
  pub heads_are : j.job.value.roster_seat.opening ≡ Some heads
  pub seen : StartsWith roster.front j.job.value.roster_seat.front
  pub begins : (desk : DeskState) → Any (StartsAt (facts_of j.job.value heads desk) j.job.value.hands.clock.time) j.job.value.roster_seat.front
  pub at_roster : TookIn j.end.value.roster_seat roster
  pub at_book : TookIn j.end.value.hands.book_seat book
  pub at_port : TookIn j.end.value.own.port_seat j.door.port_seat
  pub at_desk : TookIn j.end.value.own.desk_seat j.door.desk_seat
  pub taker : ThreadId
  pub taker_is : taker.0 ≡ looper_thread j.number
  pub port_opening : j.door.port_seat.opening ≡ Some taker
  pub desk : DeskState
  pub desk_opening : j.door.desk_seat.opening ≡ Some desk
  pub job_desk : j.job.value.own.desk_seat.opening ≡ Some desk
  pub leads : LeadsTo roster j.number j.door.port_seat.lock j.door.desk_seat.lock
  pub kind : j.kind ≡ j.end.value.kind
  pub by_main : j.door.port_seat.thread ≡ main_thread

-- what main's seat at its port has seen
abbrev pub joined_front : Joined → List PortEntry
joined_front j = j.door.port_seat.front

-- and its seat at its desk
abbrev pub joined_desk_front : Joined → List EntryData
joined_desk_front j = j.door.desk_seat.front

-- main's seats at its port and its desk are no heads: the keeper's are
abbrev pub IsNoHead : Joined → Type 0
IsNoHead j = HasNoNames j.door

-- main's door to it knows what these seats knew of their own thread
pub record TookBothIn (port : PortSeat) (desk : DeskSeat) (j : Joined) : Type 0 where
  pub at_port : TookIn port j.door.port_seat
  pub at_desk : TookIn desk j.door.desk_seat

-- those of them that found no memory
abbrev pub is_short : EndKind → Bool
is_short kind.NoMemory = true
is_short kind.Quit = false
is_short kind.TeamClosed = false

abbrev pub short_of : List Joined → List ℕ
short_of js = map (λ (j : Joined). j.number) (filter (λ (j : Joined). is_short j.kind) js)

-- ---- room for all of them
pub record HoldsNothing (all : AllJoined) : Type 0 where
  pub loopers : all.loopers.items ≡ []
  pub ways : all.ways.items ≡ []
  pub short : all.short.items ≡ []

-- for so many more
pub record HasRoomFor (more : ℕ) (all : AllJoined) : Type 0 where
  pub loopers : length all.loopers.items + more ≤ vec_capacity all.loopers
  pub ways : length all.ways.items + more ≤ vec_capacity all.ways
  pub short : length all.short.items + more ≤ vec_capacity all.short

-- ---- main's door takes in what other seats know, which are at the same locks
-- the looper at that place, to whose port and desk these are the locks
pub record IsAt (js : List Joined) (place : ℕ) (port desk : LockId) : Type 0 where
  pub looper : Joined
  pub there : slice_get js place ≡ Some looper
  pub at_port : port ≡ looper.door.port_seat.lock
  pub at_desk : desk ≡ looper.door.desk_seat.lock

-- it is the same looper, whose door knows what it knew
pub record IsGaining (j j' : Joined) : Type 0 where
  pub number : j'.number ≡ j.number
  pub kind : j'.kind ≡ j.kind
  pub job : j'.job ≡ j.job
  pub end : j'.end ≡ j.end
  pub port : GoesOnKnowing j.door.port_seat j'.door.port_seat
  pub desk : GoesOnKnowing j.door.desk_seat j'.door.desk_seat

-- so it is of all
pub record AreGaining (js js' : List Joined) : Type 0 where
  pub count : length js' ≡ length js
  pub each : (place : ℕ) (j : Joined) → slice_get js place ≡ Some j → IsSomeAnd (slice_get js' place) (IsGaining j)

-- main's door to the looper at that place took in what these seats know, and nothing else changed
pub record HasTakenAt (place : ℕ) (port : PortSeat) (desk : DeskSeat) (js js' : List Joined) : Type 0 where
  pub before : Joined
  pub there : slice_get js place ≡ Some before
  pub after : Joined
  pub number : after.number ≡ before.number
  pub kind : after.kind ≡ before.kind
  pub job : after.job ≡ before.job
  pub end : after.end ≡ before.end
  pub at_port : after.door.port_seat ≡ joined_seat before.door.port_seat port
  pub at_desk : after.door.desk_seat ≡ joined_seat before.door.desk_seat desk
  pub is : js' ≡ set js place after

-- ---- the doors that a looper gave back
-- such a door leads to where main's door to its looper leads
abbrev pub IsWayIn : List Joined → ℕ × Door → Type 0
IsWayIn js way = IsAt js way.0 way.1.port_seat.lock way.1.desk_seat.lock

-- main's door there knows what the way's seats knew
abbrev pub IsTakenIn : List Joined → ℕ × Door → Type 0
IsTakenIn js way = IsSomeAnd (slice_get js way.0) (TookBothIn way.1.port_seat way.1.desk_seat)

-- so it is of all that one looper gave back
abbrev pub AreWaysIn : List Joined → Vec (ℕ × Door) Global → Type 0
AreWaysIn js ways = All (IsWayIn js) ways.items

abbrev pub AreTakenIn : List Joined → Vec (ℕ × Door) Global → Type 0
AreTakenIn js ways = All (IsTakenIn js) ways.items

-- ---- the doors that the roster kept, by the loopers' numbers from that one on
-- each leads to where main's door leads
abbrev pub AreKeptIn : List Joined → ℕ → List KeptDoor → Type 0
AreKeptIn js place [] = Unit {0}
AreKeptIn js place (kept ∷ keeps) = IsAt js place kept.port_seat.lock kept.desk_seat.lock × AreKeptIn js (suc place) keeps

-- main's seats at the port and the desk are the heads in the keeper's place, and know what the keeper's knew
pub record IsHeadFor (kept : KeptDoor) (j : Joined) : Type 0 where
  pub names : j.door.port_seat.names ≡ kept.port_seat.names
  pub desk_names : j.door.desk_seat.names ≡ kept.desk_seat.names
  pub took : TookBothIn kept.port_seat kept.desk_seat j

abbrev pub AreHeadsIn : List Joined → ℕ → List KeptDoor → Type 0
AreHeadsIn js place [] = Unit {0}
AreHeadsIn js place (kept ∷ keeps) = IsSomeAnd (slice_get js place) (IsHeadFor kept) × AreHeadsIn js (suc place) keeps

-- ---- a book that was kept: what the seat knew of threads that were joined is what the whole list has by them
module _ {O L : Type 0} (by : L → ℕ) where
  abbrev pub KnowsAll : SeatData O L → List L → Type 0
  KnowsAll seat entries = All (IsKnown by entries) seat.joined

pub record IsPortOf (seat : PortSeat) (port : PortData) : Type 0 where
  pub legal : ports.IsPortBook port
  pub opening : seat.opening ≡ Some port.taker
  pub known : KnowsAll ports.by_number seat port.entries
  pub ends : seat.thread ≡ main_thread → EndsByOthers ports.by_number seat.front port.entries
  pub named : (names : List ℕ) → seat.names ≡ Some names → All (λ (entry : PortEntry). Contains names (ports.by_number entry)) port.entries

pub record IsBookOf (seat : ReplySeat) (book : List ReplyEntry) : Type 0 where
  pub legal : IsLegal book
  pub texts : All (λ (entry : ReplyEntry). HasFlatText entry.event) book
  pub known : KnowsAll books.maker_of seat book
  pub named : (names : List ℕ) → seat.names ≡ Some names → All (λ (entry : ReplyEntry). Contains names (books.maker_of entry)) book
  pub ends : seat.thread ≡ main_thread → EndsByOthers books.maker_of seat.front book

pub record IsDeskOf (seat : DeskSeat) (desk : DeskData) : Type 0 where
  pub legal : desks.LeadsOn desk.opening desk.entries
  pub opening : seat.opening ≡ Some desk.opening
  pub known : KnowsAll desks.by_number seat desk.entries
  pub ends : seat.thread ≡ main_thread → EndsByOthers desks.by_number seat.front desk.entries
  pub named : (names : List ℕ) → seat.names ≡ Some names → All (λ (entry : EntryData). Contains names (desks.by_number entry)) desk.entries

-- the list goes on from what the seat had seen by entries of other threads, and each entry is by one of the seat's names; the doors that are
-- kept are those of the loopers, in order, and each tells the threads that hold it
pub record IsRosterOf (seat : RosterSeat) (roster : RosterData KeptDoor Object) : Type 0 where
  pub opening : seat.opening ≡ Some roster.heads
  pub legal : IsHistory roster.heads (plain_entries roster.entries)
  pub known : KnowsAll rosters.by_number seat roster.entries
  pub between : List (EntryWithObjects Object)
  pub goes_on : roster.entries ≡ seat.front ++ between
  pub others : AreByOthers rosters.by_number seat.thread between
  pub named : (names : List ℕ) → seat.names ≡ Some names → All (λ (entry : EntryWithObjects Object). Contains names (rosters.by_number entry)) roster.entries
  pub rest : IsAtRest roster
  pub kept : AreKept (λ (door : KeptDoor). door.port_seat.names) 0 roster.doors (state roster).loopers
  pub objects : map (λ (door : KeptDoor). door_object (arc_value door.port) (arc_value door.desk)) roster.doors ≡ objects_of roster.entries

-- of each looper, in order, these are the port and the desk
abbrev pub AreBooksOf : List Joined → List PortData → List DeskData → Type 0
AreBooksOf [] [] [] = Unit {0}
AreBooksOf (j ∷ js) (port ∷ ports) (desk ∷ desks) = (IsPortOf j.door.port_seat port × IsDeskOf j.door.desk_seat desk) × AreBooksOf js ports desks
AreBooksOf _ _ _ = ⊥
