-- A run stands on, whatever main's call changes.
use Rattle.std.proofs.Common.{◌≡◌, ℕ, ◌+◌, ◌<◌, ◌≤◌, List, [], length, map, sym, ap, ◌∙◌, subst, append-nil, arith, All, vec_capacity, Some}
use Rattle.std.specs.Prelude.{get_or, set, slice_get}
use Rattle.std.proofs.lemmas.List.Elements.{All-get_or, All-set, All-weaker}
use Rattle.std.proofs.lemmas.List.{length-set}
use Rattle.std.proofs.Math.Seq.{map-set_same}
use Rattle.std.specs.List.{range_with_len}
use Rattle.ak_base.specs.Limits.{looper_limit}
use Rattle.ak_turn.specs.Called.{KeepsSeat}
use Rattle.ak_turn.specs.Entries.{StartsWith}
use Rattle.ak_turn.specs.Seats.{KnowsWhole, LockId}
use Rattle.ak_turn.proofs.Surface.{keeps_same, starts_then_starts}
use Rattle.ak_roster.specs.declared.entry.EntryWithObjects.{EntryWithObjects}
use Rattle.ak_roster.specs.Roster.{objects_of}
use Rattle.ak_roster.specs.declared.head.AppHead.{AppHead}
use Rattle.ak_port.specs.ReplySeats as books
use Rattle.ak_describe.specs.Whole.{IsWholeApp, heads_of}
use Rattle.ak_looper.specs.declared.door.Door.{Door}
use Rattle.ak_looper.specs.Rosters as rosters
use Rattle.ak_looper.specs.Rosters.{LeadsTo, Object, RosterSeat}
use Rattle.ak_looper.specs.Doors.{door_object}
use Rattle.ak_looper.proofs.Surface.{leads_on}
use Rattle.ak_gather.specs.declared.member.Member.{Member}
use Rattle.ak_looper.specs.declared.shared.Shared.{Shared}
use Rattle.ak_run.specs.declared.run.Run.{Run}
use Rattle.ak_run.specs.declared.slots.Slots.{Slots}
use Rattle.ak_looper.specs.Counting.{started_by_main}
use Rattle.ak_gather.specs.Gathering.{HasRoomFor, HoldsNothing}
use Rattle.ak_gather.specs.Below.{AreBelow}
use Rattle.ak_run.specs.Running.{HasRoomToEnd, IsOpenedAs, KeepsRest, Stands}
use Rattle.ak_gather.specs.Members.{IsMember}
use Rattle.ak_run.specs.Sessions.{HasSlots, session_count, told_in}
use Rattle.ak_run.proofs.RosterTurn.{RosterOn}

-- ---- one looper
-- what the roster pairs with a looper it goes on pairing with it
pub leads_still : (looper : ℕ) (port desk : LockId) (seat seat' : RosterSeat) → StartsWith seat'.front seat.front → LeadsTo seat looper port desk → LeadsTo seat' looper port desk
leads_still looper port desk seat seat' on leads =
    ap (λ (front : List (EntryWithObjects Object)). slice_get (objects_of front) looper) on.1 ∙ leads_on seat.front on.0 looper (door_object port desk) leads

-- main has seen more at the roster
pub member_sees : (heads : List AppHead) (shared : Shared) (seat seat' : RosterSeat) → StartsWith seat'.front seat.front → (m : Member) → IsMember heads shared seat m → IsMember heads shared seat' m
member_sees heads shared seat seat' on m is = record {
  number = is.number;
  ready = is.ready;
  at_port = is.at_port;
  at_desk = is.at_desk;
  leads = leads_still m.number m.door.port_seat.lock m.door.desk_seat.lock seat seat' on is.leads;
  no_head = is.no_head;
  own_no_head = is.own_no_head;
  at_book = is.at_book;
  at_roster = is.at_roster;
  heads_are = is.heads_are;
  seen = starts_then_starts m.job.value.roster_seat.front seat.front seat'.front is.seen on;
  begins = is.begins;
  by_main = is.by_main;
  taker = is.taker;
  taker_is = is.taker_is;
  port_opening = is.port_opening;
  desk = is.desk;
  desk_opening = is.desk_opening;
  job_desk = is.job_desk;
  life = is.life;
}

-- main called through its door
abbrev with_door : Member → Door → Member
with_door m door = record m { door = door }

pub member_calls : (heads : List AppHead) (shared : Shared) (seat : RosterSeat) (m : Member) (door : Door) → KeepsSeat m.door.port_seat door.port_seat → KeepsSeat m.door.desk_seat door.desk_seat → IsMember heads shared seat m → IsMember heads shared seat (with_door m door)
member_calls heads shared seat m door port desk is = record {
  number = is.number;
  ready = is.ready;
  at_port = is.at_port ∙ sym port.lock;
  at_desk = is.at_desk ∙ sym desk.lock;
  leads =
      is.leads ∙ ap (λ (lock : LockId). Some (door_object lock m.door.desk_seat.lock)) (sym port.lock)
      ∙ ap (λ (lock : LockId). Some (door_object door.port_seat.lock lock)) (sym desk.lock);
  no_head = record { at_port = port.names ∙ is.no_head.at_port; at_desk = desk.names ∙ is.no_head.at_desk };
  own_no_head = is.own_no_head;
  at_book = is.at_book;
  at_roster = is.at_roster;
  heads_are = is.heads_are;
  seen = is.seen;
  begins = is.begins;
  by_main = port.thread ∙ is.by_main;
  taker = is.taker;
  taker_is = is.taker_is;
  port_opening = port.opening ∙ is.port_opening;
  desk = is.desk;
  desk_opening = desk.opening ∙ is.desk_opening;
  job_desk = is.job_desk;
  life = is.life;
}

-- ---- the run
room_still : (r r' : Run) → KeepsRest r r' → HasRoomToEnd r → HasRoomToEnd r'
room_still r r' keeps has = record {
  joined = subst HoldsNothing (sym keeps.joined) has.joined;
  ports = ap (λ v. v.items) keeps.ports ∙ has.ports;
  desks = ap (λ v. v.items) keeps.desks ∙ has.desks;
  for_joined = subst (HasRoomFor looper_limit) (sym keeps.joined) has.for_joined;
  for_ports = subst (λ v. looper_limit ≤ vec_capacity v) (sym keeps.ports) has.for_ports;
  for_desks = subst (λ v. looper_limit ≤ vec_capacity v) (sym keeps.desks) has.for_desks;
}

-- the sessions are as they were
pub slots_still : (heads : List AppHead) (r r' : Run) → KeepsRest r r' → HasSlots heads r.shared r.slots → HasSlots heads r'.shared r'.slots
slots_still heads r r' keeps has = subst (λ (s : Slots). HasSlots heads r'.shared s) (sym keeps.slots) (subst (λ (s : Shared). HasSlots heads s r.slots) (sym keeps.shared) has)

-- no looper more: as many as before, with the same numbers, in a list with as much room
pub record SameLoopers (heads : List AppHead) (r r' : Run) : Type 0 where
  pub numbers : map (λ (m : Member). m.number) r'.members.items ≡ map (λ (m : Member). m.number) r.members.items
  pub count : length r'.members.items ≡ length r.members.items
  pub capacity : vec_capacity r'.members ≡ vec_capacity r.members
  pub each : All (IsMember heads r.shared r.roster_seat) r'.members.items
  pub opened : All (IsOpenedAs r.apps.items) r'.members.items

-- main's seat at the reply book
pub record BookOn (r r' : Run) : Type 0 where
  pub keeps : KeepsSeat r.hands.book_seat r'.hands.book_seat
  pub known : KnowsWhole books.maker_of r.hands.book_seat → KnowsWhole books.maker_of r'.hands.book_seat

pub stands_on : (next : ℕ) (heads : List AppHead) (more : ℕ) (r r' : Run) → KeepsRest r r' → RosterOn heads more r.roster_seat r'.roster_seat → BookOn r r' → SameLoopers heads r r' → Stands next heads r → Stands next heads r'
stands_on next heads more r r' keeps roster book same stands = record {
  whole = subst (λ v. All IsWholeApp v.items) (sym keeps.apps) stands.whole;
  heads_are = stands.heads_are ∙ ap (λ v. heads_of v.items) (sym keeps.apps);
  opening = roster.keeps.opening ∙ stands.opening;
  roster_known = roster.known;
  roster_names = subst (λ (s : Slots). AreBelow (length (told_in s)) next r'.roster_seat.names) (sym keeps.slots) (subst (AreBelow (session_count r) next) (sym roster.keeps.names) stands.roster_names);
  book_known = book.known stands.book_known;
  book_names = subst (λ (s : Slots). AreBelow (length (told_in s)) next r'.hands.book_seat.names) (sym keeps.slots) (subst (AreBelow (session_count r) next) (sym book.keeps.names) stands.book_names);
  numbers = same.numbers ∙ stands.numbers ∙ ap (range_with_len 0) (sym same.count);
  each = subst (λ shared. All (IsMember heads shared r'.roster_seat) r'.members.items) (sym keeps.shared) (All-weaker (IsMember heads r.shared r.roster_seat) (IsMember heads r.shared r'.roster_seat) (member_sees heads r.shared r.roster_seat r'.roster_seat roster.on) r'.members.items same.each);
  opened = subst (λ v. All (IsOpenedAs v.items) r'.members.items) (sym keeps.apps) same.opened;
  few = subst (λ n. n ≤ looper_limit) (sym same.count) stands.few;
  room = subst (λ n. looper_limit ≤ n) (sym same.capacity) stands.room;
  ready = room_still r r' keeps stands.ready;
  sessions = slots_still heads r r' keeps stands.sessions;
}

-- nothing of the kind changed
pub nothing_entered : (heads : List AppHead) (seat seat' : RosterSeat) → seat' ≡ seat → KnowsWhole rosters.by_number seat → RosterOn heads 0 seat seat'
nothing_entered heads seat seat' same known = record {
  keeps = keeps_same seat seat' same;
  on = ([], ap (λ (s : RosterSeat). s.front) same ∙ sym (append-nil seat.front));
  started = ap (started_by_main heads) same ∙ nothing_more (started_by_main heads seat);
  known = subst (KnowsWhole rosters.by_number) (sym same) known;
}
  where
    nothing_more : (n : ℕ) → n ≡ n + 0
    nothing_more n = omega arith

pub same_book : (r r' : Run) → r'.hands.book_seat ≡ r.hands.book_seat → BookOn r r'
same_book r r' same = record { keeps = keeps_same r.hands.book_seat r'.hands.book_seat same; known = subst (KnowsWhole books.maker_of) (sym same) }

pub same_loopers : (next : ℕ) (heads : List AppHead) (r r' : Run) → r'.members ≡ r.members → Stands next heads r → SameLoopers heads r r'
same_loopers next heads r r' same stands = record {
  numbers = ap (λ v. map (λ (m : Member). m.number) v.items) same;
  count = ap (λ v. length v.items) same;
  capacity = ap vec_capacity same;
  each = subst (λ v. All (IsMember heads r.shared r.roster_seat) v.items) (sym same) stands.each;
  opened = subst (λ v. All (IsOpenedAs r.apps.items) v.items) (sym same) stands.opened;
}

-- one looper's door was used
pub one_called : (next : ℕ) (heads : List AppHead) (r r' : Run) (place : ℕ) (m : Member) (door : Door) → place < length r.members.items → get_or r.members.items place m ≡ m → KeepsSeat m.door.port_seat door.port_seat → KeepsSeat m.door.desk_seat door.desk_seat
    → r'.members.items ≡ set r.members.items place (with_door m door) → vec_capacity r'.members ≡ vec_capacity r.members → Stands next heads r → SameLoopers heads r r'
one_called next heads r r' place m door within there port desk is capacity stands =
    let number = λ (x : Member). x.number in
    let old = r.members.items in
    let each = IsMember heads r.shared r.roster_seat in
    let was : each m = subst each there (All-get_or each old place m within stands.each) in
    let opens = IsOpenedAs r.apps.items in
    let o : opens m = subst opens there (All-get_or opens old place m within stands.opened) in
    let opened : opens (with_door m door) = record { desk = o.desk; desk_is = o.desk_is; opens = o.opens } in
    record {
      numbers = ap (map number) is ∙ map-set_same number old place (with_door m door) m (ap number (sym there));
      count = ap length is ∙ length-set old place (with_door m door);
      capacity = capacity;
      opened = subst (All opens) (sym is) (All-set opens old place (with_door m door) opened stands.opened);
      each = subst (All each) (sym is) (All-set each old place (with_door m door) (member_calls heads r.shared r.roster_seat m door port desk was) stands.each);
    }
