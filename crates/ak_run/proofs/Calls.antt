-- Main's calls through its door to one looper.
use Rattle.std.proofs.Common.{◌≡◌, ℕ, ◌+◌, ◌<◌, List, [], ◌++◌, length, refl, sym, ap, ◌∙◌, subst, append-nil, Option, None, Some, Result, vec_capacity, arith}
use Rattle.std.specs.Prelude.{IfSome, get_or, option_map, set, slice_get}
use Rattle.std.proofs.lemmas.List.Elements.{All-get_or}
use Rattle.std.proofs.lemmas.List.{get_or-set_same, length-set}
use Rattle.std.proofs.lemmas.Option.{slice_get_read}
use Rattle.ak_base.specs.Thread.{main_thread}
use Rattle.ak_turn.specs.Called.{KeepsSeat}
use Rattle.ak_turn.specs.Entries.{StartsWith}
use Rattle.ak_turn.specs.declared.clock.Clock.{Clock}
use Rattle.ak_turn.proofs.Surface.{answered_keeps, answered_starts, keeps_same, starts_then_starts}
use Rattle.ak_roster.specs.declared.head.AppHead.{AppHead}
use Rattle.ak_port.specs.declared.port_entry.PortEntry.{PortEntry}
use Rattle.ak_port.specs.declared.port_entry.PortEvent.{PortEvent}
use Rattle.ak_port.specs.PortCalls as at_ports
use Rattle.ak_port.specs.ReplySeats.{ReplySeat}
use Rattle.ak_flatten.specs.Item.{ItemData}
use Rattle.ak_messenger.specs.Asks.{AskTells}
use Rattle.ak_messenger.specs.declared.asking.Reply.{Reply}
use Rattle.ak_messenger.specs.declared.fault.SendFault.{SendFault}
use Rattle.ak_desk.specs.declared.entry.DeskEvent.{DeskEvent}
use Rattle.ak_desk.specs.Desk.{entry_with, stamp_number}
use Rattle.ak_desk.specs.Shared as desks
use Rattle.ak_desk.specs.Shared.{DeskSeat}
use Rattle.ak_diary.specs.Step.{Step}
use Rattle.ak_headline.specs.Main.{MayEnterPort}
use Rattle.ak_headline.specs.Run.{EditsStarted}
use Rattle.ak_looper.specs.declared.door.Door.{Door}
use Rattle.ak_gather.specs.declared.member.Member.{Member}
use Rattle.ak_run.specs.declared.run.Run.{Run}
use Rattle.ak_looper.specs.Counting.{started_by_main}
use Rattle.ak_run.specs.Doing.{AskedSo, DoesSo, EnteredSo, desk_front}
use Rattle.ak_team.specs.Doors.{KeepsDoor, KeepsSeats}
use Rattle.ak_run.specs.Entering.{AreAtPorts}
use Rattle.ak_team.specs.InTime.{AddsAtPort}
use Rattle.ak_run.specs.Recording.{IsRecorded, fronts_of}
use Rattle.ak_gather.specs.Members.{IsMember}
use Rattle.ak_run.specs.Running.{IsRunning, IsStanding, KeepsRest, Stands}
use Rattle.ak_run.specs.Sending.{desk_seat_of, port_seat_of}
use Rattle.ak_run.specs.Starting.{GoesOn, GoesOnAtNew}
use Rattle.ak_run.proofs.Acting.{ActsAtBoth, answers_so, ask_acts, port_acts}
use Rattle.ak_run.proofs.Acts.{same_goes}
use Rattle.ak_run.proofs.Doing.{does_so}
use Rattle.ak_run.proofs.GoingOn.{desks_then, goes_beside, plain_on, same_desks, set_desks}
use Rattle.ak_run.proofs.RosterTurn.{RosterOn}
use Rattle.ak_run.proofs.Recorded.{beside_same, call_goes, fronts_same, record_by, sees_front}
use Rattle.ak_run.proofs.Standing.{BookOn, nothing_entered, one_called, same_book, same_loopers, stands_on}

-- ---- seats
-- what a call at the port leaves of the door
pub seats_of : (door door' : Door) → KeepsDoor door door' → KeepsSeats door door'
seats_of door door' keeps = record {
  port = keeps.port_seat;
  desk = keeps_same door.desk_seat door'.desk_seat keeps.desk_seat;
  desk_front = ap (λ (s : DeskSeat). s.front) keeps.desk_seat;
}

-- a call at a desk changes the seat's front and its own entries alone, and of the clock the time; the front goes on
pub desk_keeps : (e : Option DeskEvent) (k l : Clock) (a b : DeskSeat) → desks.HasAnswered e k l a b → KeepsSeat a b × StartsWith b.front a.front × (l.thread ≡ k.thread)
desk_keeps e k l a b answered =
    let keeps = answered_keeps desks.by_number stamp_number (entry_with None) e k l a b answered in
    (keeps.0, answered_starts desks.by_number stamp_number (entry_with None) e k l a b answered, keeps.1)

-- ---- the door to a looper
-- it is main's own
pub main_has : (next : ℕ) (heads : List AppHead) (r : Run) (place : ℕ) (m : Member) → place < length r.members.items → get_or r.members.items place m ≡ m → Stands next heads r → m.door.port_seat.thread ≡ main_thread
main_has next heads r place m within there stands =
    let each = IsMember heads r.shared r.roster_seat in
    let was : each m = subst each there (All-get_or each r.members.items place m within stands.each) in
    was.by_main

-- a call through it
module _ (r r' : Run) (place : ℕ) (m : Member) (door : Door) (within : place < length r.members.items) (there : get_or r.members.items place m ≡ m) (is : r'.members.items ≡ set r.members.items place (record m { door = door })) (roster : r'.roster_seat ≡ r.roster_seat) where
  pub roster_front : StartsWith r'.roster_seat.front r.roster_seat.front
  roster_front = ([], ap (λ s. s.front) roster ∙ sym (append-nil r.roster_seat.front))

  abbrev pub Acts : (List Step → Type 0) → Type 0
  Acts P = ActsAtBoth place r.hands.clock.time r'.hands.clock.time P r.hands.book_seat.front r'.hands.book_seat.front m.door.port_seat.front door.port_seat.front

  pub one_goes : (P : List Step → Type 0) → KeepsSeats m.door door → vec_capacity r'.members ≡ vec_capacity r.members → KeepsRest r r' → BookOn r r' → Acts P → GoesOn r r'
  one_goes P keeps capacity rest book acts =
      goes_beside r r' rest (λ heads next stands. nothing_entered heads r.roster_seat r'.roster_seat roster stands.roster_known) roster_front book
      (λ next heads stands. one_called next heads r r' place m door within there keeps.port keeps.desk is capacity stands)
      (ap length is ∙ length-set r.members.items place (record m { door = door }))
      (λ new. record { steps = acts.steps; goes = call_goes r r' place m door within there is acts.steps roster acts.acts acts.goes new; no_edits = acts.goes.no_edits })
      (set_desks r r' place m (record m { door = door }) within there is keeps.desk_front)

  -- and what main did by it
  pub one_does : (P : List Step → Type 0) → door.desk_seat.front ≡ m.door.desk_seat.front → Acts P → DoesSo P r r'
  one_does P same acts =
      does_so P acts.steps r r' acts.so (call_goes r r' place m door within there is acts.steps roster acts.acts acts.goes []) (plain_on r.roster_seat r'.roster_seat roster_front)
      (set_desks r r' place m (record m { door = door }) within there is same) acts.goes.no_edits

  -- so the run runs on, where each edit is of a looper that main had started
  pub one_runs : (P : List Step → Type 0) → KeepsSeat m.door.port_seat door.port_seat → KeepsSeat m.door.desk_seat door.desk_seat → vec_capacity r'.members ≡ vec_capacity r.members → KeepsRest r r' → BookOn r r' → (did : DoesSo P r r') → (running : IsRunning r)
      → ((steps : List Step) → IsRecorded steps (fronts_of r) → EditsStarted running.heads steps → EditsStarted running.heads (steps ++ did.steps)) → IsRunning r'
  one_runs P port desk capacity rest book did running edits_on =
      let here = length r.members.items in
      let heads = running.heads in
      let count : length r'.members.items ≡ here = ap length is ∙ length-set r.members.items place (record m { door = door }) in
      record {
        heads = heads;
        stands = subst (λ n. Stands n heads r') (sym count)
            (stands_on here heads 0 r r' rest (nothing_entered heads r.roster_seat r'.roster_seat roster running.stands.roster_known) book (one_called here heads r r' place m door within there port desk is capacity running.stands) running.stands);
        all = ap (started_by_main heads) roster ∙ running.all ∙ sym count;
        recorded = record_by heads (fronts_of r) (fronts_of r') (desk_front r) (desk_front r') did.steps did.does.goes did.does.desks running.recorded
            (edits_on running.recorded.did running.recorded.recorded running.recorded.started);
      }

  -- by one entry at its port, or none, by what it answers
  pub post_acts : (e : Option PortEvent) → m.door.port_seat.thread ≡ main_thread → IfSome e MayEnterPort → at_ports.HasAnswered e r.hands.clock r'.hands.clock m.door.port_seat door.port_seat → r'.hands.book_seat ≡ r.hands.book_seat → Acts (λ steps. EnteredSo place r' steps e)
  post_acts e main may answered book =
      subst (λ (s : ReplySeat). ActsAtBoth place r.hands.clock.time r'.hands.clock.time (λ steps. EnteredSo place r' steps e) r.hands.book_seat.front s.front m.door.port_seat.front door.port_seat.front) (sym book)
      (answers_so place e r.hands.clock r'.hands.clock m.door.port_seat door.port_seat r.hands.book_seat.front r' main (sees_front r r' place m door within there is) may answered)

  pub post_goes : (e : Option PortEvent) → m.door.port_seat.thread ≡ main_thread → IfSome e MayEnterPort → at_ports.HasAnswered e r.hands.clock r'.hands.clock m.door.port_seat door.port_seat → r'.hands.book_seat ≡ r.hands.book_seat → KeepsSeats m.door door
      → vec_capacity r'.members ≡ vec_capacity r.members → KeepsRest r r' → GoesOn r r'
  post_goes e main may answered book keeps capacity rest = one_goes (λ steps. EnteredSo place r' steps e) keeps capacity rest (same_book r r' book) (post_acts e main may answered book)

  -- by an ask
  pub asked_acts : (item : ItemData) (sent : Result Reply SendFault) → r.hands.book_seat.thread ≡ main_thread → m.door.port_seat.thread ≡ main_thread → AskTells item r.hands.clock r'.hands.clock r.hands.book_seat r'.hands.book_seat m.door.port_seat door.port_seat sent
      → Acts (AskedSo place item sent r')
  asked_acts item sent book_main main tells = ask_acts place item r.hands.clock r'.hands.clock r.hands.book_seat r'.hands.book_seat m.door.port_seat door.port_seat book_main main r' (sees_front r r' place m door within there is) sent tells

  pub ask_goes : (item : ItemData) (sent : Result Reply SendFault) → r.hands.book_seat.thread ≡ main_thread → m.door.port_seat.thread ≡ main_thread → AskTells item r.hands.clock r'.hands.clock r.hands.book_seat r'.hands.book_seat m.door.port_seat door.port_seat sent
      → KeepsSeats m.door door → vec_capacity r'.members ≡ vec_capacity r.members → KeepsRest r r' → BookOn r r' → GoesOn r r'
  ask_goes item sent book_main main tells keeps capacity rest book = one_goes (AskedSo place item sent r') keeps capacity rest book (asked_acts item sent book_main main tells)

-- which was at its port alone, by what it made there
pub port_alone : (place time later : ℕ) (book book' : ReplySeat) (a b : List PortEntry) → book' ≡ book → AddsAtPort time later a b → ActsAtBoth place time later AreAtPorts book.front book'.front a b
port_alone place time later book book' a b same adds = subst (λ (s : ReplySeat). ActsAtBoth place time later AreAtPorts book.front s.front a b) (sym same) (port_acts place time later book.front a b adds)

-- no call at all: nothing of it changed
pub goes_same : (r r' : Run) → KeepsRest r r' → r'.hands.clock.time ≡ r.hands.clock.time → r'.members ≡ r.members → r'.roster_seat ≡ r.roster_seat → r'.hands.book_seat ≡ r.hands.book_seat → GoesOn r r'
goes_same r r' rest time members roster book =
    goes_beside r r' rest (λ heads next stands. nothing_entered heads r.roster_seat r'.roster_seat roster stands.roster_known)
    ([], ap (λ s. s.front) roster ∙ sym (append-nil r.roster_seat.front)) (same_book r r' book)
    (λ next heads stands. same_loopers next heads r r' members stands) (ap (λ v. length v.items) members)
    (beside_same r r' time members (ap (λ s. s.front) roster) (ap (λ s. s.front) book)) (same_desks r r' members)

-- nothing but at the port of a looper that is about to start
pub goes_at_new : (r r' : Run) → KeepsRest r r' → r'.members ≡ r.members → r'.roster_seat ≡ r.roster_seat → r'.hands.book_seat ≡ r.hands.book_seat → GoesOnAtNew r r'
goes_at_new r r' rest members roster book =
    let entered : (heads : List AppHead) (next : ℕ) → Stands next heads r → RosterOn heads 0 r.roster_seat r'.roster_seat = λ heads next stands. nothing_entered heads r.roster_seat r'.roster_seat roster stands.roster_known in
    record {
      stands = λ next heads k. stands_on next heads 0 r r' rest (entered heads next k) (same_book r r' book) (same_loopers next heads r r' members k) k;
      started = λ next heads k. (entered heads next k).started ∙ nothing_more (started_by_main heads r.roster_seat);
      count = ap (λ v. length v.items) members;
      on = ([], ap (λ s. s.front) roster ∙ sym (append-nil r.roster_seat.front));
      shared = rest.shared;
      apps = rest.apps;
      slots = rest.slots;
      desks_on = same_desks r r' members;
    }
  where
    nothing_more : (n : ℕ) → n + 0 ≡ n
    nothing_more n = omega arith

-- where main called elsewhere before
pub goes_then_at_new : (r s t : Run) → GoesOn r s → GoesOnAtNew s t → GoesOnAtNew r t
goes_then_at_new r s t a b = record {
  stands = λ next heads k. b.stands next heads (a.stands next heads k);
  started = λ next heads k. b.started next heads (a.stands next heads k) ∙ a.started next heads k;
  count = b.count ∙ a.count;
  on = starts_then_starts r.roster_seat.front s.roster_seat.front t.roster_seat.front a.on b.on;
  shared = b.shared ∙ a.shared;
  apps = b.apps ∙ a.apps;
  slots = b.slots ∙ a.slots;
  desks_on = desks_then r s t a.desks_on b.desks_on;
}

-- and main did nothing
pub does_same : (P : List Step → Type 0) (r r' : Run) → P [] → r'.hands.clock.time ≡ r.hands.clock.time → r'.members ≡ r.members → r'.roster_seat ≡ r.roster_seat → r'.hands.book_seat.front ≡ r.hands.book_seat.front → DoesSo P r r'
does_same P r r' so time members roster book =
    let front = ap (λ s. s.front) roster in
    does_so P [] r r' so (same_goes (fronts_of r) (fronts_of r') (fronts_same r r' time members front book [])) (plain_on r.roster_seat r'.roster_seat ([], front ∙ sym (append-nil r.roster_seat.front))) (same_desks r r' members) (λ looper. refl)

-- a run that runs stands
pub running_stands : (r : Run) → IsRunning r → IsStanding r
running_stands r is = record { next = length r.members.items; heads = is.heads; stands = is.stands }

-- it stands further
pub stands_further : (r r' : Run) → GoesOn r r' → IsStanding r → IsStanding r'
stands_further r r' goes is = record { next = is.next; heads = is.heads; stands = goes.stands is.next is.heads is.stands }

-- ---- its seats in the list, before and after
module _ (ms : List Member) (place : ℕ) (m : Member) (within : place < length ms) where
  pub there_before : get_or ms place m ≡ m → slice_get ms place ≡ Some m
  there_before there = slice_get_read ms (length ms) place m refl within (sym there)

  pub there_after : (m' : Member) → slice_get (set ms place m') place ≡ Some m'
  there_after m' = slice_get_read (set ms place m') (length ms) place m' (sym (length-set ms place m')) within (sym (get_or-set_same ms place m' m' within))

pub port_before : (r : Run) (place : ℕ) (m : Member) → place < length r.members.items → get_or r.members.items place m ≡ m → port_seat_of r place ≡ Some m.door.port_seat
port_before r place m within there = ap (option_map (λ (x : Member). x.door.port_seat)) (there_before r.members.items place m within there)

pub desk_before : (r : Run) (place : ℕ) (m : Member) → place < length r.members.items → get_or r.members.items place m ≡ m → desk_seat_of r place ≡ Some m.door.desk_seat
desk_before r place m within there = ap (option_map (λ (x : Member). x.door.desk_seat)) (there_before r.members.items place m within there)

pub port_after : (ms : List Member) (place : ℕ) (m : Member) → place < length ms → option_map (λ (x : Member). x.door.port_seat) (slice_get (set ms place m) place) ≡ Some m.door.port_seat
port_after ms place m within = ap (option_map (λ (x : Member). x.door.port_seat)) (there_after ms place m within m)

pub desk_after : (ms : List Member) (place : ℕ) (m : Member) → place < length ms → option_map (λ (x : Member). x.door.desk_seat) (slice_get (set ms place m) place) ≡ Some m.door.desk_seat
desk_after ms place m within = ap (option_map (λ (x : Member). x.door.desk_seat)) (there_after ms place m within m)
