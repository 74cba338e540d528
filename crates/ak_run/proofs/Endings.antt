-- A run that went on to its end and was gathered.
use Rattle.std.proofs.Common.{◌≡◌, ◌≤◌, ◌+◌, ℕ, zero, suc, true, is_some, List, length, map, All, Option, None, Some, refl, sym, ap, ◌∙◌, subst, arith}
use Rattle.std.specs.Prelude.{slice_get}
use Rattle.std.specs.List.{list_all, range_with_len}
use Rattle.std.proofs.lemmas.List.{length-map}
use Rattle.ak_base.specs.Thread.{main_thread}
use Rattle.ak_turn.specs.Entries.{made_by}
use Rattle.ak_turn.specs.Seats.{SeatData}
use Rattle.ak_roster.specs.declared.entry.EntryWithObjects.{EntryWithObjects}
use Rattle.ak_roster.specs.declared.head.AppHead.{AppHead}
use Rattle.ak_roster.specs.Roster.{RosterData, plain_entries}
use Rattle.ak_describe.specs.Whole.{heads_of}
use Rattle.ak_diary.specs.declared.histories.Histories.{Histories}
use Rattle.ak_diary.specs.Step.{AreStamped, Step}
use Rattle.ak_headline.specs.Main.{IsMainDiary}
use Rattle.ak_headline.specs.Run.{EditsStarted, HasDone, HasSession, IsRunWith, IsSession}
use Rattle.ak_looper.specs.declared.kept_door.KeptDoor.{KeptDoor}
use Rattle.ak_looper.specs.Rosters as rosters
use Rattle.ak_looper.specs.Rosters.{Object, RosterSeat}
use Rattle.ak_port.specs.ReplySeats.{ReplySeat}
use Rattle.ak_gather.specs.declared.gathering.Joined.{Joined}
use Rattle.ak_gather.specs.declared.member.Member.{Member}
use Rattle.ak_run.specs.declared.run.Run.{Run}
use Rattle.ak_run.specs.declared.slots.Slots.{Slots}
use Rattle.ak_session.specs.declared.session.Session.{Session}
use Rattle.ak_session.specs.Stands.{Stands}
use Rattle.ak_looper.specs.Counting.{started_in}
use Rattle.ak_gather.specs.Ending.{IsRunOfLoopers}
use Rattle.ak_gather.specs.Gathering.{GoesOnKnowing, IsJoined, IsRosterOf}
use Rattle.ak_run.specs.AtEnd.{SessionDone, SessionsDone}
use Rattle.ak_gather.specs.Below.{AreBelow}
use Rattle.ak_run.specs.Running.{IsRunning}
use Rattle.ak_run.specs.Sessions.{Told, all_closed, session_count, session_limit, sessions_of, told_in}
use Rattle.ak_run.specs.Starting.{GoesOn}
use Rattle.ak_run.proofs.GoingOn.{still_running}
use Rattle.ak_gather.proofs.Surface.{all_joined_still, knows_further, AllAreJoined, at_place}
use Rattle.ak_run.proofs.SlotsStand.{came_of, closed_at, closed_one}

-- the head stays the head, of the same names
still_below : {O L : Type 0} (sessions next : ℕ) (seat seat' : SeatData O L) → GoesOnKnowing seat seat' → AreBelow sessions next seat.names → AreBelow sessions next seat'.names
still_below {O} {L} sessions next seat seat' on below = by_names seat.names refl below
  where
    by_names : (names : Option (List ℕ)) → seat.names ≡ names → AreBelow sessions next names → AreBelow sessions next seat'.names
    by_names None is all = absurd all
    by_names (Some ns) is all = subst (AreBelow sessions next) (sym (on.head ns is)) all

module _ (r : Run) (runs : IsRunning r) (main : RosterSeat) (on : GoesOnKnowing r.roster_seat main) (js : List Joined) (numbers : map (λ (j : Joined). j.number) js ≡ map (λ (m : Member). m.number) r.members.items) where
  pub as_many : length js ≡ length r.members.items
  as_many = sym (length-map js (λ (j : Joined). j.number)) ∙ ap (λ (ns : List ℕ). length ns) numbers ∙ length-map r.members.items (λ (m : Member). m.number)

  -- main's seats took in what the seats of the loopers knew, and then those of the sessions
  pub joined_all : (main' : RosterSeat) (at_book at_book' : ReplySeat) (roster : RosterData KeptDoor Object) → GoesOnKnowing main main' → GoesOnKnowing at_book at_book' → All (IsJoined runs.heads main at_book) js → IsRosterOf main' roster
      → AllAreJoined runs.heads main' at_book' js roster
  joined_all main' at_book at_book' roster further further_book joined of = record {
    opening = further.opening ∙ on.opening ∙ runs.stands.opening;
    by_main = further.thread ∙ on.thread ∙ r.roster_thread ∙ r.main;
    joined = all_joined_still runs.heads main main' at_book at_book' js further further_book joined;
    numbers = numbers ∙ runs.stands.numbers ∙ ap (range_with_len 0) (sym as_many);
    started = ap (λ (front : List (EntryWithObjects Object)). started_in runs.heads (made_by rosters.maker_of main_thread (plain_entries front))) (further.front ∙ on.front) ∙ runs.all ∙ sym as_many;
    of = of;
  }

  pub roster_below : (main' : RosterSeat) → GoesOnKnowing main main' → AreBelow (session_count r) (length js) main'.names
  roster_below main' further = still_below (session_count r) (length js) r.roster_seat main' (knows_further r.roster_seat main main' on further) (subst (λ (n : ℕ). AreBelow (session_count r) n r.roster_seat.names) (sym as_many) runs.stands.roster_names)

  pub book_below : (at_book : ReplySeat) → GoesOnKnowing r.hands.book_seat at_book → AreBelow (session_count r) (length js) at_book.names
  book_below at_book on_book = still_below (session_count r) (length js) r.hands.book_seat at_book on_book (subst (λ (n : ℕ). AreBelow (session_count r) n r.hands.book_seat.names) (sym as_many) runs.stands.book_names)

-- ---- the whole run: what is known of the loopers, with the diaries of main and the sessions
pub whole : (heads : List AppHead) (short : List ℕ) (sessions : ℕ) (h : Histories) → IsRunOfLoopers heads short sessions h → (main : List Step) → IsMainDiary main → AreStamped 0 main → HasDone h main_thread main → EditsStarted heads main → sessions ≤ session_limit
    → ((number : ℕ) → IsSession sessions number → HasSession h number) → IsRunWith sessions heads short h
whole heads short sessions h run main diary stamped done started few each = record {
  histories = run.histories;
  all = run.all;
  loopers = run.loopers;
  short_are = run.short_are;
  short_once = run.short_once;
  main = main;
  main_diary = diary;
  main_stamped = stamped;
  main_done = done;
  main_edits = started;
  few_sessions = omega (arith, few);
  each_session = each;
  roster_makers = run.roster_makers;
  book_makers = run.book_makers;
  port_makers = run.port_makers;
  desk_makers = run.desk_makers;
}

-- each session has its diary, since each was closed
pub each_session : (r : Run) (h : Histories) → IsRunning r → all_closed r ≡ true → SessionsDone r h → (number : ℕ) → IsSession (session_count r) number → HasSession h number
each_session r h runs closed done zero within = absurd (omega (arith, within.0))
each_session r h runs closed done (suc place) within =
    let stands = runs.stands.sessions in
    let told = at_place (sessions_of r) place (omega (arith, within.1)) in
    let one = closed_one told.0 (closed_at (sessions_of r) place told.0 closed told.1) in
    let came = came_of runs.heads r.shared place told.0 one.0 (stands.each place told.0 told.1) one.1 in
    let there : slice_get (sessions_of r) place ≡ Some (told.0.0, Some one.0) = told.1 ∙ ap (λ (o : Option Session). Some (told.0.0, o)) one.1 in
    let did = done place told.0.0 one.0 there came.heads told.0.0.hands.clock.time came.steps came.stands in
    record { time = told.0.0.hands.clock.time; steps = came.steps; stamped = came.stands.stamped; diary = came.diary; done = subst (λ (n : ℕ). HasDone h n came.steps) (next place) did.done }
  where
    next : (n : ℕ) → n + 1 ≡ suc n
    next n = omega arith

-- sessions that a run had open before it went on
pub sessions_further : (r r' : Run) (h : Histories) → GoesOn r r' → SessionsDone r' h → SessionsDone r h
sessions_further r r' h goes done = subst (λ (s : Slots). (place : ℕ) (opened closed : Session) → slice_get (told_in s) place ≡ Some (opened, Some closed) → (heads : List AppHead) (start : ℕ) (steps : List Step) → Stands heads start steps closed → SessionDone h (place + 1) steps) goes.slots done

pub closed_further : (r r' : Run) → GoesOn r r' → all_closed r ≡ true → all_closed r' ≡ true
closed_further r r' goes closed = ap (λ (s : Slots). list_all (λ (t : Told). is_some t.1) (told_in s)) goes.slots ∙ closed

pub as_many_sessions : (r r' : Run) → GoesOn r r' → session_count r' ≡ session_count r
as_many_sessions r r' goes = ap (λ (s : Slots). length (told_in s)) goes.slots

-- a run that went on, and started nothing
pub runs_on : (r r' : Run) → GoesOn r r' → IsRunning r → IsRunning r'
runs_on r r' goes runs = still_running r r' goes runs

pub same_heads_of : (r r' : Run) → GoesOn r r' → heads_of r'.apps.items ≡ heads_of r.apps.items
same_heads_of r r' goes = ap (λ (apps : _). heads_of apps.items) goes.apps
