-- A looper whose thread was joined.
use Rattle.std.proofs.Common.{◌≡◌, ℕ, List, ◌∷◌, All, Any, Contains, Option, Some, refl, sym, ap, ◌∙◌, subst, arith}
use Rattle.std.specs.Prelude.{slice_get}
use Rattle.std.proofs.lemmas.List.Elements.{All-weaker, Contains-append_left, Contains-append_right}
use Rattle.ak_base.specs.Thread.{looper_thread}
use Rattle.ak_turn.specs.Entries.{StartsWith}
use Rattle.ak_turn.specs.Seats.{LockId, SeatData, joined_seat, part_of}
use Rattle.ak_turn.specs.Steps.{either_names}
use Rattle.ak_roster.specs.declared.entry.EntryWithObjects.{EntryWithObjects}
use Rattle.ak_roster.specs.declared.head.AppHead.{AppHead}
use Rattle.ak_roster.specs.Roster.{objects_of}
use Rattle.ak_port.specs.PortCalls.{PortSeat}
use Rattle.ak_port.specs.ReplySeats.{ReplySeat}
use Rattle.ak_action.specs.declared.state.DeskState.{DeskState}
use Rattle.ak_desk.specs.Shared.{DeskSeat}
use Rattle.ak_looper.specs.declared.door.Door.{Door}
use Rattle.ak_looper.specs.declared.job.LooperEnd.{LooperEnd}
use Rattle.ak_looper.specs.declared.job.LooperJob.{LooperJob}
use Rattle.ak_looper.specs.Job.{HasLived, IsReady, facts_of}
use Rattle.ak_looper.specs.Doors.{door_object}
use Rattle.ak_looper.specs.Rosters.{Object, RosterSeat}
use Rattle.ak_gather.specs.declared.gathering.Joined.{Joined}
use Rattle.ak_gather.specs.declared.member.Member.{Member}
use Rattle.ak_looper.specs.declared.shared.Shared.{Shared}
use Rattle.ak_looper.specs.NoHead.{HasNoNames}
use Rattle.ak_gather.specs.Gathering.{GoesOnKnowing, IsJoined, TookIn}
use Rattle.ak_looper.specs.Starts.{StartsAt}
use Rattle.ak_gather.specs.Members.{IsMember}

-- ---- a seat that takes in what another one knew
module _ {O L : Type 0} where
  pub took : (seat other both : SeatData O L) → both ≡ joined_seat seat other → TookIn other both
  took seat other both is = subst (λ (s : SeatData O L). Contains s.joined (part_of other)) (sym is) (Contains-append_right seat.joined (part_of other ∷ other.joined) (part_of other) (0, omega arith, refl))

  pub goes_on_knowing : (seat other both : SeatData O L) → both ≡ joined_seat seat other → GoesOnKnowing seat both
  goes_on_knowing seat other both is = record {
    lock = ap (λ (s : SeatData O L). s.lock) is;
    opening = ap (λ (s : SeatData O L). s.opening) is;
    thread = ap (λ (s : SeatData O L). s.thread) is;
    turn = ap (λ (s : SeatData O L). s.turn) is;
    front = ap (λ (s : SeatData O L). s.front) is;
    parts = λ part there. subst (λ (s : SeatData O L). Contains s.joined part) (sym is) (Contains-append_left seat.joined (part_of other ∷ other.joined) part there);
    head = λ names at. ap (λ (s : SeatData O L). s.names) is ∙ ap (λ (ns : Option (List ℕ)). either_names ns other.names) at;
  }

  pub knows_as_before : (seat : SeatData O L) → GoesOnKnowing seat seat
  knows_as_before seat = record { lock = refl; opening = refl; thread = refl; turn = refl; front = refl; parts = λ part there. there; head = λ names at. at }

  pub knows_further : (a b c : SeatData O L) → GoesOnKnowing a b → GoesOnKnowing b c → GoesOnKnowing a c
  knows_further a b c one two = record {
    lock = two.lock ∙ one.lock;
    opening = two.opening ∙ one.opening;
    thread = two.thread ∙ one.thread;
    turn = two.turn ∙ one.turn;
    front = two.front ∙ one.front;
    parts = λ part there. two.parts part (one.parts part there);
    head = λ names at. two.head names (one.head names at);
  }

-- ---- while others are joined
pub member_still : (heads : List AppHead) (shared : Shared) (roster roster' : RosterSeat) (m : Member) → GoesOnKnowing roster roster' → IsMember heads shared roster m → IsMember heads shared roster' m
member_still heads shared roster roster' m on is =
    record {
      number = is.number;
      ready = is.ready;
      at_port = is.at_port;
      at_desk = is.at_desk;
      leads = ap (λ (front : List (EntryWithObjects Object)). slice_get (objects_of front) m.number) on.front ∙ is.leads;
      no_head = is.no_head;
      own_no_head = is.own_no_head;
      at_book = is.at_book;
      at_roster = is.at_roster;
      heads_are = is.heads_are;
      seen = subst (λ (front : List (EntryWithObjects Object)). StartsWith front m.job.value.roster_seat.front) (sym on.front) is.seen;
      begins = is.begins;
      by_main = is.by_main;
      taker = is.taker;
      taker_is = is.taker_is;
      port_opening = is.port_opening;
      desk = is.desk;
      desk_opening = is.desk_opening;
      job_desk = is.job_desk;
      life = is.life;
    }

pub joined_still : (heads : List AppHead) (roster roster' : RosterSeat) (book book' : ReplySeat) (j : Joined) → GoesOnKnowing roster roster' → GoesOnKnowing book book' → IsJoined heads roster book j → IsJoined heads roster' book' j
joined_still heads roster roster' book book' j on_roster on_book is =
    record {
      number = is.number;
      ready = is.ready;
      lived = is.lived;
      heads_are = is.heads_are;
      seen = subst (λ (front : List (EntryWithObjects Object)). StartsWith front j.job.value.roster_seat.front) (sym on_roster.front) is.seen;
      at_roster = on_roster.parts (part_of j.end.value.roster_seat) is.at_roster;
      at_book = on_book.parts (part_of j.end.value.hands.book_seat) is.at_book;
      at_port = is.at_port;
      at_desk = is.at_desk;
      taker = is.taker;
      taker_is = is.taker_is;
      port_opening = is.port_opening;
      desk = is.desk;
      desk_opening = is.desk_opening;
      job_desk = is.job_desk;
      begins = is.begins;
      by_main = is.by_main;
      leads = ap (λ (front : List (EntryWithObjects Object)). slice_get (objects_of front) j.number) on_roster.front ∙ is.leads;
      kind = is.kind;
    }

pub all_joined_still : (heads : List AppHead) (roster roster' : RosterSeat) (book book' : ReplySeat) (js : List Joined) → GoesOnKnowing roster roster' → GoesOnKnowing book book'
    → All (IsJoined heads roster book) js → All (IsJoined heads roster' book') js
all_joined_still heads roster roster' book book' js on_roster on_book all =
    All-weaker (IsJoined heads roster book) (IsJoined heads roster' book') (λ j is. joined_still heads roster roster' book book' j on_roster on_book is) js all

-- ---- its thread gave this back, and main's seats took in what the thread's knew
pub is_joined : (heads : List AppHead) (shared : Shared) (roster roster' : RosterSeat) (book book' : ReplySeat) (m : Member) (end : LooperEnd) (j : Joined)
    → IsMember heads shared roster m → HasLived m.job.value end → j.number ≡ m.number → j.job.value ≡ m.job.value → j.end.value ≡ end → j.kind ≡ end.kind
    → roster' ≡ joined_seat roster end.roster_seat → book' ≡ joined_seat book end.hands.book_seat
    → j.door.port_seat ≡ joined_seat m.door.port_seat end.own.port_seat → j.door.desk_seat ≡ joined_seat m.door.desk_seat end.own.desk_seat
    → IsJoined heads roster' book' j
is_joined heads shared roster roster' book book' m end j is lived number job gave kind at_roster at_book at_port at_desk =
    record {
      number = ap (λ (job : LooperJob). job.number) job ∙ is.number ∙ sym number;
      ready = subst IsReady (sym job) is.ready;
      lived = subst (HasLived j.job.value) (sym gave) (subst (λ (job : LooperJob). HasLived job end) (sym job) lived);
      heads_are = ap (λ (job : LooperJob). job.roster_seat.opening) job ∙ is.heads_are;
      seen = subst (λ (job : LooperJob). StartsWith roster'.front job.roster_seat.front) (sym job) (subst (λ (s : RosterSeat). StartsWith s.front m.job.value.roster_seat.front) (sym at_roster) is.seen);
      at_roster = subst (λ (e : LooperEnd). TookIn e.roster_seat roster') (sym gave) (took roster end.roster_seat roster' at_roster);
      at_book = subst (λ (e : LooperEnd). TookIn e.hands.book_seat book') (sym gave) (took book end.hands.book_seat book' at_book);
      at_port = subst (λ (e : LooperEnd). TookIn e.own.port_seat j.door.port_seat) (sym gave) (took m.door.port_seat end.own.port_seat j.door.port_seat at_port);
      at_desk = subst (λ (e : LooperEnd). TookIn e.own.desk_seat j.door.desk_seat) (sym gave) (took m.door.desk_seat end.own.desk_seat j.door.desk_seat at_desk);
      taker = is.taker;
      taker_is = is.taker_is ∙ ap looper_thread (sym number);
      port_opening = ap (λ (s : PortSeat). s.opening) at_port ∙ is.port_opening;
      desk = is.desk;
      desk_opening = ap (λ (s : DeskSeat). s.opening) at_desk ∙ is.desk_opening;
      job_desk = ap (λ (job : LooperJob). job.own.desk_seat.opening) job ∙ is.job_desk;
      begins = subst (λ (job : LooperJob). (desk : DeskState) → Any (StartsAt (facts_of job heads desk) job.hands.clock.time) job.roster_seat.front) (sym job) is.begins;
      by_main = ap (λ (s : PortSeat). s.thread) at_port ∙ is.by_main;
      leads =
          ap (λ (s : RosterSeat). slice_get (objects_of s.front) j.number) at_roster ∙ ap (slice_get (objects_of roster.front)) number ∙ is.leads
          ∙ ap (λ (lock : LockId). Some (door_object lock m.door.desk_seat.lock)) (sym (ap (λ (s : PortSeat). s.lock) at_port))
          ∙ ap (λ (lock : LockId). Some (door_object j.door.port_seat.lock lock)) (sym (ap (λ (s : DeskSeat). s.lock) at_desk));
      kind = kind ∙ ap (λ (e : LooperEnd). e.kind) (sym gave);
    }

-- neither main's seats at its port and its desk nor the thread's were the heads
pub still_no_head : (heads : List AppHead) (shared : Shared) (roster : RosterSeat) (m : Member) (end : LooperEnd) (door : Door) → IsMember heads shared roster m → HasLived m.job.value end
    → door.port_seat ≡ joined_seat m.door.port_seat end.own.port_seat → door.desk_seat ≡ joined_seat m.door.desk_seat end.own.desk_seat → HasNoNames door
still_no_head heads shared roster m end door is lived at_port at_desk = record {
  at_port =
      ap (λ (s : PortSeat). s.names) at_port ∙ ap (λ (ns : Option (List ℕ)). either_names ns end.own.port_seat.names) is.no_head.at_port ∙ lived.port_kept.names ∙ is.own_no_head.at_port;
  at_desk =
      ap (λ (s : DeskSeat). s.names) at_desk ∙ ap (λ (ns : Option (List ℕ)). either_names ns end.own.desk_seat.names) is.no_head.at_desk ∙ lived.desk_kept.names ∙ is.own_no_head.at_desk;
}
