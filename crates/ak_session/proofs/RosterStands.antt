-- A session stands as before, with a step at the roster more, or with none.
use Rattle.std.proofs.Common.{◌≡◌, ◌≢◌, ℕ, List, [], ◌∷◌, ◌++◌, map, All, AllPairs, Some, refl, sym, ap, ◌∙◌, subst, append-nil}
use Rattle.std.specs.Prelude.{slice_get}
use Rattle.std.proofs.lemmas.List.{map-append}
use Rattle.std.proofs.lemmas.List.Concat.{flat_map-append}
use Rattle.std.proofs.lemmas.List.Elements.{All-append, All-cons, All-nil, All-weaker, Contains-append_left}
use Rattle.ak_base.specs.declared.thread.ThreadId.{ThreadId}
use Rattle.ak_turn.specs.Entries.{StartsWith}
use Rattle.ak_turn.specs.Noted.{Noted, noted}
use Rattle.ak_turn.proofs.Surface.{starts_then_starts}
use Rattle.ak_roster.specs.declared.head.AppHead.{AppHead}
use Rattle.ak_roster.specs.declared.entry.EntryWithObjects.{EntryWithObjects}
use Rattle.ak_roster.specs.declared.entry.RosterEntry.{RosterEntry}
use Rattle.ak_roster.specs.Roster.{objects_of}
use Rattle.ak_port.specs.declared.port_entry.PortEntry.{PortEntry}
use Rattle.ak_port.specs.declared.reply_entry.ReplyEntry.{ReplyEntry}
use Rattle.ak_port.specs.PortCalls as ports
use Rattle.ak_port.specs.ReplySeats as books
use Rattle.ak_diary.specs.Looper.{door_got, doors_got}
use Rattle.ak_diary.specs.Step.{Step, at_roster, at_book, at_port, at_desk, saw_roster, saw_book, saw_port, lacked, AreStamped, book_entries, book_entry, book_sight, book_sights, desk_entries, desk_entry, port_entries, port_entry, port_sight, port_sights, roster_entries, roster_entry, roster_sight, roster_sights, time_of}
use Rattle.ak_looper.specs.declared.door.Door.{Door}
use Rattle.ak_looper.specs.Rosters.{Object, RosterGoes, plain_of}
use Rattle.ak_looper.specs.Stands.{BookStands, PortStands, RosterStands}
use Rattle.ak_looper.proofs.Surface.{leads_on, more_none, plain_starts, stamped_on, time_on}
use Rattle.ak_session.specs.declared.session.Session.{Session}
use Rattle.ak_session.specs.Stands.{DoorStands, GoesOn, IsAtOneOf, IsSessionThread, Stands, numbers_of}

-- ---- what a step at the roster is elsewhere
pub record AreAtRoster (steps : List Step) : Type 0 where
  pub book : book_entries steps ≡ []
  pub book_seen : book_sights steps ≡ []
  pub ports : (looper : ℕ) → port_entries looper steps ≡ []
  pub ports_seen : (looper : ℕ) → port_sights looper steps ≡ []
  pub desks : (looper : ℕ) → desk_entries looper steps ≡ []
  pub at_ways : (numbers : List ℕ) → All (IsAtOneOf numbers) steps

pub none_at_all : AreAtRoster []
none_at_all = record { book = refl; book_seen = refl; ports = λ looper. refl; ports_seen = λ looper. refl; desks = λ looper. refl; at_ways = λ numbers. All-nil (IsAtOneOf numbers) }

pub one_there : (n : Noted RosterEntry) → AreAtRoster (at_roster n ∷ [])
one_there n = record {
  book = refl;
  book_seen = refl;
  ports = λ looper. refl;
  ports_seen = λ looper. refl;
  desks = λ looper. refl;
  at_ways = λ numbers. All-cons (IsAtOneOf numbers) (at_roster n) [] tt (All-nil (IsAtOneOf numbers));
}

-- ---- a way stays one beside others
pub at_way_still : (ways more : List ℕ) (step : Step) → IsAtOneOf ways step → IsAtOneOf (ways ++ more) step
at_way_still ways more (at_roster n) there = tt
at_way_still ways more (at_book n) there = tt
at_way_still ways more (at_port looper n) there = Contains-append_left ways more looper there
at_way_still ways more (at_desk looper n) there = Contains-append_left ways more looper there
at_way_still ways more (saw_roster list) there = tt
at_way_still ways more (saw_book list) there = tt
at_way_still ways more (saw_port looper list) there = Contains-append_left ways more looper there
at_way_still ways more lacked there = tt

abbrev number_of : ℕ × Door → ℕ
number_of door = door.0

module _ (heads : List AppHead) (start : ℕ) (so_far steps : List Step) (s s' : Session) (stands : Stands heads start so_far s) (book : s'.hands.book_seat ≡ s.hands.book_seat) (goes : RosterGoes steps s.hands.clock s'.hands.clock s.roster_seat s'.roster_seat)
    (there : AreAtRoster steps) where
  book_on : BookStands (so_far ++ steps) s'.hands.book_seat
  book_on = record {
    noted_is = ap (λ (x : books.ReplySeat). noted books.maker_of x.thread x.front) book ∙ stands.book.noted_is ∙ sym (more_none book_entry so_far steps there.book);
    seen = subst (λ (x : books.ReplySeat). All (StartsWith x.front) (book_sights (so_far ++ steps))) (sym book)
        (subst (λ (lists : List (List ReplyEntry)). All (StartsWith s.hands.book_seat.front) lists) (sym (more_none book_sight so_far steps there.book_seen)) stands.book.seen);
  }

  port_on : (looper : ℕ) (seat : ports.PortSeat) → PortStands so_far looper seat → PortStands (so_far ++ steps) looper seat
  port_on looper seat port = record {
    noted_is = port.noted_is ∙ sym (more_none (port_entry looper) so_far steps (there.ports looper));
    seen = subst (λ (lists : List (List PortEntry)). All (StartsWith seat.front) lists) (sym (more_none (port_sight looper) so_far steps (there.ports_seen looper))) port.seen;
  }

  roster_on : RosterStands (so_far ++ steps) s'.roster_seat
  roster_on =
      let shown = plain_starts s.roster_seat.front s'.roster_seat.front goes.on in
      record {
        noted_is = goes.noted_is ∙ ap (λ (ns : List (Noted RosterEntry)). ns ++ roster_entries steps) stands.roster.noted_is ∙ sym (flat_map-append roster_entry so_far steps);
        seen = subst (λ (lists : List (List RosterEntry)). All (StartsWith (plain_of s'.roster_seat)) lists) (sym (flat_map-append roster_sight so_far steps))
            (All-append (StartsWith (plain_of s'.roster_seat)) (roster_sights so_far) (roster_sights steps)
            (All-weaker (StartsWith (plain_of s.roster_seat)) (StartsWith (plain_of s'.roster_seat)) (λ seen starts. starts_then_starts seen (plain_of s.roster_seat) (plain_of s'.roster_seat) starts shown) (roster_sights so_far) stands.roster.seen)
            goes.seen);
      }

  -- a door stands as before
  door_on : (door : ℕ × Door) → DoorStands so_far s.roster_seat door → DoorStands (so_far ++ steps) s'.roster_seat door
  door_on door d = record {
    port = port_on door.0 door.1.port_seat d.port;
    desk = d.desk ∙ sym (more_none (desk_entry door.0) so_far steps (there.desks door.0));
    leads = ap (λ (front : List (EntryWithObjects Object)). slice_get (objects_of front) door.0) goes.on.1
        ∙ leads_on s.roster_seat.front goes.on.0 door.0 (Some (door.1.port_seat.lock, door.1.desk_seat.lock)) d.leads;
  }

  -- with the doors that it got by these steps behind the others
  pub stands_with : (more : List (ℕ × Door)) → s'.doors.items ≡ s.doors.items ++ more → All (DoorStands (so_far ++ steps) s'.roster_seat) more → map (λ (door : ℕ × Door). door.0) more ≡ doors_got steps → AllPairs (λ a b. a ≢ b) (numbers_of s')
      → Stands heads start (so_far ++ steps) s'
  stands_with more items new got apart =
      let numbers : numbers_of s' ≡ numbers_of s ++ map number_of more = ap (map number_of) items ∙ map-append number_of s.doors.items more in
      record {
        session = subst (λ (t : ThreadId). IsSessionThread t.0) (sym goes.thread) stands.session;
        heads_are = goes.keeps.opening ∙ stands.heads_are;
        stamped = stamped_on start so_far steps stands.stamped (subst (λ (t : ℕ). AreStamped t steps) (sym stands.time) goes.stamped);
        time = time_on start so_far steps ∙ ap (λ (t : ℕ). time_of t steps) stands.time ∙ goes.time;
        book = book_on;
        roster = roster_on;
        doors = subst (λ (items : List (ℕ × Door)). All (DoorStands (so_far ++ steps) s'.roster_seat) items) (sym items)
            (All-append (DoorStands (so_far ++ steps) s'.roster_seat) s.doors.items more (All-weaker (DoorStands so_far s.roster_seat) (DoorStands (so_far ++ steps) s'.roster_seat) door_on s.doors.items stands.doors) new);
        ways = numbers ∙ ap (λ (ns : List ℕ). ns ++ map number_of more) stands.ways ∙ ap (λ (ns : List ℕ). doors_got so_far ++ ns) got ∙ sym (flat_map-append door_got so_far steps);
        apart = apart;
        at_ways = All-append (IsAtOneOf (numbers_of s')) so_far steps
            (subst (λ (ways : List ℕ). All (IsAtOneOf ways) so_far) (sym numbers)
            (All-weaker (IsAtOneOf (numbers_of s)) (IsAtOneOf (numbers_of s ++ map number_of more)) (at_way_still (numbers_of s) (map number_of more)) so_far stands.at_ways))
            (there.at_ways (numbers_of s'));
      }

  -- with the same doors
  pub stands_beside : s'.doors.items ≡ s.doors.items → doors_got steps ≡ [] → Stands heads start (so_far ++ steps) s'
  stands_beside items none =
      stands_with [] (items ∙ sym (append-nil s.doors.items)) (All-nil (DoorStands (so_far ++ steps) s'.roster_seat)) (sym none)
      (subst (λ (doors : List (ℕ × Door)). AllPairs (λ a b. a ≢ b) (map number_of doors)) (sym items) stands.apart)

-- ---- a call at the roster that got no door: steps of which P holds
pub record DoesAtRoster (P : List Step → Type 0) (s s' : Session) : Type 0 where
  pub steps : List Step
  pub does : P steps
  pub there : AreAtRoster steps
  pub no_door : doors_got steps ≡ []
  pub goes : RosterGoes steps s.hands.clock s'.hands.clock s.roster_seat s'.roster_seat

pub goes_beside : (heads : List AppHead) (start : ℕ) (so_far : List Step) (s s' : Session) (P : List Step → Type 0) → Stands heads start so_far s → s'.hands.book_seat ≡ s.hands.book_seat → s'.doors.items ≡ s.doors.items → DoesAtRoster P s s' → GoesOn heads start so_far P s'
goes_beside heads start so_far s s' P stands book items does =
    record { steps = does.steps; does = does.does; stands = stands_beside heads start so_far does.steps s s' stands book does.goes does.there items does.no_door }
