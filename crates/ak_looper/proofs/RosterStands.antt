-- A looper's thread stands as before, with steps at the roster more.
use Rattle.std.proofs.Common.{◌≡◌, ◌≢◌, ℕ, List, [], ◌∷◌, ◌++◌, map, All, AllPairs, Any, Some, refl, sym, ap, ◌∙◌, subst, append_assoc, append-nil}
use Rattle.std.specs.Prelude.{slice_get}
use Rattle.std.specs.List.{flat_map}
use Rattle.std.proofs.lemmas.List.{map-append}
use Rattle.std.proofs.lemmas.List.Concat.{flat_map-append}
use Rattle.std.proofs.lemmas.List.Elements.{All-append, All-head, All-nil, All-tail, All-weaker, Contains-append_left}
use Rattle.ak_turn.specs.Entries.{StartsWith}
use Rattle.ak_turn.specs.Noted.{Noted, noted}
use Rattle.ak_turn.proofs.Surface.{starts_then_starts}
use Rattle.ak_roster.specs.declared.entry.EntryWithObjects.{EntryWithObjects}
use Rattle.ak_roster.specs.declared.entry.RosterEntry.{RosterEntry}
use Rattle.ak_roster.specs.Roster.{objects_of, plain_entries}
use Rattle.ak_port.specs.declared.port_entry.PortEntry.{PortEntry}
use Rattle.ak_port.specs.declared.reply_entry.ReplyEntry.{ReplyEntry}
use Rattle.ak_port.specs.PortCalls as ports
use Rattle.ak_port.specs.ReplySeats as books
use Rattle.ak_diary.specs.Looper.{LooperFacts, door_got, doors_got}
use Rattle.ak_diary.specs.Step.{Step, at_roster, at_book, at_port, at_desk, saw_roster, saw_book, saw_port, lacked, AreStamped, book_entry, book_sight, book_sights, port_entry, port_sight, roster_entries, roster_entry, roster_sight, roster_sights, time_after, time_of}
use Rattle.ak_looper.specs.declared.door.Door.{Door}
use Rattle.ak_looper.specs.declared.reach.Reach.{Reach}
use Rattle.ak_looper.specs.Rosters.{IsAtRoster, Object, RosterGoes, plain_of}
use Rattle.ak_looper.specs.Stands.{BookStands, DoorStands, GoesOn, IsAtOneOf, PortStands, RosterStands, Stands, StartsTeam, doors_kept, numbers_of}
use Rattle.ak_looper.proofs.RosterSteps.{DoesNoDoor, any_still}
use Rattle.ak_looper.proofs.RosterTurns.{leads_on}

-- ---- lists that go on
pub plain_starts : (front front' : List (EntryWithObjects Object)) → StartsWith front' front → StartsWith (plain_entries front') (plain_entries front)
plain_starts front front' on =
    let plain : EntryWithObjects Object → RosterEntry = λ e. e.plain in
    (plain_entries on.0, ap plain_entries on.1 ∙ map-append plain front on.0)

-- ---- stamps
pub time_on : (start : ℕ) (xs ys : List Step) → time_of start (xs ++ ys) ≡ time_of (time_of start xs) ys
time_on start [] ys = refl
time_on start (x ∷ xs) ys = time_on (time_after start x) xs ys

pub stamped_on : (start : ℕ) (xs ys : List Step) → AreStamped start xs → AreStamped (time_of start xs) ys → AreStamped start (xs ++ ys)
stamped_on start [] ys one two = two
stamped_on start (x ∷ xs) ys one two = (one.0, stamped_on (time_after start x) xs ys one.1 two)

-- ---- a step at the roster is nothing at another object
no_book_entry : (step : Step) → IsAtRoster step → book_entry step ≡ []
no_book_entry (at_roster n) there = refl
no_book_entry (saw_roster list) there = refl
no_book_entry lacked there = refl
no_book_entry (at_book n) there = absurd there
no_book_entry (at_port looper n) there = absurd there
no_book_entry (at_desk looper n) there = absurd there
no_book_entry (saw_book list) there = absurd there
no_book_entry (saw_port looper list) there = absurd there

no_book_sight : (step : Step) → IsAtRoster step → book_sight step ≡ []
no_book_sight (at_roster n) there = refl
no_book_sight (saw_roster list) there = refl
no_book_sight lacked there = refl
no_book_sight (at_book n) there = absurd there
no_book_sight (at_port looper n) there = absurd there
no_book_sight (at_desk looper n) there = absurd there
no_book_sight (saw_book list) there = absurd there
no_book_sight (saw_port looper list) there = absurd there

no_port_entry : (looper : ℕ) (step : Step) → IsAtRoster step → port_entry looper step ≡ []
no_port_entry looper (at_roster n) there = refl
no_port_entry looper (saw_roster list) there = refl
no_port_entry looper lacked there = refl
no_port_entry looper (at_book n) there = absurd there
no_port_entry looper (at_port number n) there = absurd there
no_port_entry looper (at_desk number n) there = absurd there
no_port_entry looper (saw_book list) there = absurd there
no_port_entry looper (saw_port number list) there = absurd there

no_port_sight : (looper : ℕ) (step : Step) → IsAtRoster step → port_sight looper step ≡ []
no_port_sight looper (at_roster n) there = refl
no_port_sight looper (saw_roster list) there = refl
no_port_sight looper lacked there = refl
no_port_sight looper (at_book n) there = absurd there
no_port_sight looper (at_port number n) there = absurd there
no_port_sight looper (at_desk number n) there = absurd there
no_port_sight looper (saw_book list) there = absurd there
no_port_sight looper (saw_port number list) there = absurd there

at_no_way : (ways : List ℕ) (step : Step) → IsAtRoster step → IsAtOneOf ways step
at_no_way ways (at_roster n) there = tt
at_no_way ways (saw_roster list) there = tt
at_no_way ways lacked there = tt
at_no_way ways (at_book n) there = absurd there
at_no_way ways (at_port looper n) there = absurd there
at_no_way ways (at_desk looper n) there = absurd there
at_no_way ways (saw_book list) there = absurd there
at_no_way ways (saw_port looper list) there = absurd there

-- a way stays one beside others
at_way_still : (ways more : List ℕ) (step : Step) → IsAtOneOf ways step → IsAtOneOf (ways ++ more) step
at_way_still ways more (at_roster n) there = tt
at_way_still ways more (saw_roster list) there = tt
at_way_still ways more lacked there = tt
at_way_still ways more (at_book n) there = tt
at_way_still ways more (at_port looper n) there = Contains-append_left ways more looper there
at_way_still ways more (at_desk looper n) there = tt
at_way_still ways more (saw_book list) there = tt
at_way_still ways more (saw_port looper list) there = Contains-append_left ways more looper there

module _ {A : Type 0} (f : Step → List A) (none : (step : Step) → IsAtRoster step → f step ≡ []) where
  nothing_else : (steps : List Step) → All IsAtRoster steps → flat_map f steps ≡ []
  nothing_else [] there = refl
  nothing_else (step ∷ steps) there =
      ap (λ l. l ++ flat_map f steps) (none step (All-head IsAtRoster step steps there)) ∙ nothing_else steps (All-tail IsAtRoster step steps there)

  -- so all that was done there is what was done before
  still_all : (so_far steps : List Step) → All IsAtRoster steps → flat_map f (so_far ++ steps) ≡ flat_map f so_far
  still_all so_far steps there = flat_map-append f so_far steps ∙ ap (λ l. flat_map f so_far ++ l) (nothing_else steps there) ∙ append-nil (flat_map f so_far)

-- ---- what is the same of two reaches, beside clock, doors and roster
pub record IsSameBeside (r r' : Reach) : Type 0 where
  pub number : r'.number ≡ r.number
  pub team : r'.team ≡ r.team
  pub first : r'.first ≡ r.first
  pub loopers : r'.loopers ≡ r.loopers
  pub book_seat : r'.hands.book_seat ≡ r.hands.book_seat
  pub port_seat : r'.port_seat ≡ r.port_seat

abbrev number_of : ℕ × Door → ℕ
number_of door = door.0

module _ (l : LooperFacts) (start : ℕ) (so_far steps : List Step) (r r' : Reach) (stands : Stands l start so_far r) (same : IsSameBeside r r') (goes : RosterGoes steps r.hands.clock r'.hands.clock r.roster_seat r'.roster_seat) where
  book_on : BookStands (so_far ++ steps) r'.hands.book_seat
  book_on = record {
    noted_is = ap (λ (s : books.ReplySeat). noted books.maker_of s.thread s.front) same.book_seat ∙ stands.book.noted_is ∙ sym (still_all book_entry no_book_entry so_far steps goes.there);
    seen = subst (λ (s : books.ReplySeat). All (StartsWith s.front) (book_sights (so_far ++ steps))) (sym same.book_seat)
        (subst (λ (lists : List (List ReplyEntry)). All (StartsWith r.hands.book_seat.front) lists) (sym (still_all book_sight no_book_sight so_far steps goes.there)) stands.book.seen);
  }

  port_stands_on : (looper : ℕ) (seat : ports.PortSeat) → PortStands so_far looper seat → PortStands (so_far ++ steps) looper seat
  port_stands_on looper seat port = record {
    noted_is = port.noted_is ∙ sym (still_all (port_entry looper) (no_port_entry looper) so_far steps goes.there);
    seen = subst (λ (lists : List (List PortEntry)). All (StartsWith seat.front) lists) (sym (still_all (port_sight looper) (no_port_sight looper) so_far steps goes.there)) port.seen;
  }

  port_on : PortStands (so_far ++ steps) l.number r'.port_seat
  port_on = subst (PortStands (so_far ++ steps) l.number) (sym same.port_seat) (port_stands_on l.number r.port_seat stands.port)

  roster_on : RosterStands (so_far ++ steps) r'.roster_seat
  roster_on =
      let shown = plain_starts r.roster_seat.front r'.roster_seat.front goes.on in
      record {
        noted_is = goes.noted_is ∙ ap (λ (ns : List (Noted RosterEntry)). ns ++ roster_entries steps) stands.roster.noted_is ∙ sym (flat_map-append roster_entry so_far steps);
        seen = subst (λ (lists : List (List RosterEntry)). All (StartsWith (plain_of r'.roster_seat)) lists) (sym (flat_map-append roster_sight so_far steps))
            (All-append (StartsWith (plain_of r'.roster_seat)) (roster_sights so_far) (roster_sights steps)
            (All-weaker (StartsWith (plain_of r.roster_seat)) (StartsWith (plain_of r'.roster_seat)) (λ seen starts. starts_then_starts seen (plain_of r.roster_seat) (plain_of r'.roster_seat) starts shown) (roster_sights so_far) stands.roster.seen)
            goes.seen);
      }

  -- a door stands as before
  pub door_on : (door : ℕ × Door) → DoorStands so_far r.roster_seat door → DoorStands (so_far ++ steps) r'.roster_seat door
  door_on door d = record {
    port = port_stands_on door.0 door.1.port_seat d.port;
    desk = d.desk;
    leads = ap (λ (front : List (EntryWithObjects Object)). slice_get (objects_of front) door.0) goes.on.1
        ∙ leads_on r.roster_seat.front goes.on.0 door.0 (Some (door.1.port_seat.lock, door.1.desk_seat.lock)) d.leads;
  }

  launched_on : Any (StartsTeam l) r'.roster_seat.front
  launched_on = subst (λ (front : List (EntryWithObjects Object)). Any (StartsTeam l) front) (sym goes.on.1) (any_still (StartsTeam l) r.roster_seat.front goes.on.0 stands.launched)

  -- with the doors that it got by these steps behind the others
  pub stands_with : (more : List (ℕ × Door)) → r'.doors.items ≡ r.doors.items ++ more → All (DoorStands (so_far ++ steps) r'.roster_seat) more → map (λ (door : ℕ × Door). door.0) more ≡ doors_got steps
      → AllPairs (λ a b. a ≢ b) (l.number ∷ numbers_of r') → Stands l start (so_far ++ steps) r'
  stands_with more items new got apart =
      let numbers : numbers_of r' ≡ numbers_of r ++ map number_of more = ap (map number_of) items ∙ map-append number_of r.doors.items more in
      record {
        number = same.number ∙ stands.number;
        team = same.team ∙ stands.team;
        first = same.first ∙ stands.first;
        loopers = same.loopers ∙ stands.loopers;
        heads = goes.keeps.opening ∙ stands.heads;
        launched = launched_on;
        of_team = stands.of_team;
        within = stands.within;
        stamped = stamped_on start so_far steps stands.stamped (subst (λ (t : ℕ). AreStamped t steps) (sym stands.time) goes.stamped);
        time = time_on start so_far steps ∙ ap (λ (t : ℕ). time_of t steps) stands.time ∙ goes.time;
        book = book_on;
        roster = roster_on;
        port = port_on;
        doors = subst (λ (items : List (ℕ × Door)). All (DoorStands (so_far ++ steps) r'.roster_seat) items) (sym items)
            (All-append (DoorStands (so_far ++ steps) r'.roster_seat) r.doors.items more (All-weaker (DoorStands so_far r.roster_seat) (DoorStands (so_far ++ steps) r'.roster_seat) door_on r.doors.items stands.doors) new);
        ways = numbers ∙ ap (λ (ns : List ℕ). ns ++ map number_of more) stands.ways ∙ ap (λ (ns : List ℕ). (doors_kept l ++ doors_got so_far) ++ ns) got
            ∙ append_assoc (doors_kept l) (doors_got so_far) (doors_got steps) ∙ ap (λ (ns : List ℕ). doors_kept l ++ ns) (sym (flat_map-append door_got so_far steps));
        apart = apart;
        at_ways = All-append (IsAtOneOf (l.number ∷ numbers_of r')) so_far steps
            (subst (λ (ways : List ℕ). All (IsAtOneOf (l.number ∷ ways)) so_far) (sym numbers)
            (All-weaker (IsAtOneOf (l.number ∷ numbers_of r)) (IsAtOneOf ((l.number ∷ numbers_of r) ++ map number_of more)) (at_way_still (l.number ∷ numbers_of r) (map number_of more)) so_far stands.at_ways))
            (All-weaker IsAtRoster (IsAtOneOf (l.number ∷ numbers_of r')) (at_no_way (l.number ∷ numbers_of r')) steps goes.there);
      }

  -- with the same doors
  pub stands_beside : r'.doors.items ≡ r.doors.items → doors_got steps ≡ [] → Stands l start (so_far ++ steps) r'
  stands_beside items none =
      stands_with [] (items ∙ sym (append-nil r.doors.items)) (All-nil (DoorStands (so_far ++ steps) r'.roster_seat)) (sym none)
      (subst (λ (doors : List (ℕ × Door)). AllPairs (λ a b. a ≢ b) (l.number ∷ map number_of doors)) (sym items) stands.apart)

-- ---- a call that got no door
pub goes_beside : (l : LooperFacts) (start : ℕ) (so_far : List Step) (r r' : Reach) (P : List Step → Type 0) → Stands l start so_far r → IsSameBeside r r' → r'.doors.items ≡ r.doors.items
    → DoesNoDoor P r.hands.clock r'.hands.clock r.roster_seat r'.roster_seat → GoesOn l start so_far P r'
goes_beside l start so_far r r' P stands same items does =
    record { steps = does.steps; does = does.does; stands = stands_beside l start so_far does.steps r r' stands same does.goes items does.no_door }
