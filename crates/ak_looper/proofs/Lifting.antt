-- What a thread did at one port, and at the book for it, as it then stands as a whole.
use Rattle.std.proofs.Common.{◌≡◌, ◌≢◌, ◌<◌, ℕ, suc, Bool, List, [], ◌∷◌, ◌++◌, length, map, set, get_or, All, AllPairs, Any, Contains, Option, Some, None, option_map, slice_get, flat_map, cond, refl, sym, ap, ◌∙◌, subst, append-nil, ⊎_elim, ne_eqb, arith, length-set}
use Rattle.std.proofs.lemmas.Bool.{cases_eq, cases_lt}
use Rattle.std.proofs.lemmas.List.{get_or-map, get_or_default, get_or-set_other, get_or-set_same, length-map, map-set, set-get_or}
use Rattle.std.proofs.lemmas.List.Concat.{flat_map-append}
use Rattle.std.proofs.lemmas.List.Elements.{All-append, All-head, All-tail, All-weaker, Contains-append_right, Contains-get_or}
use Rattle.std.proofs.lemmas.Option.{same_Some, slice_get-get_or, slice_get_within}
use Rattle.ak_turn.specs.Entries.{StartsWith}
use Rattle.ak_turn.specs.Noted.{Noted, noted}
use Rattle.ak_turn.specs.Seats.{LockId}
use Rattle.ak_turn.proofs.Surface.{seen_still}
use Rattle.ak_port.specs.declared.port_entry.PortEntry.{PortEntry}
use Rattle.ak_port.specs.declared.reply_entry.ReplyEntry.{ReplyEntry}
use Rattle.ak_port.specs.PortCalls.{PortSeat}
use Rattle.ak_desk.specs.Shared as desks
use Rattle.ak_desk.specs.Shared.{DeskSeat}
use Rattle.ak_diary.specs.Looper.{LooperFacts, door_got, doors_got}
use Rattle.ak_diary.specs.Step.{Step, at_roster, at_book, at_port, at_desk, saw_roster, saw_book, saw_port, lacked, AreStamped, book_entries, book_entry, book_sight, book_sights, port_entries, port_entry, port_sight, port_sights, roster_entry, roster_sight, time_of}
use Rattle.ak_looper.specs.declared.door.Door.{Door}
use Rattle.ak_looper.specs.declared.reach.Reach.{Reach}
use Rattle.ak_looper.specs.Rosters.{LeadsTo, RosterSeat, plain_of}
use Rattle.ak_looper.specs.Side.{IsOnSide, Side, SideDoes, SideGoes, side}
use Rattle.ak_looper.specs.Stands.{BookStands, DoorStands, GoesOn, IsAtOneOf, PortStands, RosterStands, Stands, StartsTeam, doors_kept, numbers_of}
use Rattle.ak_looper.proofs.Sides.{stamped_behind, time_behind}

-- ---- what steps at one port and at the book leave elsewhere
module _ (looper : ℕ) where
  none_of : {B : Type 0} (f : Step → List B) → ((step : Step) → IsOnSide looper step → f step ≡ []) → (steps : List Step) → All (IsOnSide looper) steps → flat_map f steps ≡ []
  none_of f none [] all = refl
  none_of f none (step ∷ steps) all =
      ap (λ l. l ++ flat_map f steps) (none step (All-head (IsOnSide looper) step steps all)) ∙ none_of f none steps (All-tail (IsOnSide looper) step steps all)

  no_roster_entry : (step : Step) → IsOnSide looper step → roster_entry step ≡ []
  no_roster_entry (at_roster n) on = absurd on
  no_roster_entry (at_book n) on = refl
  no_roster_entry (at_port number n) on = refl
  no_roster_entry (at_desk number n) on = refl
  no_roster_entry (saw_roster seen) on = refl
  no_roster_entry (saw_book seen) on = refl
  no_roster_entry (saw_port number seen) on = refl
  no_roster_entry lacked on = refl

  no_roster_sight : (step : Step) → IsOnSide looper step → roster_sight step ≡ []
  no_roster_sight (at_roster n) on = refl
  no_roster_sight (at_book n) on = refl
  no_roster_sight (at_port number n) on = refl
  no_roster_sight (at_desk number n) on = refl
  no_roster_sight (saw_roster seen) on = absurd on
  no_roster_sight (saw_book seen) on = refl
  no_roster_sight (saw_port number seen) on = refl
  no_roster_sight lacked on = refl

  no_door_got : (step : Step) → IsOnSide looper step → door_got step ≡ []
  no_door_got (at_roster n) on = absurd on
  no_door_got (at_book n) on = refl
  no_door_got (at_port number n) on = refl
  no_door_got (at_desk number n) on = refl
  no_door_got (saw_roster seen) on = refl
  no_door_got (saw_book seen) on = refl
  no_door_got (saw_port number seen) on = refl
  no_door_got lacked on = refl

  -- at another port
  module _ (other : ℕ) (differs : other ≢ looper) where
    no_port_entry : (step : Step) → IsOnSide looper step → port_entry other step ≡ []
    no_port_entry (at_roster n) on = refl
    no_port_entry (at_book n) on = refl
    no_port_entry (at_port number n) on = ap (λ (b : Bool). cond b (n ∷ []) []) (ne_eqb number other (λ same. differs (sym same ∙ on)))
    no_port_entry (at_desk number n) on = refl
    no_port_entry (saw_roster seen) on = refl
    no_port_entry (saw_book seen) on = refl
    no_port_entry (saw_port number seen) on = refl
    no_port_entry lacked on = refl

    no_port_sight : (step : Step) → IsOnSide looper step → port_sight other step ≡ []
    no_port_sight (at_roster n) on = refl
    no_port_sight (at_book n) on = refl
    no_port_sight (at_port number n) on = refl
    no_port_sight (at_desk number n) on = refl
    no_port_sight (saw_roster seen) on = refl
    no_port_sight (saw_book seen) on = refl
    no_port_sight (saw_port number seen) on = ap (λ (b : Bool). cond b (seen ∷ []) []) (ne_eqb number other (λ same. differs (sym same ∙ on)))
    no_port_sight lacked on = refl

  -- and they are at one of the ways
  at_one : (numbers : List ℕ) → Contains numbers looper → (step : Step) → IsOnSide looper step → IsAtOneOf numbers step
  at_one numbers there (at_roster n) on = absurd on
  at_one numbers there (at_book n) on = tt
  at_one numbers there (at_port number n) on = subst (Contains numbers) (sym on) there
  at_one numbers there (at_desk number n) on = absurd on
  at_one numbers there (saw_roster seen) on = absurd on
  at_one numbers there (saw_book seen) on = tt
  at_one numbers there (saw_port number seen) on = subst (Contains numbers) (sym on) there
  at_one numbers there lacked on = tt

-- a projection of steps behind others, of which it has nothing
pub more_none : {B : Type 0} (f : Step → List B) (xs ys : List Step) → flat_map f ys ≡ [] → flat_map f (xs ++ ys) ≡ flat_map f xs
more_none f xs ys none = flat_map-append f xs ys ∙ ap (λ l. flat_map f xs ++ l) none ∙ append-nil (flat_map f xs)

-- ---- each object
module _ (so_far steps : List Step) where
  book_on : (looper : ℕ) (a b : Side) → SideGoes looper steps a b → BookStands so_far a.book → BookStands (so_far ++ steps) b.book
  book_on looper a b goes was = record {
    noted_is = goes.book_noted ∙ ap (λ (l : List (Noted ReplyEntry)). l ++ book_entries steps) was.noted_is ∙ sym (flat_map-append book_entry so_far steps);
    seen =
        subst (All (StartsWith b.book.front)) (sym (flat_map-append book_sight so_far steps))
        (All-append (StartsWith b.book.front) (book_sights so_far) (book_sights steps) (seen_still a.book.front b.book.front (book_sights so_far) goes.book_on was.seen) goes.book_seen);
  }

  port_on : (looper : ℕ) (a b : Side) → SideGoes looper steps a b → PortStands so_far looper a.port → PortStands (so_far ++ steps) looper b.port
  port_on looper a b goes was = record {
    noted_is = goes.port_noted ∙ ap (λ (l : List (Noted PortEntry)). l ++ port_entries looper steps) was.noted_is ∙ sym (flat_map-append (port_entry looper) so_far steps);
    seen =
        subst (All (StartsWith b.port.front)) (sym (flat_map-append (port_sight looper) so_far steps))
        (All-append (StartsWith b.port.front) (port_sights looper so_far) (port_sights looper steps) (seen_still a.port.front b.port.front (port_sights looper so_far) goes.port_on was.seen) goes.port_seen);
  }

  module _ (looper : ℕ) (on : All (IsOnSide looper) steps) where
    other_port : (other : ℕ) (seat : PortSeat) → other ≢ looper → PortStands so_far other seat → PortStands (so_far ++ steps) other seat
    other_port other seat differs was = record {
      noted_is = was.noted_is ∙ sym (more_none (port_entry other) so_far steps (none_of looper (port_entry other) (no_port_entry looper other differs) steps on));
      seen = subst (All (StartsWith seat.front)) (sym (more_none (port_sight other) so_far steps (none_of looper (port_sight other) (no_port_sight looper other differs) steps on))) was.seen;
    }

    roster_on : (seat : RosterSeat) → RosterStands so_far seat → RosterStands (so_far ++ steps) seat
    roster_on seat was = record {
      noted_is = was.noted_is ∙ sym (more_none roster_entry so_far steps (none_of looper roster_entry (no_roster_entry looper) steps on));
      seen = subst (All (StartsWith (plain_of seat))) (sym (more_none roster_sight so_far steps (none_of looper roster_sight (no_roster_sight looper) steps on))) was.seen;
    }

    other_door : (seat : RosterSeat) (door : ℕ × Door) → door.0 ≢ looper → DoorStands so_far seat door → DoorStands (so_far ++ steps) seat door
    other_door seat door differs was = record { port = other_port door.0 door.1.port_seat differs was.port; desk = was.desk; leads = was.leads }

    doors_as : doors_got (so_far ++ steps) ≡ doors_got so_far
    doors_as = more_none door_got so_far steps (none_of looper door_got (no_door_got looper) steps on)

-- ---- numbers of doors
-- none is the looper's own
pub not_own : (own : ℕ) (doors : List (ℕ × Door)) → AllPairs (λ a b. a ≢ b) (own ∷ map (λ (door : ℕ × Door). door.0) doors) → (k : ℕ) (d : ℕ × Door) → k < length doors → (get_or doors k d).0 ≢ own
not_own own doors apart k d within same =
    let long : length (map (λ (door : ℕ × Door). door.0) doors) ≡ length doors = length-map doors (λ (door : ℕ × Door). door.0) in
    apart 0 (suc k) d.0 (omega arith) (omega (arith, long, within)) (sym same ∙ sym (get_or-map (λ (door : ℕ × Door). door.0) doors k d d.0 within))

-- no two are the same
pub not_other : (own : ℕ) (doors : List (ℕ × Door)) → AllPairs (λ a b. a ≢ b) (own ∷ map (λ (door : ℕ × Door). door.0) doors) → (j k : ℕ) (d : ℕ × Door) → j < k → k < length doors → (get_or doors j d).0 ≢ (get_or doors k d).0
not_other own doors apart j k d before within same =
    let long : length (map (λ (door : ℕ × Door). door.0) doors) ≡ length doors = length-map doors (λ (door : ℕ × Door). door.0) in
    apart (suc j) (suc k) d.0 (omega arith) (omega (arith, long, within))
    (get_or-map (λ (door : ℕ × Door). door.0) doors j d d.0 (omega arith) ∙ same ∙ sym (get_or-map (λ (door : ℕ × Door). door.0) doors k d d.0 within))

pub not_at : (own : ℕ) (doors : List (ℕ × Door)) → AllPairs (λ a b. a ≢ b) (own ∷ map (λ (door : ℕ × Door). door.0) doors) → (j k : ℕ) (d : ℕ × Door) → (j ≡ k → ⊥) → j < length doors → k < length doors → (get_or doors j d).0 ≢ (get_or doors k d).0
not_at own doors apart j k d differ within within' same =
    ⊎_elim (λ before. not_other own doors apart j k d before within' same) (λ not_before. not_other own doors apart k j d (omega arith) within (sym same)) (cases_lt j k)

-- one door is another with the same number
pub same_numbers : (doors : List (ℕ × Door)) (place : ℕ) (door door' : ℕ × Door) → place < length doors → door ≡ get_or doors place door → door'.0 ≡ door.0 → map (λ (d : ℕ × Door). d.0) (set doors place door') ≡ map (λ (d : ℕ × Door). d.0) doors
same_numbers doors place door door' within read number =
    let f : ℕ × Door → ℕ = λ d. d.0 in
    map-set f doors place door' ∙ ap (λ (n : ℕ). set (map f doors) place n) (number ∙ ap f read ∙ sym (get_or-map f doors place door 0 within)) ∙ set-get_or (map f doors) place 0

-- what holds of each when one is another
pub all_set : {X : Type 0} (P : X → Type 0) (xs : List X) (place : ℕ) (x : X) → place < length xs → P x → ((k : ℕ) (d : X) → (k ≡ place → ⊥) → k < length xs → P (get_or xs k d)) → All P (set xs place x)
all_set P xs place x within holds others k d lt =
    ⊎_elim
    (λ same. subst (λ (n : ℕ). P (get_or (set xs place x) n d)) (sym same) (subst P (sym (get_or-set_same xs place x d within)) holds))
    (λ differ. subst P (sym (get_or-set_other xs place k x d differ)) (others k d differ (subst (λ (n : ℕ). k < n) (length-set xs place x) lt)))
    (cases_eq k place)

-- ---- the door at a place, by the way through it
at_some : (o : Option (ℕ × Door)) (looper : ℕ) → option_map (λ (door : ℕ × Door). door.0) o ≡ Some looper → (d : ℕ × Door) × (o ≡ Some d) × (d.0 ≡ looper)
at_some None looper is = absurd (cc)
at_some (Some d) looper is = (d, refl, same_Some d.0 looper is)

pub way_within : (doors : List (ℕ × Door)) (place looper : ℕ) → option_map (λ (door : ℕ × Door). door.0) (slice_get doors place) ≡ Some looper → place < length doors
way_within doors place looper is = let there = at_some (slice_get doors place) looper is in slice_get_within doors place there.0 there.1

pub way_number : (doors : List (ℕ × Door)) (place looper : ℕ) (door : ℕ × Door) → option_map (λ (door : ℕ × Door). door.0) (slice_get doors place) ≡ Some looper → door ≡ get_or doors place door → door.0 ≡ looper
way_number doors place looper door is read =
    let there = at_some (slice_get doors place) looper is in
    let same = same_Some door there.0 (ap (λ (d : ℕ × Door). Some d) read ∙ sym (slice_get-get_or doors place door (way_within doors place looper is)) ∙ there.1) in
    ap (λ (d : ℕ × Door). d.0) same ∙ there.2

pub door_among : (doors : List (ℕ × Door)) (place : ℕ) (door : ℕ × Door) → place < length doors → door ≡ get_or doors place door → Contains (map (λ (d : ℕ × Door). d.0) doors) door.0
door_among doors place door within read =
    let f : ℕ × Door → ℕ = λ d. d.0 in
    let long : length (map f doors) ≡ length doors = length-map doors f in
    subst (Contains (map f doors)) (get_or-map f doors place door 0 within ∙ sym (ap f read)) (Contains-get_or (map f doors) place 0 (omega (arith, long, within)))

-- what a door leads to, when it is another to the same port and desk
leads_on : (seat : RosterSeat) (door door' : ℕ × Door) → door'.0 ≡ door.0 → door'.1.port_seat.lock ≡ door.1.port_seat.lock → door'.1.desk_seat.lock ≡ door.1.desk_seat.lock
    → LeadsTo seat door.0 door.1.port_seat.lock door.1.desk_seat.lock → LeadsTo seat door'.0 door'.1.port_seat.lock door'.1.desk_seat.lock
leads_on seat door door' number port desk leads =
    subst (λ (n : ℕ). LeadsTo seat n door'.1.port_seat.lock door'.1.desk_seat.lock) (sym number)
    (subst (λ (x : LockId). LeadsTo seat door.0 x door'.1.desk_seat.lock) (sym port) (subst (λ (x : LockId). LeadsTo seat door.0 door.1.port_seat.lock x) (sym desk) leads))

-- ---- the whole
-- what stays beside its hands, its port and its doors
pub record KeepsRest (r r' : Reach) : Type 0 where
  pub number : r'.number ≡ r.number
  pub team : r'.team ≡ r.team
  pub first : r'.first ≡ r.first
  pub loopers : r'.loopers ≡ r.loopers
  pub roster_seat : r'.roster_seat ≡ r.roster_seat

module _ (l : LooperFacts) (start : ℕ) (so_far : List Step) (r r' : Reach) (rest : KeepsRest r r') (was : Stands l start so_far r) where
  stands_on : (looper : ℕ) (steps : List Step) (port port' : PortSeat) → SideGoes looper steps (side r.hands.clock r.hands.book_seat port) (side r'.hands.clock r'.hands.book_seat port') → numbers_of r' ≡ numbers_of r → Contains (l.number ∷ numbers_of r) looper
      → PortStands (so_far ++ steps) l.number r'.port_seat → All (DoorStands (so_far ++ steps) r.roster_seat) r'.doors.items → Stands l start (so_far ++ steps) r'
  stands_on looper steps port port' goes numbers there own_port doors = record {
    number = rest.number ∙ was.number;
    team = rest.team ∙ was.team;
    first = rest.first ∙ was.first;
    loopers = rest.loopers ∙ was.loopers;
    heads = ap (λ (s : RosterSeat). s.opening) rest.roster_seat ∙ was.heads;
    launched = subst (λ (s : RosterSeat). Any (StartsTeam l) s.front) (sym rest.roster_seat) was.launched;
    of_team = was.of_team;
    within = was.within;
    stamped = stamped_behind start so_far steps was.stamped (subst (λ (t : ℕ). AreStamped t steps) (sym was.time) goes.stamped);
    time = time_behind start so_far steps ∙ ap (λ (t : ℕ). time_of t steps) was.time ∙ goes.time;
    book = book_on so_far steps looper (side r.hands.clock r.hands.book_seat port) (side r'.hands.clock r'.hands.book_seat port') goes was.book;
    roster = subst (RosterStands (so_far ++ steps)) (sym rest.roster_seat) (roster_on so_far steps looper goes.on_side r.roster_seat was.roster);
    port = own_port;
    doors = subst (λ (s : RosterSeat). All (DoorStands (so_far ++ steps) s) r'.doors.items) (sym rest.roster_seat) doors;
    ways = numbers ∙ was.ways ∙ ap (λ (got : List ℕ). doors_kept l ++ got) (sym (doors_as so_far steps looper goes.on_side));
    apart = subst (λ (n : List ℕ). AllPairs (λ a b. a ≢ b) (l.number ∷ n)) (sym numbers) was.apart;
    at_ways =
        subst (λ (n : List ℕ). All (IsAtOneOf (l.number ∷ n)) (so_far ++ steps)) (sym numbers)
        (All-append (IsAtOneOf (l.number ∷ numbers_of r)) so_far steps was.at_ways (All-weaker (IsOnSide looper) (IsAtOneOf (l.number ∷ numbers_of r)) (at_one looper (l.number ∷ numbers_of r) there) steps goes.on_side));
  }

  -- at its own port, or at the book alone
  own_goes : (steps : List Step) → r'.doors.items ≡ r.doors.items → SideGoes l.number steps (side r.hands.clock r.hands.book_seat r.port_seat) (side r'.hands.clock r'.hands.book_seat r'.port_seat) → Stands l start (so_far ++ steps) r'
  own_goes steps same goes =
      let numbers = ap (map (λ (door : ℕ × Door). door.0)) same in
      let doors : All (DoorStands (so_far ++ steps) r.roster_seat) r.doors.items = λ k d lt. other_door so_far steps l.number goes.on_side r.roster_seat (get_or r.doors.items k d) (not_own l.number r.doors.items was.apart k d lt) (was.doors k d lt) in
      stands_on l.number steps r.port_seat r'.port_seat goes numbers (0, omega arith, refl)
      (port_on so_far steps l.number (side r.hands.clock r.hands.book_seat r.port_seat) (side r'.hands.clock r'.hands.book_seat r'.port_seat) goes was.port)
      (subst (All (DoorStands (so_far ++ steps) r.roster_seat)) (sym same) doors)

  pub own_does : (looper : ℕ) (P : List Step → Type 0) → l.number ≡ looper → r'.doors.items ≡ r.doors.items → SideDoes looper P (side r.hands.clock r.hands.book_seat r.port_seat) (side r'.hands.clock r'.hands.book_seat r'.port_seat) → GoesOn l start so_far P r'
  own_does looper P is same done = record {
    steps = done.steps;
    does = done.does;
    stands = own_goes done.steps same (subst (λ (n : ℕ). SideGoes n done.steps (side r.hands.clock r.hands.book_seat r.port_seat) (side r'.hands.clock r'.hands.book_seat r'.port_seat)) (sym is) done.goes);
  }

  -- through a door
  door_goes : (place : ℕ) (door door' : ℕ × Door) (steps : List Step) → place < length r.doors.items → door ≡ get_or r.doors.items place door → r'.doors.items ≡ set r.doors.items place door' → door'.0 ≡ door.0 → door'.1.desk_seat ≡ door.1.desk_seat
      → door'.1.port_seat.lock ≡ door.1.port_seat.lock → r'.port_seat ≡ r.port_seat → SideGoes door.0 steps (side r.hands.clock r.hands.book_seat door.1.port_seat) (side r'.hands.clock r'.hands.book_seat door'.1.port_seat) → Stands l start (so_far ++ steps) r'
  door_goes place door door' steps within read items number desk lock port goes =
      let there : DoorStands so_far r.roster_seat door = subst (DoorStands so_far r.roster_seat) (sym read) (was.doors place door within) in
      let differs : l.number ≢ door.0 = λ same. not_own l.number r.doors.items was.apart place door within (sym (ap (λ (d : ℕ × Door). d.0) read) ∙ sym same) in
      let numbers = ap (map (λ (d : ℕ × Door). d.0)) items ∙ same_numbers r.doors.items place door door' within read number in
      let here = port_on so_far steps door.0 (side r.hands.clock r.hands.book_seat door.1.port_seat) (side r'.hands.clock r'.hands.book_seat door'.1.port_seat) goes there.port in
      let door_on : DoorStands (so_far ++ steps) r.roster_seat door' = record {
        port = subst (λ (n : ℕ). PortStands (so_far ++ steps) n door'.1.port_seat) (sym number) here;
        desk = ap (λ (s : DeskSeat). noted desks.by_number s.thread s.front) desk ∙ there.desk;
        leads = leads_on r.roster_seat door door' number lock (ap (λ (s : DeskSeat). s.lock) desk) there.leads;
      } in
      let others : (k : ℕ) (d : ℕ × Door) → (k ≡ place → ⊥) → k < length r.doors.items → DoorStands (so_far ++ steps) r.roster_seat (get_or r.doors.items k d) =
      λ k d differ lt. other_door so_far steps door.0 goes.on_side r.roster_seat (get_or r.doors.items k d)
      (λ same. not_at l.number r.doors.items was.apart k place d differ lt within (same ∙ ap (λ (x : ℕ × Door). x.0) (read ∙ get_or_default r.doors.items place door d within))) (was.doors k d lt) in
      let contains : Contains (numbers_of r) door.0 = door_among r.doors.items place door within read in
      stands_on door.0 steps door.1.port_seat door'.1.port_seat goes numbers (Contains-append_right (l.number ∷ []) (numbers_of r) door.0 contains)
      (subst (PortStands (so_far ++ steps) l.number) (sym port) (other_port so_far steps door.0 goes.on_side l.number r.port_seat differs was.port))
      (subst (All (DoorStands (so_far ++ steps) r.roster_seat)) (sym items) (all_set (DoorStands (so_far ++ steps) r.roster_seat) r.doors.items place door' within door_on others))

  pub door_does : (looper : ℕ) (P : List Step → Type 0) (place : ℕ) (door door' : ℕ × Door) → option_map (λ (d : ℕ × Door). d.0) (slice_get r.doors.items place) ≡ Some looper → door ≡ get_or r.doors.items place door → r'.doors.items ≡ set r.doors.items place door'
      → door'.0 ≡ door.0 → door'.1.desk_seat ≡ door.1.desk_seat → door'.1.port_seat.lock ≡ door.1.port_seat.lock → r'.port_seat ≡ r.port_seat
      → SideDoes looper P (side r.hands.clock r.hands.book_seat door.1.port_seat) (side r'.hands.clock r'.hands.book_seat door'.1.port_seat) → GoesOn l start so_far P r'
  door_does looper P place door door' way read items number desk lock port done = record {
    steps = done.steps;
    does = done.does;
    stands =
        door_goes place door door' done.steps (way_within r.doors.items place looper way) read items number desk lock port
        (subst (λ (n : ℕ). SideGoes n done.steps (side r.hands.clock r.hands.book_seat door.1.port_seat) (side r'.hands.clock r'.hands.book_seat door'.1.port_seat)) (sym (way_number r.doors.items place looper door way read)) done.goes);
  }
