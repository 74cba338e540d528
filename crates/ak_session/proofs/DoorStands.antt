-- A session stands as before, with steps at the book and behind one of its doors more.
use Rattle.std.proofs.Common.{◌≡◌, ◌≢◌, ◌<◌, ℕ, zero, suc, ◌==◌, Bool, List, [], ◌∷◌, ◌++◌, length, map, set, get_or, find, All, AllPairs, Contains, Option, Some, option_map, slice_get, unwrap_or, cond, sym, ap, ◌∙◌, subst, eq-eqb, ne_eqb, ⊎_elim, arith, length-set}
use Rattle.std.proofs.lemmas.Bool.{cases_lt}
use Rattle.std.proofs.lemmas.List.{get_or-map, get_or_default, get_or-set_same, length-map}
use Rattle.std.proofs.lemmas.List.Concat.{flat_map-append}
use Rattle.std.proofs.lemmas.List.Elements.{All-append}
use Rattle.std.proofs.lemmas.Option.{same_Some, slice_get-get_or, slice_get_within}
use Rattle.ak_base.specs.declared.thread.ThreadId.{ThreadId}
use Rattle.ak_turn.specs.Entries.{StartsWith}
use Rattle.ak_turn.specs.Noted.{Noted, noted}
use Rattle.ak_turn.specs.Seats.{LockId}
use Rattle.ak_turn.proofs.Surface.{seen_still}
use Rattle.ak_roster.specs.declared.head.AppHead.{AppHead}
use Rattle.ak_port.specs.declared.port_entry.PortEntry.{PortEntry}
use Rattle.ak_port.specs.declared.reply_entry.ReplyEntry.{ReplyEntry}
use Rattle.ak_port.specs.PortCalls.{PortSeat}
use Rattle.ak_desk.specs.Shared as desks
use Rattle.ak_desk.specs.Shared.{DeskSeat}
use Rattle.ak_diary.specs.Looper.{door_got}
use Rattle.ak_diary.specs.Step.{Step, AreStamped, book_entries, book_entry, book_sight, book_sights, desk_entries, desk_entry, port_entries, port_entry, port_sight, port_sights, roster_entry, roster_sight, time_of}
use Rattle.ak_looper.specs.declared.door.Door.{Door}
use Rattle.ak_looper.specs.Rosters.{LeadsTo, RosterSeat, plain_of}
use Rattle.ak_looper.specs.Side.{Side, SideDoes, SideGoes, side}
use Rattle.ak_looper.specs.Stands.{BookStands, PortStands, RosterStands}
use Rattle.ak_looper.proofs.Surface.{all_set, door_among, more_none, same_numbers, stamped_on, time_on, way_number, way_within}
use Rattle.ak_session.specs.declared.session.Session.{Session}
use Rattle.ak_session.specs.Stands.{DoorStands, GoesOn, IsAtOneOf, IsSessionThread, Stands, front_at, numbers_of}
use Rattle.ak_session.proofs.Elsewhere.{LeavesRest, no_edits, side_leaves}

abbrev number_of : ℕ × Door → ℕ
number_of door = door.0

-- ---- numbers of doors: no two are the same
not_other : (doors : List (ℕ × Door)) → AllPairs (λ a b. a ≢ b) (map (λ (door : ℕ × Door). door.0) doors) → (j k : ℕ) (d : ℕ × Door) → j < k → k < length doors → (get_or doors j d).0 ≢ (get_or doors k d).0
not_other doors apart j k d before within same =
    let long : length (map number_of doors) ≡ length doors = length-map doors number_of in
    apart j k d.0 before (omega (arith, long, within)) (get_or-map number_of doors j d d.0 (omega (arith, before, within)) ∙ same ∙ sym (get_or-map number_of doors k d d.0 within))

not_at : (doors : List (ℕ × Door)) → AllPairs (λ a b. a ≢ b) (map (λ (door : ℕ × Door). door.0) doors) → (j k : ℕ) (d : ℕ × Door) → (j ≡ k → ⊥) → j < length doors → k < length doors → (get_or doors j d).0 ≢ (get_or doors k d).0
not_at doors apart j k d differ within within' same =
    ⊎_elim (λ before. not_other doors apart j k d before within' same) (λ not_before. not_other doors apart k j d (omega arith) within (sym same)) (cases_lt j k)

-- a search for a looper finds its door
found_at : (looper : ℕ) (doors : List (ℕ × Door)) (place : ℕ) (door : ℕ × Door) → slice_get doors place ≡ Some door → door.0 ≡ looper → AllPairs (λ a b. a ≢ b) (map (λ (d : ℕ × Door). d.0) doors) → find (λ (d : ℕ × Door). d.0 == looper) doors ≡ Some door
found_at looper [] place door there is apart = absurd cc
found_at looper (x ∷ xs) zero door there is apart =
    let same : x ≡ door = same_Some x door there in
    ap (λ (b : Bool). cond b (Some x) (find (λ (d : ℕ × Door). d.0 == looper) xs)) (eq-eqb x.0 looper (ap number_of same ∙ is)) ∙ there
found_at looper (x ∷ xs) (suc k) door there is apart =
    let within : k < length xs = slice_get_within xs k door there in
    let got : get_or xs k door ≡ door = same_Some (get_or xs k door) door (sym (slice_get-get_or xs k door within) ∙ there) in
    let read : get_or (map number_of xs) k x.0 ≡ looper = get_or-map number_of xs k door x.0 within ∙ ap number_of got ∙ is in
    let long : length (map number_of xs) ≡ length xs = length-map xs number_of in
    let differs : x.0 ≢ looper = λ e. apart 0 (suc k) x.0 (omega arith) (omega (arith, within, long)) (e ∙ sym read) in
    ap (λ (b : Bool). cond b (Some x) (find (λ (d : ℕ × Door). d.0 == looper) xs)) (ne_eqb x.0 looper differs)
    ∙ found_at looper xs k door there is (λ i j d before inside. apart (suc i) (suc j) d (omega (arith, before)) (omega (arith, inside)))

-- what a door leads to, when it is another to the same port and desk
leads_still : (seat : RosterSeat) (door door' : ℕ × Door) → door'.0 ≡ door.0 → door'.1.port_seat.lock ≡ door.1.port_seat.lock → door'.1.desk_seat.lock ≡ door.1.desk_seat.lock
    → LeadsTo seat door.0 door.1.port_seat.lock door.1.desk_seat.lock → LeadsTo seat door'.0 door'.1.port_seat.lock door'.1.desk_seat.lock
leads_still seat door door' number port desk leads =
    subst (λ (n : ℕ). LeadsTo seat n door'.1.port_seat.lock door'.1.desk_seat.lock) (sym number)
    (subst (λ (x : LockId). LeadsTo seat door.0 x door'.1.desk_seat.lock) (sym port) (subst (λ (x : LockId). LeadsTo seat door.0 door.1.port_seat.lock x) (sym desk) leads))

-- ---- each object, behind steps at the book and at one port
module _ (so_far steps : List Step) (looper : ℕ) (a b : Side) (goes : SideGoes looper steps a b) where
  book_on : BookStands so_far a.book → BookStands (so_far ++ steps) b.book
  book_on was = record {
    noted_is = goes.book_noted ∙ ap (λ (l : List (Noted ReplyEntry)). l ++ book_entries steps) was.noted_is ∙ sym (flat_map-append book_entry so_far steps);
    seen =
        subst (All (StartsWith b.book.front)) (sym (flat_map-append book_sight so_far steps))
        (All-append (StartsWith b.book.front) (book_sights so_far) (book_sights steps) (seen_still a.book.front b.book.front (book_sights so_far) goes.book_on was.seen) goes.book_seen);
  }

  port_on : PortStands so_far looper a.port → PortStands (so_far ++ steps) looper b.port
  port_on was = record {
    noted_is = goes.port_noted ∙ ap (λ (l : List (Noted PortEntry)). l ++ port_entries looper steps) was.noted_is ∙ sym (flat_map-append (port_entry looper) so_far steps);
    seen =
        subst (All (StartsWith b.port.front)) (sym (flat_map-append (port_sight looper) so_far steps))
        (All-append (StartsWith b.port.front) (port_sights looper so_far) (port_sights looper steps) (seen_still a.port.front b.port.front (port_sights looper so_far) goes.port_on was.seen) goes.port_seen);
  }

-- ---- the whole: one door is another, by these steps
module _ (heads : List AppHead) (start : ℕ) (so_far : List Step) (s s' : Session) (looper place : ℕ) (door door' : ℕ × Door) (was : Stands heads start so_far s) (roster : s'.roster_seat ≡ s.roster_seat)
    (way : option_map (λ (d : ℕ × Door). d.0) (slice_get s.doors.items place) ≡ Some looper) (read : door ≡ get_or s.doors.items place door) (items : s'.doors.items ≡ set s.doors.items place door') (number : door'.0 ≡ door.0) where
  within : place < length s.doors.items
  within = way_within s.doors.items place looper way

  is : door.0 ≡ looper
  is = way_number s.doors.items place looper door way read

  numbers : numbers_of s' ≡ numbers_of s
  numbers = ap (map number_of) items ∙ same_numbers s.doors.items place door door' within read number

  there : DoorStands so_far s.roster_seat door
  there = subst (DoorStands so_far s.roster_seat) (sym read) (was.doors place door within)

  -- what it has seen behind that door
  pub front_there : front_at s' looper ≡ door'.1.port_seat.front
  front_there =
      let seen : Option (ℕ × Door) → List PortEntry = λ o. unwrap_or (option_map (λ (d : ℕ × Door). d.1.port_seat.front) o) [] in
      let sought : List (ℕ × Door) → Option (ℕ × Door) = λ ds. find (λ (d : ℕ × Door). d.0 == looper) ds in
      let doors = set s.doors.items place door' in
      let inside : place < length doors = omega (arith, length-set s.doors.items place door', within) in
      let at : slice_get doors place ≡ Some door' = slice_get-get_or doors place door' inside ∙ ap (λ (d : ℕ × Door). Some d) (get_or-set_same s.doors.items place door' door' within) in
      let apart : AllPairs (λ a b. a ≢ b) (map number_of doors) = subst (λ (ns : List ℕ). AllPairs (λ a b. a ≢ b) ns) (sym (sym (ap (map number_of) items) ∙ numbers)) was.apart in
      ap (λ (ds : List (ℕ × Door)). seen (sought ds)) items ∙ ap seen (found_at looper doors place door' at (number ∙ is) apart)

  -- what the steps come to at the clock, at the book and behind the door
  pub record GoesBehind (steps : List Step) : Type 0 where
    pub rest : LeavesRest looper steps
    pub thread : s'.hands.clock.thread ≡ s.hands.clock.thread
    pub stamped : AreStamped s.hands.clock.time steps
    pub time : time_of s.hands.clock.time steps ≡ s'.hands.clock.time
    pub book : BookStands so_far s.hands.book_seat → BookStands (so_far ++ steps) s'.hands.book_seat
    pub port : PortStands so_far looper door.1.port_seat → PortStands (so_far ++ steps) looper door'.1.port_seat
    pub desk : noted desks.by_number door.1.desk_seat.thread door.1.desk_seat.front ≡ desk_entries looper so_far → noted desks.by_number door'.1.desk_seat.thread door'.1.desk_seat.front ≡ desk_entries looper (so_far ++ steps)
    pub port_lock : door'.1.port_seat.lock ≡ door.1.port_seat.lock
    pub desk_lock : door'.1.desk_seat.lock ≡ door.1.desk_seat.lock

  module _ (steps : List Step) (goes : GoesBehind steps) where
    other_port : (other : ℕ) (seat : PortSeat) → other ≢ looper → PortStands so_far other seat → PortStands (so_far ++ steps) other seat
    other_port other seat differs port = record {
      noted_is = port.noted_is ∙ sym (more_none (port_entry other) so_far steps (goes.rest.ports other differs));
      seen = subst (All (StartsWith seat.front)) (sym (more_none (port_sight other) so_far steps (goes.rest.ports_seen other differs))) port.seen;
    }

    other_door : (d : ℕ × Door) → d.0 ≢ looper → DoorStands so_far s.roster_seat d → DoorStands (so_far ++ steps) s.roster_seat d
    other_door d differs stands = record {
      port = other_port d.0 d.1.port_seat differs stands.port;
      desk = stands.desk ∙ sym (more_none (desk_entry d.0) so_far steps (goes.rest.desks d.0 differs));
      leads = stands.leads;
    }

    this_door : DoorStands (so_far ++ steps) s.roster_seat door'
    this_door =
        let same : door'.0 ≡ looper = number ∙ is in
        record {
          port = subst (λ (n : ℕ). PortStands (so_far ++ steps) n door'.1.port_seat) (sym same) (goes.port (subst (λ (n : ℕ). PortStands so_far n door.1.port_seat) is there.port));
          desk = goes.desk (there.desk ∙ ap (λ (n : ℕ). desk_entries n so_far) is) ∙ ap (λ (n : ℕ). desk_entries n (so_far ++ steps)) (sym same);
          leads = leads_still s.roster_seat door door' number goes.port_lock goes.desk_lock there.leads;
        }

    roster_on : RosterStands (so_far ++ steps) s.roster_seat
    roster_on = record {
      noted_is = was.roster.noted_is ∙ sym (more_none roster_entry so_far steps goes.rest.roster);
      seen = subst (All (StartsWith (plain_of s.roster_seat))) (sym (more_none roster_sight so_far steps goes.rest.roster_seen)) was.roster.seen;
    }

    pub stands_behind : Stands heads start (so_far ++ steps) s'
    stands_behind =
        let others : (k : ℕ) (d : ℕ × Door) → (k ≡ place → ⊥) → k < length s.doors.items → DoorStands (so_far ++ steps) s.roster_seat (get_or s.doors.items k d) =
        λ k d differ lt. other_door (get_or s.doors.items k d)
        (λ same. not_at s.doors.items was.apart k place d differ lt within (same ∙ sym is ∙ ap number_of (read ∙ get_or_default s.doors.items place door d within))) (was.doors k d lt) in
        let contains : Contains (numbers_of s) looper = subst (Contains (numbers_of s)) is (door_among s.doors.items place door within read) in
        record {
          session = subst (λ (t : ThreadId). IsSessionThread t.0) (sym goes.thread) was.session;
          heads_are = ap (λ (r : RosterSeat). r.opening) roster ∙ was.heads_are;
          stamped = stamped_on start so_far steps was.stamped (subst (λ (t : ℕ). AreStamped t steps) (sym was.time) goes.stamped);
          time = time_on start so_far steps ∙ ap (λ (t : ℕ). time_of t steps) was.time ∙ goes.time;
          book = goes.book was.book;
          roster = subst (RosterStands (so_far ++ steps)) (sym roster) roster_on;
          doors = subst (λ (r : RosterSeat). All (DoorStands (so_far ++ steps) r) s'.doors.items) (sym roster)
              (subst (All (DoorStands (so_far ++ steps) s.roster_seat)) (sym items) (all_set (DoorStands (so_far ++ steps) s.roster_seat) s.doors.items place door' within this_door others));
          ways = numbers ∙ was.ways ∙ sym (more_none door_got so_far steps goes.rest.doors);
          apart = subst (λ (ns : List ℕ). AllPairs (λ a b. a ≢ b) ns) (sym numbers) was.apart;
          at_ways = subst (λ (ns : List ℕ). All (IsAtOneOf ns) (so_far ++ steps)) (sym numbers) (All-append (IsAtOneOf (numbers_of s)) so_far steps was.at_ways (goes.rest.at_ways (numbers_of s) contains));
        }

  -- ---- a send or an ask: at the book and at the port
  pub side_goes_on : (P : List Step → Type 0) → door'.1.desk_seat ≡ door.1.desk_seat → SideDoes looper P (side s.hands.clock s.hands.book_seat door.1.port_seat) (side s'.hands.clock s'.hands.book_seat door'.1.port_seat) → GoesOn heads start so_far P s'
  side_goes_on P desk done =
      let steps = done.steps in
      let a = side s.hands.clock s.hands.book_seat door.1.port_seat in
      let b = side s'.hands.clock s'.hands.book_seat door'.1.port_seat in
      record {
        steps = steps;
        does = done.does;
        stands = stands_behind steps (record {
          rest = side_leaves looper steps done.goes.on_side;
          thread = done.goes.thread;
          stamped = done.goes.stamped;
          time = done.goes.time;
          book = book_on so_far steps looper a b done.goes;
          port = port_on so_far steps looper a b done.goes;
          desk = λ had. ap (λ (d : DeskSeat). noted desks.by_number d.thread d.front) desk ∙ had ∙ sym (more_none (desk_entry looper) so_far steps (no_edits looper looper steps done.goes.on_side));
          port_lock = done.goes.keeps_port.lock;
          desk_lock = ap (λ (d : DeskSeat). d.lock) desk;
        });
      }
