-- The way to a looper: the session has the door already, gets a new one, or finds no memory for one.
use Rattle.std.proofs.Common.{◌≡◌, ◌≢◌, ℕ, Bool, true, false, cond, List, [], ◌∷◌, ◌++◌, get_or, map, position, All, AllPairs, Contains, Option, None, Some, ◌==◌, refl, sym, ap, ◌∙◌, subst, append-nil, eq-eqb, ne_eqb, arith}
use Rattle.std.specs.Prelude.{IfSome, slice_get, if◌then◌else◌}
use Rattle.std.specs.Arc.{arc_value}
use Rattle.std.proofs.lemmas.Bool.{eqb-true}
use Rattle.std.proofs.lemmas.List.{map-append}
use Rattle.std.proofs.lemmas.List.Concat.{flat_map-append}
use Rattle.std.proofs.lemmas.List.Elements.{All-contains, All-cons, All-head, All-nil, All-tail, All-weaker}
use Rattle.std.proofs.lemmas.List.Folds.{list_any_at, list_any_none}
use Rattle.std.proofs.lemmas.List.Quantifiers.{all_pairs_push, position-Some}
use Rattle.ak_base.proofs.Surface.{position-map}
use Rattle.ak_turn.specs.Entries.{StartsWith}
use Rattle.ak_turn.specs.Noted.{Noted, noted}
use Rattle.ak_roster.specs.declared.head.AppHead.{AppHead}
use Rattle.ak_roster.specs.declared.entry.RosterEntry.{RosterEntry}
use Rattle.ak_roster.specs.declared.entry.RosterEvent.TheVariants as event
use Rattle.ak_roster.specs.Laws.{EntriesTellPlain, IsNoneOfFour, StrangersAreTold}
use Rattle.ak_roster.specs.Machine.{LooperData, state_of}
use Rattle.ak_roster.specs.Roster.{plain_entries}
use Rattle.ak_port.specs.declared.port_entry.PortEntry.{PortEntry}
use Rattle.ak_port.specs.PortCalls as ports
use Rattle.ak_desk.specs.Shared as desks
use Rattle.ak_diary.specs.Looper.{doors_got}
use Rattle.ak_diary.specs.Step.{Step, at_roster, at_book, at_port, at_desk, saw_roster, saw_book, saw_port, lacked, desk_entries, desk_entry, port_entries, port_entry, port_sight, port_sights, roster_entries}
use Rattle.ak_diary.specs.Wants.{GetsDoor}
use Rattle.ak_looper.specs.declared.door.Door.{Door}
use Rattle.ak_looper.specs.Rosters.{HasLooked, LeadsTo, MayGetDoor, Object}
use Rattle.ak_looper.specs.RosterCalls.{HasEnteredDoor, IsPartOf}
use Rattle.ak_looper.specs.Stands.{PortStands}
use Rattle.ak_looper.proofs.Surface.{entered_goes, looked_goes, none_of_door, noted_call, own_entries}
use Rattle.ak_session.specs.declared.session.Session.{Session}
use Rattle.ak_session.specs.Doing.{LacksDoor, Opens, OpensFor, has_door}
use Rattle.ak_session.specs.Stands.{DoorStands, GoesOn, IsAtOneOf, IsSessionThread, Stands, numbers_of}
use Rattle.ak_session.proofs.RosterStands.{none_at_all, one_there, stands_beside, stands_with}

-- ---- whether it has the door
has_it : (so_far : List Step) (looper : ℕ) → Contains (doors_got so_far) looper → has_door so_far looper ≡ true
has_it so_far looper there = list_any_at (λ got. got == looper) (doors_got so_far) there.0 looper there.1 (eq-eqb (get_or (doors_got so_far) there.0 looper) looper there.2)

has_none : (so_far : List Step) (looper : ℕ) → All (λ number. number ≢ looper) (doors_got so_far) → has_door so_far looper ≡ false
has_none so_far looper none =
    list_any_none (λ got. got == looper) (doors_got so_far) (All-weaker (λ number. number ≢ looper) (λ got. (got == looper) ≡ false) (λ number differs. ne_eqb number looper differs) (doors_got so_far) none)

opens_none : (so_far : List Step) (looper : ℕ) → has_door so_far looper ≡ true → Opens so_far looper []
opens_none so_far looper has = subst (λ (b : Bool). OpensFor so_far b looper []) (sym has) refl

opens_now : (so_far : List Step) (looper : ℕ) (steps : List Step) → has_door so_far looper ≡ false → GetsDoor looper steps → Opens so_far looper steps
opens_now so_far looper steps none gets = subst (λ (b : Bool). OpensFor so_far b looper steps) (sym none) gets

-- ---- at a port and a desk to which it has no way it did nothing
record HasNothing (looper : ℕ) (steps : List Step) : Type 0 where
  port : port_entries looper steps ≡ []
  seen : port_sights looper steps ≡ []
  desk : desk_entries looper steps ≡ []

other_number : {A : Type 0} (ways : List ℕ) (number looper : ℕ) (x : A) → Contains ways number → (Contains ways looper → ⊥) → (if number == looper then x ∷ [] else []) ++ [] ≡ []
other_number ways number looper x there none = ap (λ (b : Bool). cond b (x ∷ []) [] ++ []) (ne_eqb number looper (λ same. none (subst (λ (n : ℕ). Contains ways n) same there)))

nothing_by : (ways : List ℕ) (looper : ℕ) → (Contains ways looper → ⊥) → (step : Step) → IsAtOneOf ways step → HasNothing looper (step ∷ [])
nothing_by ways looper none (at_roster n) there = record { port = refl; seen = refl; desk = refl }
nothing_by ways looper none (at_book n) there = record { port = refl; seen = refl; desk = refl }
nothing_by ways looper none (at_port number n) there = record { port = other_number ways number looper n there none; seen = refl; desk = refl }
nothing_by ways looper none (at_desk number n) there = record { port = refl; seen = refl; desk = other_number ways number looper n there none }
nothing_by ways looper none (saw_roster list) there = record { port = refl; seen = refl; desk = refl }
nothing_by ways looper none (saw_book list) there = record { port = refl; seen = refl; desk = refl }
nothing_by ways looper none (saw_port number list) there = record { port = refl; seen = other_number ways number looper list there none; desk = refl }
nothing_by ways looper none lacked there = record { port = refl; seen = refl; desk = refl }

both_nothing : (looper : ℕ) (xs ys : List Step) → HasNothing looper xs → HasNothing looper ys → HasNothing looper (xs ++ ys)
both_nothing looper xs ys one two = record {
  port = flat_map-append (port_entry looper) xs ys ∙ ap (λ l. l ++ port_entries looper ys) one.port ∙ two.port;
  seen = flat_map-append (port_sight looper) xs ys ∙ ap (λ l. l ++ port_sights looper ys) one.seen ∙ two.seen;
  desk = flat_map-append (desk_entry looper) xs ys ∙ ap (λ l. l ++ desk_entries looper ys) one.desk ∙ two.desk;
}

nothing_there : (ways : List ℕ) (looper : ℕ) → (Contains ways looper → ⊥) → (steps : List Step) → All (IsAtOneOf ways) steps → HasNothing looper steps
nothing_there ways looper none [] there = record { port = refl; seen = refl; desk = refl }
nothing_there ways looper none (step ∷ steps) there =
    both_nothing looper (step ∷ []) steps (nothing_by ways looper none step (All-head (IsAtOneOf ways) step steps there)) (nothing_there ways looper none steps (All-tail (IsAtOneOf ways) step steps there))

-- ---- a session may get each door that it has not
none_of_four : (thread looper : ℕ) → IsSessionThread thread → (o : Option LooperData) → IfSome o (IsNoneOfFour thread looper)
none_of_four thread looper session None = tt
none_of_four thread looper session (Some its) = record {
  not_main = λ e. omega (arith, e, session.0);
  not_looper = λ e. omega (arith, e, session.1);
  not_own = λ e. omega (arith, e, session.1);
  not_keeper = λ e. omega (arith, e, session.1);
}

pub may_get_door : StrangersAreTold → EntriesTellPlain Object → (heads : List AppHead) (start : ℕ) (steps : List Step) (s : Session) (looper : ℕ) → Stands heads start steps s → s.roster_seat.thread ≡ s.hands.clock.thread.0 → All (λ number. number ≢ looper) (numbers_of s)
    → MayGetDoor looper s.roster_seat
may_get_door strangers tell heads start steps s looper stands thread none = λ others front opening starts made history.
    let seat = s.roster_seat in
    let ways : All (λ number. number ≢ looper) (doors_got steps) = subst (λ (ns : List ℕ). All (λ number. number ≢ looper) ns) stands.ways none in
    let mine = own_entries tell looper seat front (roster_entries steps) stands.roster.noted_is made (none_of_door looper steps ways) in
    let is : IsSessionThread seat.thread = subst IsSessionThread (sym thread) stands.session in
    strangers others (plain_entries front) seat.thread looper history (none_of_four seat.thread looper is (slice_get (state_of others (plain_entries front)).loopers looper)) mine

-- ---- it has the door already
-- where a search found it
stands_at : (looper : ℕ) (doors : List (ℕ × Door)) (place : ℕ) → position (λ door. door.0 == looper) doors ≡ Some place → Contains (map (λ (door : ℕ × Door). door.0) doors) looper
stands_at looper doors place found =
    let ns : List ℕ = map (λ (door : ℕ × Door). door.0) doors in
    let at = position-Some (λ (number : ℕ). number == looper) ns place looper (position-map (λ (door : ℕ × Door). door.0) (λ (number : ℕ). number == looper) doors ∙ found) in
    (place, at.0, eqb-true (get_or ns place looper) looper at.1)

pub way_is_there : (heads : List AppHead) (start : ℕ) (so_far : List Step) (s : Session) (looper place : ℕ) → position (λ door. door.0 == looper) s.doors.items ≡ Some place → Stands heads start so_far s → GoesOn heads start so_far (Opens so_far looper) s
way_is_there heads start so_far s looper place found stands = record {
  steps = [];
  does = opens_none so_far looper (has_it so_far looper (subst (λ (ns : List ℕ). Contains ns looper) stands.ways (stands_at looper s.doors.items place found)));
  stands = subst (λ (steps : List Step). Stands heads start steps s) (sym (append-nil so_far)) stands;
}

module _ (heads : List AppHead) (start : ℕ) (so_far : List Step) (s s' : Session) (looper : ℕ) (stands : Stands heads start so_far s) (book : s'.hands.book_seat ≡ s.hands.book_seat) (none : All (λ number. number ≢ looper) (numbers_of s)) where
  none_got : has_door so_far looper ≡ false
  none_got = has_none so_far looper (subst (λ (ns : List ℕ). All (λ number. number ≢ looper) ns) stands.ways none)

  -- ---- it finds no memory for the door
  pub lacks_door : s'.doors.items ≡ s.doors.items → HasLooked s.hands.clock s'.hands.clock s.roster_seat s'.roster_seat → GoesOn heads start so_far (LacksDoor so_far looper) s'
  lacks_door items looked = record {
    steps = [];
    does = record { without = none_got; is = refl };
    stands = stands_beside heads start so_far [] s s' stands book (looked_goes s.hands.clock s'.hands.clock s.roster_seat s'.roster_seat looked) none_at_all items refl;
  }

  -- ---- it gets the door
  module _ (door : Door) (items : s'.doors.items ≡ s.doors.items ++ (looper, door) ∷ []) (made : HasEnteredDoor looper s.hands.clock s'.hands.clock s.roster_seat s'.roster_seat) (part : IsPartOf looper s'.roster_seat door) where
    abbrev n : Noted RosterEntry
    n = noted_call s.hands.clock made.before (event.Door looper)

    nothing : HasNothing looper (so_far ++ at_roster n ∷ [])
    nothing =
        both_nothing looper so_far (at_roster n ∷ [])
        (nothing_there (numbers_of s) looper (λ there. All-contains (λ number. number ≢ looper) (numbers_of s) looper none there refl) so_far stands.at_ways) (record { port = refl; seen = refl; desk = refl })

    apart_still : AllPairs (λ a b. a ≢ b) (numbers_of s')
    apart_still =
        subst (λ (ns : List ℕ). AllPairs (λ a b. a ≢ b) ns) (sym (ap (map (λ (d : ℕ × Door). d.0)) items ∙ map-append (λ (d : ℕ × Door). d.0) s.doors.items ((looper, door) ∷ [])))
        (all_pairs_push (λ a b. a ≢ b) (numbers_of s) looper stands.apart none)

    pub opens_door : door.port_seat.lock ≡ arc_value door.port → door.desk_seat.lock ≡ arc_value door.desk → GoesOn heads start so_far (Opens so_far looper) s'
    opens_door port_of desk_of =
        let steps : List Step = at_roster n ∷ [] in
        let leads : LeadsTo s'.roster_seat looper door.port_seat.lock door.desk_seat.lock =
        subst (λ port. LeadsTo s'.roster_seat looper port door.desk_seat.lock) (sym port_of) (subst (λ desk. LeadsTo s'.roster_seat looper (arc_value door.port) desk) (sym desk_of) part.leads) in
        let port : PortStands (so_far ++ steps) looper door.port_seat = record {
          noted_is = ap (λ (t : ℕ). noted ports.by_number t door.port_seat.front) part.new.at_port ∙ part.new.nothing_there ∙ sym nothing.port;
          seen = subst (λ (lists : List (List PortEntry)). All (StartsWith door.port_seat.front) lists) (sym nothing.seen) (All-nil (StartsWith door.port_seat.front));
        } in
        let it : DoorStands (so_far ++ steps) s'.roster_seat (looper, door) =
        record { port = port; desk = ap (λ (t : ℕ). noted desks.by_number t door.desk_seat.front) part.new.at_desk ∙ part.new.nothing_here ∙ sym nothing.desk; leads = leads } in
        record {
          steps = steps;
          does = opens_now so_far looper steps none_got (record { noted = n; event_is = refl; is = refl });
          stands = stands_with heads start so_far steps s s' stands book (entered_goes s.hands.clock s'.hands.clock (event.Door looper) s.roster_seat s'.roster_seat made) (one_there n) ((looper, door) ∷ []) items
              (All-cons (DoorStands (so_far ++ steps) s'.roster_seat) (looper, door) [] it (All-nil (DoorStands (so_far ++ steps) s'.roster_seat))) refl apart_still;
        }
