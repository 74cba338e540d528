-- The way to a looper's port: the thread has it already, gets a new door, or finds no memory for one.
use Rattle.std.proofs.Common.{◌≡◌, ◌≢◌, ℕ, ◌<◌, Bool, true, List, [], ◌∷◌, ◌++◌, cond, length, map, get_or, position, All, AllPairs, Contains, Some, Result, Ok, Err, ◌==◌, refl, sym, ap, ◌∙◌, subst, append-nil, ne_eqb, arith}
use Rattle.std.specs.Prelude.{OnErr, option_map, slice_get, if◌then◌else◌}
use Rattle.std.specs.Arc.{arc_value}
use Rattle.std.proofs.lemmas.Bool.{eqb-true}
use Rattle.std.proofs.lemmas.List.{length-map, map-append}
use Rattle.std.proofs.lemmas.List.Concat.{flat_map-append}
use Rattle.std.proofs.lemmas.List.Elements.{All-contains, All-cons, All-head, All-nil, All-push, All-tail}
use Rattle.std.proofs.lemmas.List.Quantifiers.{all_pairs_push, position-Some}
use Rattle.std.proofs.lemmas.Option.{slice_get-get_or, slice_get-map}
use Rattle.ak_base.proofs.Surface.{position-map}
use Rattle.ak_turn.specs.declared.clock.Clock.{Clock}
use Rattle.ak_turn.specs.Entries.{StartsWith}
use Rattle.ak_turn.specs.Noted.{Noted, noted}
use Rattle.ak_roster.specs.declared.entry.RosterEntry.{RosterEntry}
use Rattle.ak_roster.specs.declared.entry.RosterEvent.TheVariants as event
use Rattle.ak_port.specs.declared.port_entry.PortEntry.{PortEntry}
use Rattle.ak_port.specs.PortCalls as ports
use Rattle.ak_desk.specs.Shared as desks
use Rattle.ak_diary.specs.Looper.{LooperFacts, has_door}
use Rattle.ak_diary.specs.Step.{Step, at_roster, at_book, at_port, at_desk, saw_roster, saw_book, saw_port, lacked, port_entries, port_entry, port_sight, port_sights}
use Rattle.ak_diary.specs.Wants.{LacksDoor, Opens}
use Rattle.ak_looper.specs.declared.door.Door.{Door}
use Rattle.ak_looper.specs.declared.reach.Reach.{Reach}
use Rattle.ak_looper.specs.Rosters.{HasLooked, LeadsTo, RosterSeat, by_number}
use Rattle.ak_looper.specs.RosterCalls.{HasEnteredDoor, IsPartOf}
use Rattle.ak_looper.specs.Stands.{DoorStands, GoesOn, IsAtOneOf, PortStands, Stands, numbers_of}
use Rattle.ak_looper.proofs.Kept.{has_none, has_other, has_own, opens_none, opens_now}
use Rattle.ak_looper.proofs.RosterStands.{IsSameBeside, stands_beside, stands_with}
use Rattle.ak_looper.proofs.RosterSteps.{entered_goes, looked_goes, noted_call}
use Rattle.ak_turn.proofs.Surface.{seen_nothing}

-- ---- at a port to which it has no way it did nothing
other_number : {A : Type 0} (ways : List ℕ) (number looper : ℕ) (x : A) → Contains ways number → (Contains ways looper → ⊥) → (if number == looper then x ∷ [] else []) ≡ []
other_number ways number looper x there none = ap (λ (b : Bool). cond b (x ∷ []) []) (ne_eqb number looper (λ same. none (subst (λ (n : ℕ). Contains ways n) same there)))

module _ (ways : List ℕ) (looper : ℕ) (none : Contains ways looper → ⊥) where
  no_entry : (step : Step) → IsAtOneOf ways step → port_entry looper step ≡ []
  no_entry (at_port number n) there = other_number ways number looper n there none
  no_entry (at_roster n) there = refl
  no_entry (at_book n) there = refl
  no_entry (at_desk number n) there = refl
  no_entry (saw_roster list) there = refl
  no_entry (saw_book list) there = refl
  no_entry (saw_port number list) there = refl
  no_entry lacked there = refl

  no_sight : (step : Step) → IsAtOneOf ways step → port_sight looper step ≡ []
  no_sight (saw_port number list) there = other_number ways number looper list there none
  no_sight (at_port number n) there = refl
  no_sight (at_roster n) there = refl
  no_sight (at_book n) there = refl
  no_sight (at_desk number n) there = refl
  no_sight (saw_roster list) there = refl
  no_sight (saw_book list) there = refl
  no_sight lacked there = refl

  pub no_entries : (steps : List Step) → All (IsAtOneOf ways) steps → port_entries looper steps ≡ []
  no_entries [] there = refl
  no_entries (step ∷ steps) there =
      ap (λ l. l ++ port_entries looper steps) (no_entry step (All-head (IsAtOneOf ways) step steps there)) ∙ no_entries steps (All-tail (IsAtOneOf ways) step steps there)

  pub no_sights : (steps : List Step) → All (IsAtOneOf ways) steps → port_sights looper steps ≡ []
  no_sights [] there = refl
  no_sights (step ∷ steps) there =
      ap (λ l. l ++ port_sights looper steps) (no_sight step (All-head (IsAtOneOf ways) step steps there)) ∙ no_sights steps (All-tail (IsAtOneOf ways) step steps there)

-- ---- it has the door already
already : (l : LooperFacts) (start : ℕ) (so_far : List Step) (r : Reach) (looper : ℕ) → Stands l start so_far r → has_door l so_far looper ≡ true → GoesOn l start so_far (Opens l so_far looper) r
already l start so_far r looper stands has = record {
  steps = [];
  does = opens_none l so_far looper has;
  stands = subst (λ (steps : List Step). Stands l start steps r) (sym (append-nil so_far)) stands;
}

pub way_is_own : (l : LooperFacts) (start : ℕ) (so_far : List Step) (r : Reach) (looper : ℕ) → looper ≡ r.number → Stands l start so_far r → GoesOn l start so_far (Opens l so_far looper) r
way_is_own l start so_far r looper is stands = already l start so_far r looper stands (has_own l so_far looper (is ∙ stands.number))

-- where a search found it
module _ (looper : ℕ) (doors : List (ℕ × Door)) (place : ℕ) (found : position (λ door. door.0 == looper) doors ≡ Some place) where
  stands_at : (place < length (map (λ (door : ℕ × Door). door.0) doors)) × (get_or (map (λ (door : ℕ × Door). door.0) doors) place looper ≡ looper)
  stands_at =
      let ns : List ℕ = map (λ (door : ℕ × Door). door.0) doors in
      let at = position-Some (λ (number : ℕ). number == looper) ns place looper (position-map (λ (door : ℕ × Door). door.0) (λ (number : ℕ). number == looper) doors ∙ found) in
      (at.0, eqb-true (get_or ns place looper) looper at.1)

  pub there_at : option_map (λ (door : ℕ × Door). door.0) (slice_get doors place) ≡ Some looper
  there_at =
      let ns : List ℕ = map (λ (door : ℕ × Door). door.0) doors in
      sym (slice_get-map (λ (door : ℕ × Door). door.0) doors place) ∙ slice_get-get_or ns place looper stands_at.0 ∙ ap Some stands_at.1

  pub within_doors : place < length doors
  within_doors = omega (arith, stands_at.0, length-map doors (λ (door : ℕ × Door). door.0))

pub way_is_through : (l : LooperFacts) (start : ℕ) (so_far : List Step) (r : Reach) (looper place : ℕ) → position (λ door. door.0 == looper) r.doors.items ≡ Some place → Stands l start so_far r → GoesOn l start so_far (Opens l so_far looper) r
way_is_through l start so_far r looper place found stands =
    let at = stands_at looper r.doors.items place found in
    already l start so_far r looper stands (has_other l looper so_far (subst (λ (ns : List ℕ). Contains ns looper) stands.ways (place, at.0, at.1)))

-- ---- it finds no memory for the door
pub lacks_door : (l : LooperFacts) (start : ℕ) (so_far : List Step) (r r' : Reach) (looper : ℕ) → Stands l start so_far r → IsSameBeside r r' → r'.doors.items ≡ r.doors.items
    → HasLooked r.hands.clock r'.hands.clock r.roster_seat r'.roster_seat → looper ≢ r.number → All (λ number. number ≢ looper) (numbers_of r) → GoesOn l start so_far (LacksDoor l so_far looper) r'
lacks_door l start so_far r r' looper stands same items looked other none = record {
  steps = [];
  does = record {
    without = has_none l looper so_far (λ e. other (e ∙ sym stands.number)) (subst (λ (ns : List ℕ). All (λ number. number ≢ looper) ns) stands.ways none);
    is = refl;
  };
  stands = stands_beside l start so_far [] r r' stands same (looked_goes r.hands.clock r'.hands.clock r.roster_seat r'.roster_seat looked) items refl;
}

-- nothing was done at the roster
pub looked_at_nothing : (clock : Clock) (seat : RosterSeat) → HasLooked clock clock seat seat
looked_at_nothing clock seat = record { seen = seen_nothing by_number seat; clocked = refl }

-- ---- it gets the door
module _ (l : LooperFacts) (start : ℕ) (so_far : List Step) (r r' : Reach) (looper : ℕ) (door : Door) (stands : Stands l start so_far r) (same : IsSameBeside r r') (items : r'.doors.items ≡ r.doors.items ++ (looper, door) ∷ [])
    (made : HasEnteredDoor looper r.hands.clock r'.hands.clock r.roster_seat r'.roster_seat) (part : IsPartOf looper r'.roster_seat door) (other : looper ≢ r.number) (none : All (λ number. number ≢ looper) (numbers_of r)) where
  here : looper ≢ l.number
  here = λ e. other (e ∙ sym stands.number)

  differ : All (λ number. number ≢ looper) (l.number ∷ numbers_of r)
  differ = All-cons (λ number. number ≢ looper) l.number (numbers_of r) (λ e. here (sym e)) none

  no_way : Contains (l.number ∷ numbers_of r) looper → ⊥
  no_way there = All-contains (λ number. number ≢ looper) (l.number ∷ numbers_of r) looper differ there refl

  nothing_at_port : (n : Noted RosterEntry) → PortStands (so_far ++ at_roster n ∷ []) looper door.port_seat
  nothing_at_port n = record {
    noted_is = ap (λ (t : ℕ). noted ports.by_number t door.port_seat.front) part.new.at_port ∙ part.new.nothing_there
        ∙ sym (flat_map-append (port_entry looper) so_far (at_roster n ∷ []) ∙ append-nil (port_entries looper so_far) ∙ no_entries (l.number ∷ numbers_of r) looper no_way so_far stands.at_ways);
    seen = subst (λ (lists : List (List PortEntry)). All (StartsWith door.port_seat.front) lists)
        (sym (flat_map-append (port_sight looper) so_far (at_roster n ∷ []) ∙ append-nil (port_sights looper so_far) ∙ no_sights (l.number ∷ numbers_of r) looper no_way so_far stands.at_ways))
        (All-nil (StartsWith door.port_seat.front));
  }

  apart_still : AllPairs (λ a b. a ≢ b) (l.number ∷ numbers_of r')
  apart_still =
      subst (λ (ns : List ℕ). AllPairs (λ a b. a ≢ b) (l.number ∷ ns)) (sym (ap (map (λ (d : ℕ × Door). d.0)) items ∙ map-append (λ (d : ℕ × Door). d.0) r.doors.items ((looper, door) ∷ [])))
      (all_pairs_push (λ a b. a ≢ b) (l.number ∷ numbers_of r) looper stands.apart differ)

  pub opens_door : door.port_seat.lock ≡ arc_value door.port → door.desk_seat.lock ≡ arc_value door.desk → GoesOn l start so_far (Opens l so_far looper) r'
  opens_door port_of desk_of =
      let n = noted_call r.hands.clock made.before (event.Door looper) in
      let steps : List Step = at_roster n ∷ [] in
      let leads : LeadsTo r'.roster_seat looper door.port_seat.lock door.desk_seat.lock =
      subst (λ port. LeadsTo r'.roster_seat looper port door.desk_seat.lock) (sym port_of) (subst (λ desk. LeadsTo r'.roster_seat looper (arc_value door.port) desk) (sym desk_of) part.leads) in
      let it : DoorStands (so_far ++ steps) r'.roster_seat (looper, door) =
      record { port = nothing_at_port n; desk = ap (λ (t : ℕ). noted desks.by_number t door.desk_seat.front) part.new.at_desk ∙ part.new.nothing_here; leads = leads } in
      record {
        steps = steps;
        does = opens_now l so_far looper steps (has_none l looper so_far here (subst (λ (ns : List ℕ). All (λ number. number ≢ looper) ns) stands.ways none)) (record { noted = n; event_is = refl; is = refl });
        stands = stands_with l start so_far steps r r' stands same (entered_goes r.hands.clock r'.hands.clock (event.Door looper) r.roster_seat r'.roster_seat made) ((looper, door) ∷ []) items
            (All-cons (DoorStands (so_far ++ steps) r'.roster_seat) (looper, door) [] it (All-nil (DoorStands (so_far ++ steps) r'.roster_seat))) refl apart_still;
      }

-- the new door is the last one
at_seam : {X : Type 0} (xs : List X) (x : X) → slice_get (xs ++ x ∷ []) (length xs) ≡ Some x
at_seam [] x = refl
at_seam (y ∷ xs) x = at_seam xs x

pub last_there : (doors doors' : List (ℕ × Door)) (place looper : ℕ) (door : Door) → doors' ≡ doors ++ (looper, door) ∷ [] → place ≡ length doors → option_map (λ (d : ℕ × Door). d.0) (slice_get doors' place) ≡ Some looper
last_there doors doors' place looper door items is =
    ap (λ (ds : List (ℕ × Door)). option_map (λ (d : ℕ × Door). d.0) (slice_get ds place)) items ∙ ap (λ (n : ℕ). option_map (λ (d : ℕ × Door). d.0) (slice_get (doors ++ (looper, door) ∷ []) n)) is
    ∙ ap (option_map (λ (d : ℕ × Door). d.0)) (at_seam doors (looper, door))

-- and of the same thread, which is that of the seat at the roster
pub threads_push : (thread thread' before after : ℕ) (doors kept doors' : List (ℕ × Door)) (looper : ℕ) (door : Door) → thread' ≡ thread → kept ≡ doors → doors' ≡ kept ++ (looper, door) ∷ [] → All (λ (d : ℕ × Door). d.1.port_seat.thread ≡ thread) doors → door.port_seat.thread ≡ after
    → after ≡ before → before ≡ thread → All (λ (d : ℕ × Door). d.1.port_seat.thread ≡ thread') doors'
threads_push thread thread' before after doors kept doors' looper door same stay items all new on of =
    subst (λ (ds : List (ℕ × Door)). All (λ (d : ℕ × Door). d.1.port_seat.thread ≡ thread') ds) (sym (items ∙ ap (λ (ds : List (ℕ × Door)). ds ++ (looper, door) ∷ []) stay))
    (All-push (λ (d : ℕ × Door). d.1.port_seat.thread ≡ thread') doors (looper, door) (subst (λ (t : ℕ). All (λ (d : ℕ × Door). d.1.port_seat.thread ≡ t) doors) (sym same) all) (new ∙ on ∙ of ∙ sym same))

-- what holds, holds where memory was wanting
pub on_err : {A E : Type 0} (r : Result A E) (P : Type 0) → P → OnErr r P
on_err (Ok x) P h = tt
on_err (Err e) P h = h
