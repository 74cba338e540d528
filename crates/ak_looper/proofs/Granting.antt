-- What a turn comes to in which a door was asked for.
use Rattle.std.proofs.Common.{◌≡◌, ℕ, List, [], ◌∷◌, ◌++◌, Option, None, Some, Result, Ok, Err, false, sym, ap, ◌∙◌, subst}
use Rattle.std.specs.Prelude.{IfNone, IfOk, IfSome, OnErr, slice_get}
use Rattle.std.specs.Arc.{arc_value}
use Rattle.ak_base.specs.declared.no_memory.NoMemory.{NoMemory}
use Rattle.ak_turn.specs.declared.clock.Clock.{Clock}
use Rattle.ak_turn.specs.Seats.{IsGiven, at_leisure, entered_by}
use Rattle.ak_roster.specs.declared.entry.EntryWithObjects.{EntryWithObjects}
use Rattle.ak_roster.specs.declared.entry.RosterEvent.TheVariants as event
use Rattle.ak_roster.specs.Answers.{IfPart, UnlessPart}
use Rattle.ak_roster.specs.Roster.{Enters, GivesPartAt, RosterData, Stays, new_entry, objects_of}
use Rattle.ak_looper.specs.declared.door.Door.{Door}
use Rattle.ak_looper.specs.Doors.{IsNewDoor, door_object}
use Rattle.ak_looper.specs.Rosters.{HasLooked, MayGetDoor, Object, RosterSeat, by_number}
use Rattle.ak_looper.specs.RosterCalls.{HasEnteredDoor, HasSeenNone, IsPartOf}
use Rattle.ak_looper.proofs.RosterTurns.{after_turn, entered_by_turn, leads_on, looked_by_turn, may_still}

module _ {D : Type 0} (seat given seat' : RosterSeat) (book book' : RosterData D Object) (clock clock' : Clock) (idle : seat.turn ≡ false) (thread : seat.thread ≡ clock.thread.0) (seen : IsGiven by_number seat given)
    (list : book.entries ≡ given.front) (looper : ℕ) where
  module _ (entered : (x : EntryWithObjects Object) → book'.entries ≡ given.front ++ x ∷ [] → seat' ≡ at_leisure (entered_by given x)) where
    -- the part is a new door
    part_new : (d : Door) → Enters (event.Door looper) [] book'.doors book book' clock clock' → IsNewDoor clock.thread.0 d.port_seat d.desk_seat → slice_get (objects_of book.entries) looper ≡ Some (door_object (arc_value d.port) (arc_value d.desk))
        → IsPartOf looper seat' d
    part_new d enters new leads =
        let before = seat.front ++ seen.between in
        let x : EntryWithObjects Object = new_entry clock before (event.Door looper) [] in
        let after = after_turn seat given seat' book book' clock clock' idle thread seen list entered book'.doors (event.Door looper) enters in
        let same : seat'.thread ≡ clock.thread.0 = ap (λ (s : RosterSeat). s.thread) after ∙ thread in
        let at = list ∙ ap (λ (s : RosterSeat). s.front) seen.after in
        record {
          new = subst (λ (t : ℕ). IsNewDoor t d.port_seat d.desk_seat) (sym same) new;
          leads = ap (λ (s : RosterSeat). slice_get (objects_of s.front) looper) after
              ∙ leads_on before (x ∷ []) looper (door_object (arc_value d.port) (arc_value d.desk)) (subst (λ (l : List (EntryWithObjects Object)). slice_get (objects_of l) looper ≡ Some (door_object (arc_value d.port) (arc_value d.desk))) at leads);
        }

    pub part_by_turn : (object : D → Option Object) (threads : D → Option (List ℕ)) (r : Result (Option Door) NoMemory)
        → IfPart r (λ (d : Door). GivesPartAt object threads (λ (p : Door). door_object (arc_value p.port) (arc_value p.desk)) (λ (p : Door) (t : ℕ). IsNewDoor t p.port_seat p.desk_seat) looper d clock.thread.0 book.doors book'.doors)
        → IfPart r (λ (d : Door). slice_get (objects_of book.entries) looper ≡ Some (door_object (arc_value d.port) (arc_value d.desk))) → IfPart r (λ (d : Door). Enters (event.Door looper) [] book'.doors book book' clock clock')
        → IfOk r (λ (o : Option Door). IfSome o (λ (d : Door). IsPartOf looper seat' d))
    part_by_turn object threads (Ok (Some d)) gives leads enters = part_new d enters gives.gives.for_thread leads
    part_by_turn object threads (Ok None) gives leads enters = tt
    part_by_turn object threads (Err e) gives leads enters = tt

    pub got_by_turn : (r : Result (Option Door) NoMemory) → IfPart r (λ (d : Door). Enters (event.Door looper) [] book'.doors book book' clock clock')
        → IfOk r (λ (o : Option Door). IfSome o (λ (d : Door). HasEnteredDoor looper clock clock' seat seat'))
    got_by_turn (Ok (Some d)) enters = entered_by_turn seat given seat' book book' clock clock' idle thread seen list entered book'.doors (event.Door looper) enters
    got_by_turn (Ok None) enters = tt
    got_by_turn (Err e) enters = tt

  module _ (same : book'.entries ≡ given.front → seat' ≡ at_leisure given) where
    looked : Stays book book' clock clock' → HasLooked clock clock' seat seat'
    looked stays = looked_by_turn seat given seat' book book' clock clock' idle thread seen list same stays

    pub none_by_turn : (r : Result (Option Door) NoMemory) → UnlessPart r (Stays book book' clock clock') → IfOk r (λ (o : Option Door). IfNone o (HasSeenNone clock clock' seat seat'))
    none_by_turn (Ok (Some d)) stays = tt
    none_by_turn (Ok None) stays = looked stays
    none_by_turn (Err e) stays = tt

    pub lacks_by_turn : (r : Result (Option Door) NoMemory) → UnlessPart r (Stays book book' clock clock') → OnErr r (HasSeenNone clock clock' seat seat')
    lacks_by_turn (Ok o) stays = tt
    lacks_by_turn (Err e) stays = looked stays

    pub may_by_turn : (r : Result (Option Door) NoMemory) → UnlessPart r (Stays book book' clock clock') → MayGetDoor looper seat → IfOk r (λ (o : Option Door). IfNone o (MayGetDoor looper seat'))
    may_by_turn (Ok (Some d)) stays may = tt
    may_by_turn (Ok None) stays may = may_still looper seat seat' (looked stays).seen may
    may_by_turn (Err e) stays may = tt
