-- A new door: its thread has made nothing there, since the head knows all threads that have had a seat.
use Rattle.std.proofs.Common.{◌≡◌, ◌≢◌, ℕ, true, List, [], ◌∷◌, ◌++◌, length, map, Option, None, Some, is_some, refl, ap, ◌∙◌, subst, length-append, arith, ◌<◌}
use Rattle.std.proofs.lemmas.List.{get_or_append_left, get_or_default}
use Rattle.ak_turn.specs.Entries.{made_by}
use Rattle.ak_turn.specs.Noted.{noted, entry_of}
use Rattle.ak_turn.specs.Seats.{SeatData, new_seat, titled_seat}
use Rattle.ak_turn.specs.Steps.{IsNewName, names_with}
use Rattle.ak_turn.proofs.Surface.{noted_is_made}
use Rattle.ak_roster.specs.Told.{IsNewIn}
use Rattle.ak_port.specs.PortCalls as ports
use Rattle.ak_desk.specs.Shared as desks
use Rattle.ak_looper.specs.Doors.{IsNewDoor}

-- ---- names
-- who is not among the names is a new one
pub new_name : (names : Option (List ℕ)) (thread : ℕ) → is_some names ≡ true → IsNewIn names thread → IsNewName names thread
new_name None thread head new = absurd (cc)
new_name (Some ns) thread head new = λ k d lt same. new (k, lt, get_or_default ns k thread d lt ∙ same)

-- who is new beside one name more was new before
pub still_new : (names : Option (List ℕ)) (thread other : ℕ) → IsNewName (names_with names thread) other → IsNewName names other
still_new None thread other new = new
still_new (Some ns) thread other new = λ k d lt.
    let within : k < length (ns ++ thread ∷ []) = omega (arith, length-append ns (thread ∷ []), lt) in
    subst (λ (name : ℕ). name ≢ other) (get_or_append_left ns (thread ∷ []) d k lt) (new k d within)

-- so a head knows as much of those that are new to it, once it was split
pub known_still : {O L : Type 0} (by : L → ℕ) (thread : ℕ) (seat seat' : SeatData O L) → seat' ≡ titled_seat (names_with seat.names thread) seat → ((other : ℕ) → IsNewName seat.names other → made_by by other seat.front ≡ [])
    → (other : ℕ) → IsNewName seat'.names other → made_by by other seat'.front ≡ []
known_still {O} {L} by thread seat seat' is known other new =
    let front : seat'.front ≡ seat.front = ap (λ (s : SeatData O L). s.front) is in
    ap (made_by by other) front ∙ known other (still_new seat.names thread other (subst (λ (names : Option (List ℕ)). IsNewName names other) (ap (λ (s : SeatData O L). s.names) is) new))

-- a head that was split is still a head
named_still : (names : Option (List ℕ)) (thread : ℕ) → is_some names ≡ true → is_some (names_with names thread) ≡ true
named_still None thread head = absurd (cc)
named_still (Some ns) thread head = refl

pub still_head : {O L : Type 0} (thread : ℕ) (seat seat' : SeatData O L) → seat' ≡ titled_seat (names_with seat.names thread) seat → is_some seat.names ≡ true → is_some seat'.names ≡ true
still_head {O} {L} thread seat seat' is head = ap (λ (s : SeatData O L). is_some s.names) is ∙ named_still seat.names thread head

-- ---- what was noted
nothing_mapped : {A B : Type 0} (f : A → B) (xs : List A) → map f xs ≡ [] → xs ≡ []
nothing_mapped f [] e = refl
nothing_mapped f (x ∷ xs) e = absurd (cc)

-- who made nothing has nothing noted
pub nothing_noted : {L : Type 0} (by : L → ℕ) (thread : ℕ) (entries : List L) → made_by by thread entries ≡ [] → noted by thread entries ≡ []
nothing_noted by thread entries none = nothing_mapped entry_of (noted by thread entries) (noted_is_made by thread entries ∙ none)

-- ---- the door of a new thread
pub new_door : (thread : ℕ) (port port' : ports.PortSeat) (desk desk' : desks.DeskSeat) → port' ≡ new_seat thread None port → desk' ≡ new_seat thread None desk
    → made_by ports.by_number thread port.front ≡ [] → made_by desks.by_number thread desk.front ≡ [] → IsNewDoor thread port' desk'
new_door thread port port' desk desk' port_is desk_is none_there none_here = record {
  at_port = ap (λ (s : ports.PortSeat). s.thread) port_is;
  at_desk = ap (λ (s : desks.DeskSeat). s.thread) desk_is;
  nothing_there = nothing_noted ports.by_number thread port'.front (ap (λ (s : ports.PortSeat). made_by ports.by_number thread s.front) port_is ∙ none_there);
  nothing_here = nothing_noted desks.by_number thread desk'.front (ap (λ (s : desks.DeskSeat). made_by desks.by_number thread s.front) desk_is ∙ none_here);
  no_head = ap (λ (s : ports.PortSeat). s.names) port_is;
}
