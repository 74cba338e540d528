-- The sessions of a run stand: there are none, there is room for one more, one is put behind the others, and one is closed.
use Rattle.std.proofs.Common.{◌≡◌, ◌⊎◌, ◌≤◌, ◌<◌, ◌+◌, ◌&&◌, ℕ, zero, suc, Bool, true, false, List, [], ◌∷◌, ◌++◌, length, length-append, length-set, map, set, All, Option, None, Some, is_some, inl, inr, ⊎_elim, refl, sym, ap, ◌∙◌, subst, arith, vec_capacity}
use Rattle.std.specs.Prelude.{IfSome, Vec, option_map, slice_get}
use Rattle.std.specs.declared.alloc.Global.{Global}
use Rattle.std.specs.List.{list_all}
use Rattle.std.specs.Arc.{arc_value}
use Rattle.std.proofs.lemmas.List.{map-set}
use Rattle.std.proofs.lemmas.Option.{get_or_from_slice_get, slice_get-map, slice_get_within}
use Rattle.ak_turn.specs.Seats.{LockId, part_of}
use Rattle.ak_roster.specs.declared.head.AppHead.{AppHead}
use Rattle.ak_port.specs.ReplySeats.{ReplySeat}
use Rattle.ak_looper.specs.declared.door.Door.{Door}
use Rattle.ak_looper.specs.Rosters.{RosterSeat}
use Rattle.ak_session.specs.declared.session.Session.{Session}
use Rattle.ak_session.specs.Stands.{IsStanding}
use Rattle.ak_looper.specs.declared.shared.Shared.{Shared}
use Rattle.ak_run.specs.declared.slots.Slot.{Slot}
use Rattle.ak_run.specs.declared.slots.Slots.{Slots}
use Rattle.ak_gather.specs.Gathering.{GoesOnKnowing}
use Rattle.ak_run.specs.Sessions.{CameOf, HasSlots, IsClosedAt, IsSessionAt, IsSessionJoined, Told, session_limit, told_in, told_of}
use Rattle.ak_gather.proofs.Surface.{some_same, at_place, place_or_beside, at_set}

-- ---- what stands at a place
-- one more behind the others: it is that one, or one of the others
there_or_last : {X : Type 0} (xs : List X) (x y : X) (k : ℕ) → slice_get (xs ++ x ∷ []) k ≡ Some y → ((k ≡ length xs) × (x ≡ y)) ⊎ (slice_get xs k ≡ Some y)
there_or_last [] x y zero is = inl (refl, some_same x y is)
there_or_last [] x y (suc k) is = absurd (omega (arith, slice_get_within [] k y is))
there_or_last (z ∷ xs) x y zero is = inr is
there_or_last (z ∷ xs) x y (suc k) is = ⊎_elim (λ last. inl (ap suc last.0, last.1)) (λ there. inr there) (there_or_last xs x y k is)

-- ---- no sessions
pub no_slots : (heads : List AppHead) (shared : Shared) (slots : Slots) → slots.sessions.items ≡ [] → slots.ways.items ≡ [] → HasSlots heads shared slots
no_slots heads shared slots none no_ways =
    let few : length (told_in slots) ≡ 0 = ap (λ (l : List Slot). length (map told_of l)) none in
    record {
      few = omega (arith, few);
      each = λ place told there. absurd (omega (arith, few, slice_get_within (told_in slots) place told there));
      no_ways = no_ways;
      room = omega (arith, few);
    }

-- ---- the same, with as much room
pub slots_as_before : (heads : List AppHead) (shared : Shared) (a b : Slots) → told_in b ≡ told_in a → b.ways.items ≡ a.ways.items → vec_capacity a.ways ≤ vec_capacity b.ways → HasSlots heads shared a → HasSlots heads shared b
slots_as_before heads shared a b same ways room has = record {
  few = subst (λ (l : List Told). length l ≤ session_limit) (sym same) has.few;
  each = λ place told there. has.each place told (ap (λ (l : List Told). slice_get l place) (sym same) ∙ there);
  no_ways = ways ∙ has.no_ways;
  room = omega (arith, ap (λ (l : List Told). length l) same, has.room, room);
}

-- ---- one more behind the others
pub slots_more : (heads : List AppHead) (shared : Shared) (a b : Slots) (told : Told) → told_in b ≡ told_in a ++ told ∷ [] → b.ways ≡ a.ways → length (told_in a) < session_limit → length (told_in a) < vec_capacity a.ways
    → IsSessionAt heads shared (length (told_in a)) told → HasSlots heads shared a → HasSlots heads shared b
slots_more heads shared a b told more ways few room new has =
    let count : length (told_in b) ≡ length (told_in a) + 1 = ap (λ (l : List Told). length l) more ∙ length-append (told_in a) (told ∷ []) in
    record {
      few = omega (arith, count, few);
      each = λ place x there.
          ⊎_elim
          (λ last. subst (λ (n : ℕ). IsSessionAt heads shared n x) (sym last.0) (subst (IsSessionAt heads shared (length (told_in a))) last.1 new))
          (λ before. has.each place x before)
          (there_or_last (told_in a) told x place (ap (λ (l : List Told). slice_get l place) (sym more) ∙ there));
      no_ways = ap (λ v. v.items) ways ∙ has.no_ways;
      room = subst (λ v. length (told_in b) ≤ vec_capacity v) (sym ways) (omega (arith, count, room));
    }

-- ---- one of them is closed
pub slots_closed : (heads : List AppHead) (shared : Shared) (a b : Slots) (place : ℕ) (opened closed : Session) → slice_get (told_in a) place ≡ Some (opened, None) → told_in b ≡ set (told_in a) place (opened, Some closed) → b.ways ≡ a.ways
    → CameOf opened closed → HasSlots heads shared a → HasSlots heads shared b
slots_closed heads shared a b place opened closed there now ways came has =
    let was = has.each place (opened, None) there in
    let is : IsSessionAt heads shared place (opened, Some closed) = record { thread = was.thread; heads_are = was.heads_are; at_book = was.at_book; at_roster = was.at_roster; closed = came } in
    let count : length (told_in b) ≡ length (told_in a) = ap (λ (l : List Told). length l) now ∙ length-set (told_in a) place (opened, Some closed) in
    record {
      few = omega (arith, count, has.few);
      each = λ k x at.
          let now_at : slice_get (set (told_in a) place (opened, Some closed)) k ≡ Some x = ap (λ (l : List Told). slice_get l k) (sym now) ∙ at in
          ⊎_elim
          (λ (same : k ≡ place).
          let both : Some (opened, Some closed) ≡ Some x = sym (at_set (told_in a) place (opened, None) (opened, Some closed) there) ∙ ap (slice_get (set (told_in a) place (opened, Some closed))) (sym same) ∙ now_at in
          subst (λ (n : ℕ). IsSessionAt heads shared n x) (sym same) (subst (IsSessionAt heads shared place) (some_same (opened, Some closed) x both) is))
          (λ (beside : slice_get (set (told_in a) place (opened, Some closed)) k ≡ slice_get (told_in a) k). has.each k x (sym beside ∙ now_at))
          (place_or_beside (told_in a) place k (opened, Some closed));
      no_ways = ap (λ v. v.items) ways ∙ has.no_ways;
      room = subst (λ v. length (told_in b) ≤ vec_capacity v) (sym ways) (omega (arith, count, has.room));
    }

-- what is told of all, when one is put in another's place
pub told_set : (items : List Slot) (place : ℕ) (slot slot' : Slot) (told : Told) (closed : Session) → slice_get items place ≡ Some slot → slice_get (map told_of items) place ≡ Some told → slot'.opened ≡ slot.opened → slot'.closed ≡ Some closed
    → map told_of (set items place slot') ≡ set (map told_of items) place (told.0, Some closed)
told_set items place slot slot' told closed there at opened is_closed =
    let same : told_of slot ≡ told = some_same (told_of slot) told (sym (slice_get-map told_of items place ∙ ap (option_map told_of) there) ∙ at) in
    let now : told_of slot' ≡ (told.0, Some closed) =
    ap (λ o. (o.value, slot'.closed)) opened ∙ ap (λ (o : Option Session). (slot.opened.value, o)) is_closed ∙ ap (λ (t : Told). (t.0, Some closed)) same in
    map-set told_of items place slot' ∙ ap (λ (t : Told). set (map told_of items) place t) now

-- ---- all of them are closed
-- one that was closed
pub closed_one : (told : Told) → is_some told.1 ≡ true → (session : Session) × (told.1 ≡ Some session)
closed_one (opened, None) is = absurd cc
closed_one (opened, Some session) is = (session, refl)

first_of : (a b : Bool) → (a && b) ≡ true → a ≡ true
first_of true b is = refl
first_of false b is = absurd cc

rest_of : (a b : Bool) → (a && b) ≡ true → b ≡ true
rest_of true b is = is
rest_of false b is = absurd cc

pub closed_at : (all : List Told) (place : ℕ) (told : Told) → list_all (λ (t : Told). is_some t.1) all ≡ true → slice_get all place ≡ Some told → is_some told.1 ≡ true
closed_at [] place told all there = absurd (omega (arith, slice_get_within [] place told there))
closed_at (x ∷ xs) zero told all there = subst (λ (t : Told). is_some t.1 ≡ true) (some_same x told there) (first_of (is_some x.1) (list_all (λ (t : Told). is_some t.1) xs) all)
closed_at (x ∷ xs) (suc place) told all there = closed_at xs place told (rest_of (is_some x.1) (list_all (λ (t : Told). is_some t.1) xs) all) there

-- what holds at each place holds of all
all_places : {X : Type 0} (P : X → Type 0) (xs : List X) → ((place : ℕ) (x : X) → slice_get xs place ≡ Some x → P x) → All P xs
all_places P xs each = λ k d lt. let x = at_place xs k lt in subst P (sym (get_or_from_slice_get xs k x.0 d x.1)) (each k x.0 x.1)

came_closed : (heads : List AppHead) (shared : Shared) (place : ℕ) (told : Told) → IsSessionAt heads shared place told → (closed : Option Session) → told.1 ≡ closed → IfSome closed (CameOf told.0)
came_closed heads shared place told is closed same = subst (λ (o : Option Session). IfSome o (CameOf told.0)) same is.closed

pub came_of : (heads : List AppHead) (shared : Shared) (place : ℕ) (told : Told) (session : Session) → IsSessionAt heads shared place told → told.1 ≡ Some session → CameOf told.0 session
came_of heads shared place told session is same = came_closed heads shared place told is (Some session) same

-- each is at these locks
pub all_closed_at : (heads : List AppHead) (shared : Shared) (slots : Slots) (roster book : LockId) → HasSlots heads shared slots → list_all (λ (t : Told). is_some t.1) (told_in slots) ≡ true → arc_value shared.roster ≡ roster → arc_value shared.book ≡ book
    → All (IsClosedAt roster book) (told_in slots)
all_closed_at heads shared slots roster book has closed at_roster at_book = all_places (IsClosedAt roster book) (told_in slots) each
  where
    each : (place : ℕ) (told : Told) → slice_get (told_in slots) place ≡ Some told → IsClosedAt roster book told
    each place told there =
        let is = has.each place told there in
        let one = closed_one told (closed_at (told_in slots) place told closed there) in
        let came = came_of heads shared place told one.0 is one.1 in
        record {
          session = one.0;
          closed = one.1;
          at_roster = came.keeps.roster_seat.lock ∙ is.at_roster ∙ at_roster;
          at_book = came.keeps.book_seat.lock ∙ is.at_book ∙ at_book;
        }

-- and stood so
pub all_stood : (heads : List AppHead) (shared : Shared) (slots : Slots) → HasSlots heads shared slots → All (λ (told : Told). (session : Session) → told.1 ≡ Some session → IsStanding session) (told_in slots)
all_stood heads shared slots has = all_places (λ (told : Told). (session : Session) → told.1 ≡ Some session → IsStanding session) (told_in slots) each
  where
    each : (place : ℕ) (told : Told) → slice_get (told_in slots) place ≡ Some told → (session : Session) → told.1 ≡ Some session → IsStanding session
    each place told there session closed =
        let came = came_of heads shared place told session (has.each place told there) closed in
        record { heads = came.heads; start = told.0.hands.clock.time; steps = came.steps; stands = came.stands }

-- main's seats know what its seats knew, while they take in more
pub session_joined_still : (roster roster' : RosterSeat) (book book' : ReplySeat) (told : Told) (ways : Vec (ℕ × Door) Global) → GoesOnKnowing roster roster' → GoesOnKnowing book book' → IsSessionJoined roster book told ways → IsSessionJoined roster' book' told ways
session_joined_still roster roster' book book' told ways on on_book is = record {
  session = is.session;
  closed = is.closed;
  ways_are = is.ways_are;
  at_roster = on.parts (part_of is.session.roster_seat) is.at_roster;
  at_book = on_book.parts (part_of is.session.hands.book_seat) is.at_book;
}
