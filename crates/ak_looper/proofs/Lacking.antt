-- Want of memory is a step at no object: a thread that stands, stands behind it.
use Rattle.std.proofs.Common.{◌≡◌, ℕ, Bool, true, false, List, [], ◌∷◌, ◌++◌, All, refl, sym, ap, ◌∙◌, subst, append-nil}
use Rattle.std.specs.List.{flat_map}
use Rattle.std.proofs.lemmas.List.Concat.{flat_map-append}
use Rattle.std.proofs.lemmas.List.Elements.{All-push, All-weaker}
use Rattle.ak_roster.specs.declared.entry.RosterEntry.{RosterEntry}
use Rattle.ak_turn.specs.Entries.{StartsWith}
use Rattle.ak_port.specs.declared.port_entry.PortEntry.{PortEntry}
use Rattle.ak_port.specs.declared.reply_entry.ReplyEntry.{ReplyEntry}
use Rattle.ak_port.specs.PortCalls.{PortSeat}
use Rattle.ak_port.specs.ReplySeats.{ReplySeat}
use Rattle.ak_looper.specs.declared.door.Door.{Door}
use Rattle.ak_looper.specs.declared.reach.Reach.{Reach}
use Rattle.ak_looper.specs.Rosters.{RosterSeat, plain_of}
use Rattle.ak_looper.specs.Stands.{BookStands, DoorStands, IsAtOneOf, PortStands, RosterStands, Stands, doors_kept, numbers_of}
use Rattle.ak_diary.specs.Looper.{LooperFacts, door_got}
use Rattle.ak_diary.specs.Step.{Step, lacked, AreStamped, time_after, time_of, book_entry, book_sight, port_entry, port_sight, roster_entry, roster_sight}
use Rattle.ak_diary.specs.Turns.{lacked_if}

-- ---- steps in two parts
time_of-append : (time : ℕ) (xs ys : List Step) → time_of time (xs ++ ys) ≡ time_of (time_of time xs) ys
time_of-append time [] ys = refl
time_of-append time (x ∷ xs) ys = time_of-append (time_after time x) xs ys

stamped_append : (time : ℕ) (xs ys : List Step) → AreStamped time xs → AreStamped (time_of time xs) ys → AreStamped time (xs ++ ys)
stamped_append time [] ys first second = second
stamped_append time (x ∷ xs) ys first second = (first.0, stamped_append (time_after time x) xs ys first.1 second)

-- ---- nothing more of it at any object
nothing_more : {X : Type 0} (f : Step → List X) (steps : List Step) → f lacked ≡ [] → flat_map f (steps ++ lacked ∷ []) ≡ flat_map f steps
nothing_more {X} f steps none =
    flat_map-append f steps (lacked ∷ []) ∙ ap (λ (xs : List X). flat_map f steps ++ (xs ++ [])) none ∙ append-nil (flat_map f steps)

book_stands : (steps : List Step) (seat : ReplySeat) → BookStands steps seat → BookStands (steps ++ lacked ∷ []) seat
book_stands steps seat stands = record {
  noted_is = stands.noted_is ∙ sym (nothing_more book_entry steps refl);
  seen = subst (λ (xs : List (List ReplyEntry)). All (StartsWith seat.front) xs) (sym (nothing_more book_sight steps refl)) stands.seen;
}

roster_stands : (steps : List Step) (seat : RosterSeat) → RosterStands steps seat → RosterStands (steps ++ lacked ∷ []) seat
roster_stands steps seat stands = record {
  noted_is = stands.noted_is ∙ sym (nothing_more roster_entry steps refl);
  seen = subst (λ (xs : List (List RosterEntry)). All (StartsWith (plain_of seat)) xs) (sym (nothing_more roster_sight steps refl)) stands.seen;
}

port_stands : (steps : List Step) (looper : ℕ) (seat : PortSeat) → PortStands steps looper seat → PortStands (steps ++ lacked ∷ []) looper seat
port_stands steps looper seat stands = record {
  noted_is = stands.noted_is ∙ sym (nothing_more (port_entry looper) steps refl);
  seen = subst (λ (xs : List (List PortEntry)). All (StartsWith seat.front) xs) (sym (nothing_more (port_sight looper) steps refl)) stands.seen;
}

door_stands : (steps : List Step) (roster : RosterSeat) (door : ℕ × Door) → DoorStands steps roster door → DoorStands (steps ++ lacked ∷ []) roster door
door_stands steps roster door stands = record {
  port = port_stands steps door.0 door.1.port_seat stands.port;
  desk = stands.desk;
  leads = stands.leads;
}

pub lacked_stands : (l : LooperFacts) (start : ℕ) (steps : List Step) (r : Reach) → Stands l start steps r → Stands l start (steps ++ lacked ∷ []) r
lacked_stands l start steps r s = record {
  number = s.number;
  team = s.team;
  first = s.first;
  loopers = s.loopers;
  heads = s.heads;
  launched = s.launched;
  of_team = s.of_team;
  within = s.within;
  stamped = stamped_append start steps (lacked ∷ []) s.stamped (tt, tt);
  time = time_of-append start steps (lacked ∷ []) ∙ s.time;
  book = book_stands steps r.hands.book_seat s.book;
  roster = roster_stands steps r.roster_seat s.roster;
  port = port_stands steps l.number r.port_seat s.port;
  doors = All-weaker (DoorStands steps r.roster_seat) (DoorStands (steps ++ lacked ∷ []) r.roster_seat) (door_stands steps r.roster_seat) r.doors.items s.doors;
  ways = s.ways ∙ ap (λ (xs : List ℕ). doors_kept l ++ xs) (sym (nothing_more door_got steps refl));
  apart = s.apart;
  at_ways = All-push (IsAtOneOf (l.number ∷ numbers_of r)) steps lacked s.at_ways tt;
}

-- where memory was wanting, or not
pub stands_if : (short : Bool) (l : LooperFacts) (start : ℕ) (steps : List Step) (r : Reach) → Stands l start steps r → Stands l start (steps ++ lacked_if short) r
stands_if true l start steps r s = lacked_stands l start steps r s
stands_if false l start steps r s = subst (λ (xs : List Step). Stands l start xs r) (sym (append-nil steps)) s
