-- A session that is ready stands with no step.
use Rattle.std.proofs.Common.{◌≡◌, ◌≢◌, ℕ, List, [], map, All, AllPairs, refl, sym, ap, subst, arith}
use Rattle.std.proofs.lemmas.List.Elements.{All-nil}
use Rattle.ak_turn.specs.Entries.{StartsWith}
use Rattle.ak_looper.specs.declared.door.Door.{Door}
use Rattle.ak_looper.specs.Rosters.{plain_of}
use Rattle.ak_session.specs.Ready.{ReadySessionsStand}
use Rattle.ak_session.specs.Stands.{DoorStands, IsAtOneOf, numbers_of}

none_apart : AllPairs (λ (a b : ℕ). a ≢ b) []
none_apart = λ i j d before within. absurd (omega (arith, within))

pub begins : ReadySessionsStand
begins s ready =
    let none : numbers_of s ≡ [] = ap (map (λ (door : ℕ × Door). door.0)) ready.no_doors in
    record {
      session = ready.session;
      heads_are = ready.heads_are;
      stamped = tt;
      time = refl;
      book = record { noted_is = ready.book_nothing; seen = All-nil (StartsWith s.hands.book_seat.front) };
      roster = record { noted_is = ready.roster_nothing; seen = All-nil (StartsWith (plain_of s.roster_seat)) };
      doors = subst (λ (doors : List (ℕ × Door)). All (DoorStands [] s.roster_seat) doors) (sym ready.no_doors) (All-nil (DoorStands [] s.roster_seat));
      ways = none;
      apart = subst (λ (ns : List ℕ). AllPairs (λ a b. a ≢ b) ns) (sym none) none_apart;
      at_ways = All-nil (IsAtOneOf (numbers_of s));
    }
