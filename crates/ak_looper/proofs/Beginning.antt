-- A looper's thread that is ready begins so, and has done nothing yet.
use Rattle.std.proofs.Common.{◌≡◌, ◌≢◌, ℕ, zero, suc, ◌+◌, ◌-◌, ◌<◌, Bool, true, false, cond, List, [], ◌∷◌, map, vec_items, All, AllPairs, Any, Option, refl, sym, ap, ◌∙◌, subst, append-nil, eqb-true, arith}
use Rattle.std.proofs.lemmas.List.Elements.{All-nil}
use Rattle.std.proofs.lemmas.List.FromFn.{length-range_with_len, get_or-range_with_len}
use Rattle.std.specs.List.{range_with_len}
use Rattle.ak_turn.specs.Entries.{StartsWith}
use Rattle.ak_turn.specs.Noted.{noted}
use Rattle.ak_messenger.specs.declared.hands.Hands.{Hands}
use Rattle.ak_port.specs.PortCalls as ports
use Rattle.ak_port.specs.ReplySeats as books
use Rattle.ak_desk.specs.Shared as desks
use Rattle.ak_looper.specs.declared.at_work.Life.{Life}
use Rattle.ak_looper.specs.declared.door.Door.{Door}
use Rattle.ak_looper.specs.declared.job.LooperJob.{LooperJob}
use Rattle.std.specs.Prelude.{IsSomeAnd}
use Rattle.ak_action.specs.declared.state.DeskState.{DeskState}
use Rattle.ak_looper.specs.Carrying.{IsDeskOf}
use Rattle.ak_looper.specs.Job.{BeginsSo, IsReady, facts_of}
use Rattle.ak_looper.specs.Living.{GoesOnWorking, IsWorking}
use Rattle.ak_looper.specs.Rosters.{RosterSeat, maker_of, plain_of}
use Rattle.ak_looper.specs.Stands.{DoorStands, IsAtOneOf, Stands, StartsTeam, doors_kept}
use Rattle.ak_diary.specs.Diary.{begun}
use Rattle.ak_diary.specs.Looper.{LooperFacts, is_own}

-- ---- the numbers of its doors
-- numbers that begin above one are none of them that one, and no two are the same
apart_from : (a b n : ℕ) → a < b → AllPairs (λ x y. x ≢ y) (a ∷ range_with_len b n)
apart_from a b n below i zero d before within same = absurd (omega (arith, before))
apart_from a b n below zero (suc k) d before within same =
    let short : k < n = omega (arith, length-range_with_len b n, within) in
    omega (arith, below, same ∙ get_or-range_with_len b n k d short)
apart_from a b n below (suc j) (suc k) d before within same =
    let short : k < n = omega (arith, length-range_with_len b n, within) in
    let shorter : j < n = omega (arith, short, before) in
    omega (arith, before, sym (get_or-range_with_len b n j d shorter) ∙ same ∙ get_or-range_with_len b n k d short)

apart_alone : (a : ℕ) → AllPairs (λ x y. x ≢ y) (a ∷ [])
apart_alone a i j d before within same = absurd (omega (arith, before, within))

kept_apart : (l : LooperFacts) (own : Bool) → is_own l ≡ own → AllPairs (λ x y. x ≢ y) (l.number ∷ cond own (range_with_len (l.first + 1) (l.loopers - 1)) [])
kept_apart l true own = apart_from l.number (l.first + 1) (l.loopers - 1) (omega (arith, eqb-true l.number l.first own))
kept_apart l false own = apart_alone l.number

pub doors_apart : (l : LooperFacts) → AllPairs (λ x y. x ≢ y) (l.number ∷ doors_kept l)
doors_apart l = kept_apart l (is_own l) refl

-- ---- the thread as it begins
module _ (job : LooperJob) (life : Life) (ready : IsReady job) (b : BeginsSo job life) where
  abbrev l : LooperFacts
  l = facts_of job ready.heads ready.desk_opening

  numbers : map (λ (door : ℕ × Door). door.0) life.reach.doors.items ≡ doors_kept l
  numbers = ap (λ (doors : List (ℕ × Door)). map (λ (door : ℕ × Door). door.0) doors) (ap vec_items b.doors) ∙ ready.doors

  begins_standing : Stands l job.hands.clock.time [] life.reach
  begins_standing = record {
    number = b.number;
    team = b.team;
    first = b.first;
    loopers = b.loopers;
    heads = ap (λ (s : RosterSeat). s.opening) b.roster_seat ∙ ready.heads_are;
    launched = subst (λ (s : RosterSeat). Any (StartsTeam l) s.front) (sym b.roster_seat) ready.launched;
    of_team = ready.of_team;
    within = ready.within;
    stamped = tt;
    time = sym (ap (λ (h : Hands). h.clock.time) b.hands);
    book = record {
      noted_is = subst (λ (h : Hands). noted books.maker_of h.book_seat.thread h.book_seat.front ≡ []) (sym b.hands) ready.book_nothing;
      seen = All-nil (StartsWith life.reach.hands.book_seat.front);
    };
    roster = record {
      noted_is = subst (λ (s : RosterSeat). noted maker_of s.thread (plain_of s) ≡ []) (sym b.roster_seat) ready.roster_nothing;
      seen = All-nil (StartsWith (plain_of life.reach.roster_seat));
    };
    port = record {
      noted_is = subst (λ (s : ports.PortSeat). noted ports.by_number s.thread s.front ≡ []) (sym b.port_seat) ready.port_nothing;
      seen = All-nil (StartsWith life.reach.port_seat.front);
    };
    doors = subst (λ (s : RosterSeat). All (DoorStands [] s) life.reach.doors.items) (sym b.roster_seat)
        (subst (All (DoorStands [] job.roster_seat)) (sym (ap vec_items b.doors)) ready.doors_stand);
    ways = numbers ∙ sym (append-nil (doors_kept l));
    apart = subst (λ (ns : List ℕ). AllPairs (λ x y. x ≢ y) (l.number ∷ ns)) (sym numbers) (doors_apart l);
    at_ways = All-nil (IsAtOneOf (l.number ∷ map (λ (door : ℕ × Door). door.0) life.reach.doors.items));
  }

  pub begins_working : GoesOnWorking l job.hands.clock.time [] life.reach life.desk_seat
  begins_working = record {
    worked = record {
      works = begun;
      stands = begins_standing;
      at_desk = record {
        opening = ap (λ (s : desks.DeskSeat). s.opening) b.desk_seat ∙ ready.desk_is;
        noted_is = subst (λ (s : desks.DeskSeat). noted desks.by_number s.thread s.front ≡ []) (sym b.desk_seat) ready.desk_nothing;
      };
    };
    rested = refl;
    not_closing = refl;
  }

  pub begins_so : IsWorking life.reach life.desk_seat
  begins_so = record { facts = l; start = job.hands.clock.time; work = []; goes_on = begins_working }

  pub begins_at_its_desk : IsDeskOf life.reach.number life.desk_seat
  begins_at_its_desk =
      subst (λ (o : Option DeskState). IsSomeAnd o (λ (opening : DeskState). opening.looper ≡ life.reach.number)) (sym (ap (λ (s : desks.DeskSeat). s.opening) b.desk_seat ∙ ready.desk_is))
      (ready.desk_looper ∙ sym b.number)
