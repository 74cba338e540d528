-- Turn after turn: what holds later, and what no call changes.
use Rattle.std.proofs.Common.{◌≡◌, ℕ, List, [], ◌++◌, refl, sym, ◌∙◌, subst, append_assoc, append-nil}
use Rattle.std.specs.Prelude.{Option, IsSomeAnd}
use Rattle.ak_turn.specs.Called.{KeepsSeat}
use Rattle.ak_turn.proofs.Surface.{keeps_itself, keeps_then_keeps}
use Rattle.ak_action.specs.declared.state.DeskState.{DeskState}
use Rattle.ak_desk.specs.Shared.{DeskSeat}
use Rattle.ak_looper.specs.Carrying.{IsDeskOf}
use Rattle.ak_looper.specs.Living.{GoesOnWorking, IsWorking, Later}
use Rattle.ak_looper.specs.Ways.{KeepsPlaces, KeepsReach}
use Rattle.ak_looper.specs.declared.reach.Reach.{Reach}
use Rattle.ak_diary.specs.Looper.{LooperFacts}
use Rattle.ak_diary.specs.Step.{Step}

-- ---- later
pub now_so : (P : List Step → Type 0) (work : List Step) → P work → Later P work
now_so P work so = record { turn = []; then_is = subst P (sym (append-nil work)) so }

pub later_then : (P Q : List Step → Type 0) (work : List Step) → Later P work → ((so_far : List Step) → P so_far → Later Q so_far) → Later Q work
later_then P Q work later next =
    let more = next (work ++ later.turn) later.then_is in
    record { turn = later.turn ++ more.turn; then_is = subst Q (append_assoc work later.turn more.turn) more.then_is }

pub later_as : (P Q : List Step → Type 0) (work : List Step) → Later P work → ((so_far : List Step) → P so_far → Q so_far) → Later Q work
later_as P Q work later so = record { turn = later.turn; then_is = so (work ++ later.turn) later.then_is }

-- one that works goes on working later
pub works_on : (r r' : Reach) (desk desk' : DeskSeat) → IsWorking r desk
    → ((l : LooperFacts) (start : ℕ) (work : List Step) → GoesOnWorking l start work r desk → Later (λ so_far. GoesOnWorking l start so_far r' desk') work) → IsWorking r' desk'
works_on r r' desk desk' is later =
    let more = later is.facts is.start is.work is.goes_on in
    record { facts = is.facts; start = is.start; work = is.work ++ more.turn; goes_on = more.then_is }

-- ---- what no call changes
pub desk_as : (a b c : DeskSeat) → b ≡ a → KeepsSeat b c → KeepsSeat a c
desk_as a b c same keeps = subst (λ (s : DeskSeat). KeepsSeat s c) same keeps

pub still_its_desk : (n n' : ℕ) (a b : DeskSeat) → n' ≡ n → KeepsSeat a b → IsDeskOf n a → IsDeskOf n' b
still_its_desk n n' a b same keeps is =
    subst (λ (opening : Option DeskState). IsSomeAnd opening (λ (s : DeskState). s.looper ≡ n')) (sym keeps.opening) (subst (λ (k : ℕ). IsDeskOf k a) (sym same) is)

pub places_of : (r r' : Reach) → KeepsReach r r' → KeepsPlaces r r'
places_of r r' keeps = record {
  number = keeps.number;
  team = keeps.team;
  first = keeps.first;
  loopers = keeps.loopers;
  book = keeps.book;
  port = keeps.port;
  roster = keeps.roster;
  thread = keeps.thread;
  book_seat = keeps.book_seat;
  port_seat = keeps.port_seat;
  roster_seat = keeps.roster_seat;
}

pub places_same : (r : Reach) → KeepsPlaces r r
places_same r = record {
  number = refl;
  team = refl;
  first = refl;
  loopers = refl;
  book = refl;
  port = refl;
  roster = refl;
  thread = refl;
  book_seat = keeps_itself r.hands.book_seat;
  port_seat = keeps_itself r.port_seat;
  roster_seat = keeps_itself r.roster_seat;
}

pub places_then : (a b c : Reach) → KeepsPlaces a b → KeepsPlaces b c → KeepsPlaces a c
places_then a b c first second = record {
  number = second.number ∙ first.number;
  team = second.team ∙ first.team;
  first = second.first ∙ first.first;
  loopers = second.loopers ∙ first.loopers;
  book = second.book ∙ first.book;
  port = second.port ∙ first.port;
  roster = second.roster ∙ first.roster;
  thread = second.thread ∙ first.thread;
  book_seat = keeps_then_keeps a.hands.book_seat b.hands.book_seat c.hands.book_seat first.book_seat second.book_seat;
  port_seat = keeps_then_keeps a.port_seat b.port_seat c.port_seat first.port_seat second.port_seat;
  roster_seat = keeps_then_keeps a.roster_seat b.roster_seat c.roster_seat first.roster_seat second.roster_seat;
}
