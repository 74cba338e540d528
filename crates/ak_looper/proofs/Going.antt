-- A looper's thread goes on from where it stands: by no step, or by some and then by others. What its calls keep, it keeps.
use Rattle.std.proofs.Common.{◌≡◌, ℕ, List, [], ◌++◌, refl, sym, ap, ◌∙◌, subst, append_assoc, append-nil}
use Rattle.ak_turn.specs.declared.clock.Clock.{Clock}
use Rattle.ak_turn.proofs.Surface.{keeps_itself, keeps_same, keeps_then_keeps}
use Rattle.ak_port.specs.PortCalls.{CanTake}
use Rattle.ak_diary.specs.Looper.{LooperFacts}
use Rattle.ak_diary.specs.Step.{Step}
use Rattle.ak_looper.specs.declared.reach.Reach.{Reach}
use Rattle.ak_looper.specs.Stands.{GoesOn, IsStanding, Stands}
use Rattle.ak_looper.specs.Ways.{KeepsReach}

-- ---- steps
module _ (l : LooperFacts) (start : ℕ) (so_far : List Step) where
  -- by no step
  pub stays : (P : List Step → Type 0) (r : Reach) → Stands l start so_far r → P [] → GoesOn l start so_far P r
  stays P r stands does = record { steps = []; does = does; stands = subst (λ steps. Stands l start steps r) (sym (append-nil so_far)) stands }

  -- what the steps do is more than that
  pub tells : (P Q : List Step → Type 0) (r : Reach) → ((steps : List Step) → P steps → Q steps) → GoesOn l start so_far P r → GoesOn l start so_far Q r
  tells P Q r more on = record { steps = on.steps; does = more on.steps on.does; stands = on.stands }

  -- by some steps and then by others
  pub goes_further : (P Q : List Step → Type 0) (first : List Step) (r : Reach) → ((rest : List Step) → P rest → Q (first ++ rest)) → GoesOn l start (so_far ++ first) P r → GoesOn l start so_far Q r
  goes_further P Q first r joins on = record {
    steps = first ++ on.steps;
    does = joins on.steps on.does;
    stands = subst (λ steps. Stands l start steps r) (append_assoc so_far first on.steps) on.stands;
  }

-- it still stands for some looper and some steps
pub still_standing : (P : LooperFacts → List Step → List Step → Type 0) (r r' : Reach) → IsStanding r → ((l : LooperFacts) (start : ℕ) (so_far : List Step) → Stands l start so_far r → GoesOn l start so_far (P l so_far) r') → IsStanding r'
still_standing P r r' is goes =
    let on = goes is.facts is.start is.steps is.stands in
    record { facts = is.facts; start = is.start; steps = is.steps ++ on.steps; stands = on.stands }

-- ---- what calls keep
pub keeps_on : (a b c : Reach) → KeepsReach a b → KeepsReach b c → KeepsReach a c
keeps_on a b c first then_on = record {
  number = then_on.number ∙ first.number;
  team = then_on.team ∙ first.team;
  first = then_on.first ∙ first.first;
  loopers = then_on.loopers ∙ first.loopers;
  book = then_on.book ∙ first.book;
  port = then_on.port ∙ first.port;
  roster = then_on.roster ∙ first.roster;
  thread = then_on.thread ∙ first.thread;
  book_seat = keeps_then_keeps a.hands.book_seat b.hands.book_seat c.hands.book_seat first.book_seat then_on.book_seat;
  port_seat = keeps_then_keeps a.port_seat b.port_seat c.port_seat first.port_seat then_on.port_seat;
  roster_seat = keeps_then_keeps a.roster_seat b.roster_seat c.roster_seat first.roster_seat then_on.roster_seat;
  taking = λ thread room can. then_on.taking thread room (first.taking thread room can);
}

pub keeps_all : (r : Reach) → KeepsReach r r
keeps_all r = record {
  number = refl;
  team = refl;
  first = refl;
  loopers = refl;
  book = refl;
  port = refl;
  roster = refl;
  thread = refl;
  book_seat = keeps_itself r.hands.book_seat;
  port_seat = keeps_itself r.port_seat;
  roster_seat = keeps_itself r.roster_seat;
  taking = λ thread room can. can;
}

-- the same with another clock
pub record IsWithClock (clock : Clock) (r r' : Reach) : Type 0 where
  pub number : r'.number ≡ r.number
  pub team : r'.team ≡ r.team
  pub first : r'.first ≡ r.first
  pub loopers : r'.loopers ≡ r.loopers
  pub clock_is : r'.hands.clock ≡ clock
  pub book : r'.hands.book ≡ r.hands.book
  pub book_seat : r'.hands.book_seat ≡ r.hands.book_seat
  pub port : r'.port ≡ r.port
  pub port_seat : r'.port_seat ≡ r.port_seat
  pub doors : r'.doors ≡ r.doors
  pub roster : r'.roster ≡ r.roster
  pub roster_seat : r'.roster_seat ≡ r.roster_seat

pub keeps_with_clock : (clock : Clock) (r r' : Reach) → clock.thread ≡ r.hands.clock.thread → IsWithClock clock r r' → KeepsReach r r'
keeps_with_clock clock r r' thread is = record {
  number = is.number;
  team = is.team;
  first = is.first;
  loopers = is.loopers;
  book = is.book;
  port = is.port;
  roster = is.roster;
  thread = ap (λ (c : Clock). c.thread) is.clock_is ∙ thread;
  book_seat = keeps_same r.hands.book_seat r'.hands.book_seat is.book_seat;
  port_seat = keeps_same r.port_seat r'.port_seat is.port_seat;
  roster_seat = keeps_same r.roster_seat r'.roster_seat is.roster_seat;
  taking = λ thread room can. subst (CanTake thread room) (sym is.port_seat) can;
}
