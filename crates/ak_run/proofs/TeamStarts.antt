-- The loopers of a team start, one after another.
use Rattle.std.proofs.Common.{◌≡◌, ℕ, suc, ◌+◌, ◌-◌, ◌≤◌, List, [], ◌∷◌, length, sym, ap, subst, ne_eqb, arith, All}
use Rattle.std.specs.Prelude.{if◌then◌else◌}
use Rattle.std.specs.Arc.{arc_value}
use Rattle.std.specs.List.{Any, range_with_len}
use Rattle.std.proofs.lemmas.List.Elements.{All-head, All-nil, All-tail, All-weaker}
use Rattle.ak_base.specs.Thread.{looper_thread}
use Rattle.ak_turn.specs.Entries.{StartsWith}
use Rattle.ak_roster.specs.declared.head.AppHead.{AppHead}
use Rattle.ak_action.specs.declared.plan.PlanParts.{PlanParts}
use Rattle.ak_action.specs.declared.state.DeskState.{DeskState}
use Rattle.ak_looper.specs.declared.door.Door.{Door}
use Rattle.ak_looper.specs.declared.kept_door.KeptDoor.{KeptDoor}
use Rattle.ak_looper.specs.Doors.{IsNewDoor}
use Rattle.ak_looper.specs.Rosters.{LeadsTo, RosterSeat, plain_of}
use Rattle.ak_team.specs.declared.launching.Team.{Team}
use Rattle.ak_team.specs.declared.new_looper.NewLooper.{NewLooper}
use Rattle.ak_team.specs.declared.new_team.NewTeam.{NewTeam}
use Rattle.ak_run.specs.declared.run.Run.{Run}
use Rattle.ak_team.specs.Jobs.{HasWays, IsStartedFrom, IsStartedIn, facts_in, IsLaunchOf, IsPaired}
use Rattle.ak_looper.specs.Starts.{StartsAt}
use Rattle.ak_team.specs.NewTeam.{AreOthers, IsOneOf}
use Rattle.ak_run.specs.Starting.{GoesOnWith, IsStarting, MayStart, MayStartTeam}
use Rattle.ak_run.proofs.GoingOn.{plain_on, with_then_with}
use Rattle.ak_run.proofs.Standing.{leads_still}
use Rattle.ak_gather.proofs.Surface.{any_more}

-- the own looper is the first
pub own_may_start : (heads : List AppHead) (plans : List PlanParts) (kept : List KeptDoor) (t : Team) (new : NewTeam) (r : Run) → MayStartTeam heads plans kept t new r → MayStart heads plans 0 t new.own new.ways.items r
own_may_start heads plans kept t new r may =
    let number : t.first ≡ new.own.number = first_is t.first new.own.number may.team.own.number in
    record {
      stands = may.stands;
      new = may.team.own;
      next = next_is t.first (length r.members.items) may.next;
      described = may.described;
      loopers = may.loopers;
      within = may.within;
      launched = may.launched;
      ways_are = λ desk. subst (λ n. HasWays (facts_in heads t n desk) r.roster_seat new.ways.items) number (may.ways_are desk);
      paired = All-head (IsPaired r.roster_seat) new.own new.others.items may.paired;
    }
  where
    first_is : (first number : ℕ) → number ≡ first + 0 → first ≡ number
    first_is first number is = omega (arith, is)

    next_is : (first count : ℕ) → first ≡ count → first + 0 ≡ count
    next_is first count is = omega (arith, is)

-- so is it among what a list went on to
pub any_on : {X : Type 0} (P : X → Type 0) (xs ys : List X) → StartsWith ys xs → Any P xs → Any P ys
any_on P xs ys on any = subst (Any P) (sym on.1) (any_more P xs on.0 any)

-- so it is of the application that was launched
started_still : (plans : List PlanParts) (t : Team) (r s : Run) → s.apps ≡ r.apps → StartsWith s.roster_seat.front r.roster_seat.front → IsStartedFrom r.apps.items plans t r.roster_seat → IsStartedFrom s.apps.items plans t s.roster_seat
started_still plans t r s apps on is = record {
  description = is.description;
  described = subst (λ v. IsOneOf v.items is.description plans) (sym apps) is.described;
  launched = any_on (IsLaunchOf is.description t.number t.first) (plain_of r.roster_seat) (plain_of s.roster_seat) (plain_on r.roster_seat s.roster_seat on) is.launched;
}

pub launched_still : (heads : List AppHead) (t : Team) (desk : DeskState) (seat seat' : RosterSeat) → StartsWith seat'.front seat.front → IsStartedIn heads t desk seat → IsStartedIn heads t desk seat'
launched_still heads t desk seat seat' on launched = subst (Any (StartsAt (facts_in heads t t.first desk) t.time)) (sym on.1) (any_more (StartsAt (facts_in heads t t.first desk) t.time) seat.front on.0 launched)

paired_still : (seat seat' : RosterSeat) (ns : List NewLooper) → StartsWith seat'.front seat.front → All (IsPaired seat) ns → All (IsPaired seat') ns
paired_still seat seat' ns on all = All-weaker (IsPaired seat) (IsPaired seat') (λ n is. leads_still n.number (arc_value n.door.port) (arc_value n.door.desk) seat seat' on is) ns all

-- then the others follow
pub others_follow : (heads : List AppHead) (plans : List PlanParts) (kept : List KeptDoor) (t : Team) (new : NewTeam) (r s : Run) → MayStartTeam heads plans kept t new r → GoesOnWith 1 r s → IsStarting t r s new.others.items
others_follow heads plans kept t new r s may goes = record {
  heads = heads;
  plans = plans;
  so_far = 1;
  some = omega arith;
  stands = goes.stands heads may.stands;
  next = next_is t.first (length r.members.items) (length s.members.items) may.next goes.count;
  described = started_still plans t r s goes.apps goes.on may.described;
  ways = new.ways.items;
  kept = may.team.rest;
  others = subst (λ h. AreOthers plans t.number t.first h 1 new.others.items new.ways.items may.team.rest) (sym goes.shared) may.team.others;
  loopers = may.loopers;
  all = all_is t.loopers (length plans) (length new.others.items) may.loopers may.all;
  within = may.within;
  launched = λ desk. launched_still heads t desk r.roster_seat s.roster_seat goes.on (may.launched desk);
  paired = paired_still r.roster_seat s.roster_seat new.others.items goes.on (All-tail (IsPaired r.roster_seat) new.own new.others.items may.paired);
  goes = goes;
}
  where
    next_is : (first m n : ℕ) → first ≡ m → n ≡ m + 1 → first + 1 ≡ n
    next_is first m n is more = omega (arith, is, more)

    all_is : (l p o : ℕ) → l ≡ p → p ≡ o + 1 → 1 + o ≡ l
    all_is l p o is all = omega (arith, is, all)

-- ---- one of the others
-- another looper than the own one has no doors to be kept
no_ways : (heads : List AppHead) (t : Team) (number k : ℕ) (desk : DeskState) (roster : RosterSeat) → number ≡ t.first + k → 1 ≤ k → HasWays (facts_in heads t number desk) roster []
no_ways heads t number k desk roster is some =
    let differ : (number ≡ t.first → ⊥) = λ same. omega (arith, is, some, same) in
    record {
      numbers = ap (λ b. if b then range_with_len (t.first + 1) (t.loopers - 1) else []) (sym (ne_eqb number t.first differ));
      new = All-nil (λ (way : ℕ × Door). IsNewDoor (looper_thread number) way.1.port_seat way.1.desk_seat);
      lead = All-nil (λ (way : ℕ × Door). LeadsTo roster way.0 way.1.port_seat.lock way.1.desk_seat.lock);
    }

pub next_may_start : (t : Team) (r s : Run) (x : NewLooper) (xs : List NewLooper) (is : IsStarting t r s (x ∷ xs)) → MayStart is.heads is.plans is.so_far t x [] s
next_may_start t r s x xs is = by_lists is.ways is.kept is.others
  where
    by_lists : (ways : List (ℕ × Door)) (kept : List KeptDoor) → AreOthers is.plans t.number t.first s.shared is.so_far (x ∷ xs) ways kept → MayStart is.heads is.plans is.so_far t x [] s
    by_lists (w ∷ ws) (d ∷ ds) others = record {
      stands = is.stands;
      new = others.0.looper;
      next = is.next;
      described = is.described;
      loopers = is.loopers;
      within = is.within;
      launched = is.launched;
      ways_are = λ desk. no_ways is.heads t x.number is.so_far desk s.roster_seat others.0.looper.number is.some;
      paired = All-head (IsPaired s.roster_seat) x xs is.paired;
    }
    by_lists [] kept others = absurd others
    by_lists (w ∷ ws) [] others = absurd others

pub next_started : (t : Team) (r s u : Run) (x : NewLooper) (xs : List NewLooper) → IsStarting t r s (x ∷ xs) → GoesOnWith 1 s u → IsStarting t r u xs
next_started t r s u x xs is goes = by_lists is.ways is.kept is.others
  where
    one_more : (first k m n : ℕ) → first + k ≡ m → n ≡ m + 1 → first + (k + 1) ≡ n
    one_more first k m n next more = omega (arith, next, more)

    one : (k : ℕ) → suc k ≡ k + 1
    one k = omega arith

    all_is : (k n l : ℕ) → k + suc n ≡ l → (k + 1) + n ≡ l
    all_is k n l all = omega (arith, all)

    by_lists : (ways : List (ℕ × Door)) (kept : List KeptDoor) → AreOthers is.plans t.number t.first s.shared is.so_far (x ∷ xs) ways kept → IsStarting t r u xs
    by_lists (w ∷ ws) (d ∷ ds) others = record {
      heads = is.heads;
      plans = is.plans;
      so_far = is.so_far + 1;
      some = omega arith;
      stands = goes.stands is.heads is.stands;
      next = one_more t.first is.so_far (length s.members.items) (length u.members.items) is.next goes.count;
      described = started_still is.plans t s u goes.apps goes.on is.described;
      ways = ws;
      kept = ds;
      others = subst (λ h. AreOthers is.plans t.number t.first h (is.so_far + 1) xs ws ds) (sym goes.shared) (subst (λ k. AreOthers is.plans t.number t.first s.shared k xs ws ds) (one is.so_far) others.1);
      loopers = is.loopers;
      all = all_is is.so_far (length xs) t.loopers is.all;
      within = is.within;
      launched = λ desk. launched_still is.heads t desk s.roster_seat u.roster_seat goes.on (is.launched desk);
      paired = paired_still s.roster_seat u.roster_seat xs goes.on (All-tail (IsPaired s.roster_seat) x xs is.paired);
      goes = with_then_with is.so_far 1 r s u is.goes goes;
    }
    by_lists [] kept others = absurd others
    by_lists (w ∷ ws) [] others = absurd others

-- all have started
pub all_started : (t : Team) (r s : Run) → IsStarting t r s [] → GoesOnWith t.loopers r s
all_started t r s is = subst (λ n. GoesOnWith n r s) (total is.so_far t.loopers is.all) is.goes
  where
    total : (k l : ℕ) → k + 0 ≡ l → k ≡ l
    total k l all = omega (arith, all)
