-- The launch of each looper's team stands in the roster that was kept.
use Rattle.std.proofs.Common.{◌≡◌, ℕ, true, List, Any, Some, sym, ◌∙◌, subst, ◌+◌, ◌-◌, ◌++◌, length-append, arith}
use Rattle.std.specs.Prelude.{slice_get}
use Rattle.ak_roster.specs.declared.entry.EntryWithObjects.{EntryWithObjects}
use Rattle.ak_roster.specs.declared.head.AppHead.{AppHead}
use Rattle.ak_roster.specs.Roster.{RosterData}
use Rattle.ak_port.specs.ReplySeats.{ReplySeat}
use Rattle.ak_diary.specs.Looper.{LooperFacts, is_of_team}
use Rattle.ak_looper.specs.declared.kept_door.KeptDoor.{KeptDoor}
use Rattle.ak_looper.specs.Job.{facts_of}
use Rattle.ak_looper.specs.Rosters.{Object, RosterSeat}
use Rattle.ak_looper.specs.Stands.{StartsTeam}
use Rattle.ak_gather.specs.declared.gathering.Joined.{Joined}
use Rattle.ak_looper.specs.Starts.{StartsAt}
use Rattle.ak_gather.specs.Gathering.{IsJoined, IsRosterOf}
use Rattle.ak_gather.proofs.Paired.{AllAreJoined}
use Rattle.ak_gather.proofs.Placed.{number_at}
use Rattle.ak_gather.proofs.Taking.{all_at}
use Rattle.std.specs.List.{Any}
use Rattle.std.proofs.lemmas.List.{get_or_append_left}

-- what was launched before is among more
pub any_more : {X : Type 0} (P : X → Type 0) (xs ys : List X) → Any P xs → Any P (xs ++ ys)
any_more P xs ys any = (any.0, any.1, omega (arith, any.2, length-append xs ys), get_or_append_left xs ys any.1 any.0 any.2 ∙ any.3, any.4)

-- what its job had seen is in the whole list
any_whole : (P : EntryWithObjects Object → Type 0) (heads : List AppHead) (main : RosterSeat) (book : ReplySeat) (j : Joined) (is : IsJoined heads main book j) (roster : RosterData KeptDoor Object) → IsRosterOf main roster → Any P j.job.value.roster_seat.front → Any P roster.entries
any_whole P heads main book j is roster of any =
    let seen : Any P main.front = subst (λ (front : List (EntryWithObjects Object)). Any P front) (sym is.seen.1) (any_more P j.job.value.roster_seat.front is.seen.0 any) in
    subst (λ (entries : List (EntryWithObjects Object)). Any P entries) (sym of.goes_on) (any_more P main.front of.between seen)

-- the launch of its team, and the stamp of that is the time at which it begins
pub launched_at : (heads : List AppHead) (main : RosterSeat) (book : ReplySeat) (j : Joined) (is : IsJoined heads main book j) (roster : RosterData KeptDoor Object) → IsRosterOf main roster
    → Any (StartsAt (facts_of j.job.value is.lived.heads is.lived.desk_opening) j.job.value.hands.clock.time) roster.entries
launched_at heads main book j is roster of =
    let both : Some is.lived.heads ≡ Some heads = sym is.lived.heads_are ∙ is.heads_are in
    let same : is.lived.heads ≡ heads = cc both in
    any_whole (StartsAt (facts_of j.job.value is.lived.heads is.lived.desk_opening) j.job.value.hands.clock.time) heads main book j is roster of
    (subst (λ (hs : List AppHead). Any (StartsAt (facts_of j.job.value hs is.lived.desk_opening) j.job.value.hands.clock.time) j.job.value.roster_seat.front) (sym same) (is.begins is.lived.desk_opening))

pub launched_whole : (heads : List AppHead) (main : RosterSeat) (book : ReplySeat) (j : Joined) (is : IsJoined heads main book j) (roster : RosterData KeptDoor Object) → IsRosterOf main roster
    → Any (StartsTeam (facts_of j.job.value is.lived.heads is.lived.desk_opening)) roster.entries
launched_whole heads main book j is roster of =
    let any = launched_at heads main book j is roster of in
    (any.0, any.1, any.2, any.3, any.4.0)

-- the looper of that number is of a team that was launched
pub record IsLaunched (heads : List AppHead) (entries : List (EntryWithObjects Object)) (n : ℕ) : Type 0 where
  pub facts : LooperFacts
  pub heads_are : facts.heads ≡ heads
  pub launch : Any (StartsTeam facts) entries
  pub of_team : is_of_team facts n ≡ true

pub all_launched : (heads : List AppHead) (main : RosterSeat) (book : ReplySeat) (js : List Joined) (roster : RosterData KeptDoor Object) → AllAreJoined heads main book js roster → (n : ℕ) (j : Joined) → slice_get js n ≡ Some j
    → IsLaunched heads roster.entries n
all_launched heads main book js roster all n j there =
    let is = all_at (IsJoined heads main book) js n j all.joined there in
    let both : Some is.lived.heads ≡ Some heads = sym is.lived.heads_are ∙ is.heads_are in
    let number : j.job.value.number ≡ n = is.number ∙ number_at js n j all.numbers there in
    record {
      facts = facts_of j.job.value is.lived.heads is.lived.desk_opening;
      heads_are = cc both;
      launch = launched_whole heads main book j is roster all.of;
      of_team = subst (λ (m : ℕ). is_of_team (facts_of j.job.value is.lived.heads is.lived.desk_opening) m ≡ true) number is.ready.of_team;
    }
