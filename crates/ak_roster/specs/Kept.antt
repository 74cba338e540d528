-- The roster's book as the code holds it, and what contracts see of it.
use Rattle.std.specs.Prelude.{◌≡◌, ◌⊎◌, ◌≤◌, ℕ, ◌+◌, List, [], ◌∷◌, ◌++◌, length, map, take, drop, Option}
use Rattle.ak_base.specs.Limits.{looper_limit}
use Rattle.ak_roster.specs.declared.head.AppHead.{AppHead}
use Rattle.ak_roster.specs.declared.team.Running.{Running}
use Rattle.ak_roster.specs.declared.entry.RosterEntry.{RosterEntry}
use Rattle.ak_roster.specs.declared.entry.EntryWithObjects.{EntryWithObjects}
use Rattle.ak_roster.specs.declared.entry.RosterEvent.{RosterEvent}
use Rattle.ak_roster.specs.declared.entry.RosterEvent.TheVariants as event
use Rattle.ak_roster.specs.declared.entry.LaunchOutcome.{LaunchOutcome}
use Rattle.ak_roster.specs.declared.entry.LaunchOutcome.TheVariants as launch
use Rattle.ak_roster.specs.Machine.{loopers_at}
use Rattle.ak_roster.specs.Roster.{RosterData, IsRoster, state}
use Rattle.ak_roster.specs.Limits.{team_limit}

pub record Kept (D : Type 0) : Type 0 where
  pub heads : List AppHead
  pub running : List Running
  pub teams : ℕ
  pub loopers : ℕ
  pub entries : List RosterEntry
  -- for how many entries there is room
  pub room : ℕ
  -- the doors that were taken, and those that are kept
  pub taken : List D
  pub doors : List D

abbrev pub count_launched : List AppHead → LaunchOutcome → ℕ
count_launched heads (launch.Started place team first) = loopers_at heads place
count_launched heads (launch.AlreadyRunning team) = 0
count_launched heads launch.NotFound = 0
count_launched heads launch.Limit = 0

-- how many loopers an event starts
abbrev pub count_of : List AppHead → RosterEvent → ℕ
count_of heads (event.Launch word result) = count_launched heads result
count_of heads (event.Find word result) = 0
count_of heads (event.Gone team) = 0
count_of heads (event.Door looper) = 0

module _ {O : Type 0} (heads : List AppHead) where
  -- the entries, each launch with the objects of its loopers
  abbrev pub with_objects : List (Option O) → List RosterEntry → List (EntryWithObjects O)
  with_objects objects [] = []
  with_objects objects (entry ∷ rest) =
      (record { plain = entry; objects = take (count_of heads entry.event) objects }) ∷ with_objects (drop (count_of heads entry.event) objects) rest

module _ {D O : Type 0} (object : D → Option O) where
  abbrev pub roster_seen : Kept D → RosterData D O
  roster_seen kept =
      record {
        heads = kept.heads;
        entries = with_objects kept.heads (map object (kept.taken ++ kept.doors)) kept.entries;
        doors = kept.doors;
      }

-- the code holds the state that the entries leave, and room for the end of each team
pub record IsSound {D O : Type 0} (object : D → Option O) (threads : D → Option (List ℕ)) (kept : Kept D) : Type 0 where
  pub roster : IsRoster object threads (roster_seen object kept)
  pub running : kept.running ≡ (state (roster_seen object kept)).running
  pub teams : kept.teams ≡ (state (roster_seen object kept)).teams
  pub loopers : kept.loopers ≡ length (state (roster_seen object kept)).loopers
  pub room : length kept.entries + length kept.running ≤ kept.room
  pub few_teams : kept.teams ≤ team_limit
  pub few_loopers : kept.loopers ≤ looper_limit
  pub all_doors : length (kept.taken ++ kept.doors) ≡ kept.loopers
  -- they are taken once
  pub once : (kept.taken ≡ []) ⊎ (kept.doors ≡ [])
