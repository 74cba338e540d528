-- Reading what was done at the roster.
use Rattle.std.specs.Prelude.{ℕ, if◌then◌else◌, List, codes, Option, Some, None}
use Rattle.std.specs.Str.{bytes_eq}
use Rattle.ak_base.specs.Option.{◌>>=◌}
use Rattle.ak_roster.specs.declared.entry.FindOutcome.{FindOutcome}
use Rattle.ak_roster.specs.declared.entry.FindOutcome.TheVariants as find
use Rattle.ak_roster.specs.declared.entry.LaunchOutcome.{LaunchOutcome}
use Rattle.ak_roster.specs.declared.entry.LaunchOutcome.TheVariants as launch
use Rattle.ak_roster.specs.declared.entry.RosterEvent.{RosterEvent}
use Rattle.ak_roster.specs.declared.entry.RosterEvent.TheVariants as event
use Rattle.ak_journal.specs.ReadParts.{find_word_at, first_of, first_u32, launch_word_at, u32_at}

-- ---- outcomes
abbrev pub started_of : List (List ℕ) → Option LaunchOutcome
started_of words =
    u32_at words >>= λ description. u32_at description.1 >>= λ team. first_u32 team.1 >>= λ first. Some (launch.Started description.0 team.0 first)

abbrev pub running_of : List (List ℕ) → Option LaunchOutcome
running_of words = first_u32 words >>= λ team. Some (launch.AlreadyRunning team)

abbrev pub launch_by : List ℕ → List (List ℕ) → Option LaunchOutcome
launch_by key words =
    if bytes_eq key (codes "started") then started_of words
    else if bytes_eq key (codes "running") then running_of words
    else if bytes_eq key (codes "not-found") then Some launch.NotFound
    else if bytes_eq key (codes "limit") then Some launch.Limit
    else None

abbrev pub launch_outcome : List (List ℕ) → Option LaunchOutcome
launch_outcome words = first_of words >>= λ key. launch_by key.0 key.1

abbrev pub team_of : List (List ℕ) → Option FindOutcome
team_of words = first_u32 words >>= λ team. Some (find.Team team)

abbrev pub find_by : List ℕ → List (List ℕ) → Option FindOutcome
find_by key words =
    if bytes_eq key (codes "team") then team_of words
    else if bytes_eq key (codes "no-team") then Some find.NoTeam
    else None

abbrev pub find_outcome : List (List ℕ) → Option FindOutcome
find_outcome words = first_of words >>= λ key. find_by key.0 key.1

-- ---- events
abbrev pub launched_of : List (List ℕ) → Option RosterEvent
launched_of words = launch_word_at words >>= λ word. launch_outcome word.1 >>= λ outcome. Some (event.Launch word.0 outcome)

abbrev pub found_of : List (List ℕ) → Option RosterEvent
found_of words = find_word_at words >>= λ word. find_outcome word.1 >>= λ outcome. Some (event.Find word.0 outcome)

abbrev pub gone_of : List (List ℕ) → Option RosterEvent
gone_of words = first_u32 words >>= λ team. Some (event.Gone team)

abbrev pub door_of : List (List ℕ) → Option RosterEvent
door_of words = first_u32 words >>= λ looper. Some (event.Door looper)

-- those that name no application
abbrev pub short_event : List ℕ → List (List ℕ) → Option RosterEvent
short_event key words =
    if bytes_eq key (codes "gone") then gone_of words else if bytes_eq key (codes "door") then door_of words else None

abbrev pub event_by : List ℕ → List (List ℕ) → Option RosterEvent
event_by key words =
    if bytes_eq key (codes "launch") then launched_of words
    else if bytes_eq key (codes "find") then found_of words
    else short_event key words

abbrev pub roster_event : List (List ℕ) → Option RosterEvent
roster_event words = first_of words >>= λ key. event_by key.0 key.1
