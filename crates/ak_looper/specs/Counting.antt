-- How many loopers main has started, as its own entries at the roster tell.
use Rattle.std.specs.Prelude.{ℕ, ◌+◌, List, [], ◌∷◌}
use Rattle.ak_base.specs.Thread.{main_thread}
use Rattle.ak_turn.specs.Entries.{made_by}
use Rattle.ak_roster.specs.declared.head.AppHead.{AppHead}
use Rattle.ak_roster.specs.declared.entry.RosterEntry.{RosterEntry}
use Rattle.ak_roster.specs.Kept.{count_of}
use Rattle.ak_roster.specs.Roster.{plain_entries}
use Rattle.ak_looper.specs.Rosters.{RosterSeat, maker_of}

-- how many loopers these entries start
abbrev pub started_in : List AppHead → List RosterEntry → ℕ
started_in heads [] = 0
started_in heads (entry ∷ entries) = count_of heads entry.event + started_in heads entries

-- how many main has started, by what its seat has seen
abbrev pub started_by_main : List AppHead → RosterSeat → ℕ
started_by_main heads seat = started_in heads (made_by maker_of main_thread (plain_entries seat.front))
