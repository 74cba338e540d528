-- A launch starts just the next loopers, and nothing takes one away.
use Rattle.ak_roster.proofs.Owns.{owns_stay_in_teams}
use Rattle.ak_roster.proofs.Teams.{launches_have_loopers, teams_have_loopers}
use Rattle.ak_roster.proofs.laws.loopers_are_of_their_teams.Goals as goal

pub returns : goal.returns
returns c = record { teams = teams_have_loopers; launches = launches_have_loopers; owns = owns_stay_in_teams }
