-- By the team that runs, of which the looper is.
use Rattle.ak_roster.specs.Roster.{plain_entries}
use Rattle.uses_objects.proofs.OwnDoors.{none_by_team}
use Rattle.uses_objects.proofs.rosters.taking.is_another.Goals as goal

pub returns : goal.returns
returns c = λ apart.
    let roster = c.args.roster.now in
    let is = c.in-Some.ensures in
    none_by_team c.loopers_are_of_their_teams.ensures.teams roster.heads (plain_entries roster.entries) c.args.thread.0 c.in-Some.number c.args.looper c.heads.ensures.is_roster.history is.0 is.1 c.if-number-looper.false
    (c.runs_apart.ensures apart)
