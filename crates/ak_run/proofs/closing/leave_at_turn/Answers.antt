-- What the roster tells of the team is what it was, where it ran.
use Rattle.std.proofs.Common.{List, sym, ap, ◌∙◌}
use Rattle.std.specs.List.{find}
use Rattle.ak_roster.specs.Machine.{runs_team}
use Rattle.ak_roster.specs.declared.team.Running.{Running}
use Rattle.ak_team.proofs.Surface.{gone_in_time}
use Rattle.ak_run.proofs.TeamEnds.{leaves_book}
use Rattle.ak_run.proofs.closing.leave_at_turn.Goals as goal

pub returns-clause-left : goal.returns-clause-left
returns-clause-left c =
    let roster = c.app_list.ensures.is_roster in
    let team = c.args.team in
    leaves_book c.args.book.now c.gone.new.self c.args.clock.now c.gone.new.clock c.requires.main team roster.heads roster.history c.team_of-running.result c.gone.result
    (sym (c.team_of-running.ensures ∙ ap (λ (xs : List Running). find (runs_team team) xs) c.app_list.ensures.value)) c.gone.ensures.answer c.gone.ensures.entry c.gone.ensures.stays

pub returns-clause-in_time : goal.returns-clause-in_time
returns-clause-in_time c = gone_in_time c.args.book.now c.gone.new.self c.args.clock.now c.gone.new.clock c.args.team c.gone.result c.gone.ensures.entry c.gone.ensures.stays
