-- The first looper of a team that runs was started.
use Rattle.std.proofs.Common.{List, refl, sym, ap, ◌∙◌}
use Rattle.std.specs.List.{find}
use Rattle.ak_roster.specs.declared.team.Running.{Running}
use Rattle.ak_roster.specs.Machine.{runs_team}
use Rattle.ak_roster.specs.Roster.{plain_entries, state}
use Rattle.ak_team.proofs.Entering.{found_started, runs_found}
use Rattle.ak_team.proofs.launching.running.Goals as goal

pub returns : goal.returns
returns c =
    let roster = c.app_list.ensures.is_roster in
    let found = c.in-Some.ensures ∙ ap (λ (xs : List Running). find (runs_team c.args.team) xs) c.app_list.ensures.value in
    (refl, found_started c.args.book.now.heads (plain_entries c.args.book.now.entries) (runs_team c.args.team) c.in-Some.running.now roster.heads roster.history found, c.in-Some.running.now, sym found, refl)

pub unreachable-requires : goal.unreachable-requires
unreachable-requires c =
    runs_found c.args.team (state c.args.book.now).running c.requires.runs (c.in-None.ensures ∙ ap (λ (xs : List Running). find (runs_team c.args.team) xs) c.app_list.ensures.value)
