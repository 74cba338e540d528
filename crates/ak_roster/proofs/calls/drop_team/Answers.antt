-- What is kept is what the test keeps.
use Rattle.std.proofs.Common.{rules}
use Rattle.std.specs.Prelude.{not}
use Rattle.std.proofs.lemmas.Fn.{filter_same}
use Rattle.ak_roster.specs.Machine.{runs_team}
use Rattle.ak_roster.proofs.calls.drop_team.Goals as goal

pub returns : goal.returns
returns c = record { items = filter_same _ (λ r. not (runs_team c.args.team r)) _ (λ x b f' k. search rules) _ _ c.retain.ensures.filtered }
