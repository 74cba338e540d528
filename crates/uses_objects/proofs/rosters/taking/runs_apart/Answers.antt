-- The first team that runs is one.
use Rattle.std.proofs.Common.{◌≡◌, ◌≢◌, ◌+◌, ◌<◌, ◌≤◌, List, Some, subst, sym}
use Rattle.std.specs.Prelude.{Any, slice_get}
use Rattle.std.proofs.lemmas.Option.{get_or_from_slice_get, slice_get_within}
use Rattle.ak_roster.specs.declared.team.Running.{Running}
use Rattle.uses_objects.proofs.rosters.taking.runs_apart.Goals as goal

pub returns : goal.returns
returns c = λ yes.
    let list : List Running = c.app_list.result.now in
    let first : Running = c.in-Some.team.now in
    let is : Running → Type 0 = λ team. (team.first ≤ c.args.looper) × (c.args.looper < team.first + team.loopers) × (team.first ≢ c.args.number) in
    let there : slice_get list 0 ≡ Some first = sym c.in-Some.ensures.value in
    subst (λ (l : List Running). Any is l) c.app_list.ensures.value (0, first, slice_get_within list 0 first there, get_or_from_slice_get list 0 first first there, c.is_apart.ensures yes)
