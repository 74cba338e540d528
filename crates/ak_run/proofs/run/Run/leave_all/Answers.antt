-- Team after team is ended.
use Rattle.std.proofs.Common.{◌≡◌, ◌+◌, List, ℕ, refl, sym, subst, ◌++◌, arith}
use Rattle.std.specs.List.{range_with_len}
use Rattle.ak_roster.specs.declared.head.AppHead.{AppHead}
use Rattle.ak_describe.specs.Whole.{heads_of}
use Rattle.ak_run.specs.Closing.{EndsTeam, EndsTeams}
use Rattle.ak_run.proofs.Calls.{goes_same}
use Rattle.ak_run.proofs.TeamEnds.{closes_same, closes_then, ends_push, range_push}
use Rattle.ak_run.proofs.Endings.{same_heads_of}
use Rattle.ak_run.proofs.GoingOn.{goes_then_goes, still_running}
use Rattle.ak_run.proofs.run.Run.leave_all.Goals as goal

pub loop-place-init : goal.loop-place-init
loop-place-init g c = record {
  goes = goes_same c.args.self.now _ (record { apps = refl; shared = refl; joined = refl; ports = refl; desks = refl; slots = refl }) refl refl refl refl;
  closed = closes_same (λ so_far. EndsTeams (heads_of c.args.self.now.apps.items) so_far (range_with_len 1 0)) c.args.self.now _ (λ so_far. refl) refl refl refl refl;
}

pub end_team-requires : goal.end_team-requires
end_team-requires g c = record { running = still_running c.args.self.now _ c.loop-place.invariant.goes c.requires.running }

pub loop-place-preserved : goal.loop-place-preserved
loop-place-preserved g c =
    let r = c.args.self.now in
    let heads = heads_of r.apps.items in
    let place = c.loop-place.place in
    let was = c.loop-place.invariant in
    let later = heads_of c.loop-place.self.apps.items in
    let same : later ≡ heads = same_heads_of r c.loop-place.self was.goes in
    let next : place + 1 ≡ 1 + place = omega arith in
    record {
      goes = goes_then_goes r _ _ was.goes c.end_team.ensures.goes;
      closed = closes_then (λ so_far. EndsTeams heads so_far (range_with_len 1 place)) (λ so_far. EndsTeam later so_far (place + 1)) (λ so_far. EndsTeams heads so_far (range_with_len 1 (place + 1))) r _ _
          (λ so_far xs ys all one.
          subst (λ (teams : List ℕ). EndsTeams heads so_far teams (xs ++ ys)) (sym (range_push 1 place))
          (ends_push heads so_far (range_with_len 1 place) (1 + place) xs ys all (subst (λ (n : ℕ). EndsTeam heads (so_far ++ xs) n ys) next (subst (λ (hs : List AppHead). EndsTeam hs (so_far ++ xs) (place + 1) ys) same one)))) was.closed c.end_team.ensures.closed;
    }
