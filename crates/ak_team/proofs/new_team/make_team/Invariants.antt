-- The team so far, and the loopers that are to follow.
use Rattle.std.proofs.Common.{◌≡◌, ◌+◌, ◌++◌, length, map}
use Rattle.std.specs.Prelude.{option_map}
use Rattle.ak_team.specs.NewTeam.{IsNewTeam}
use Rattle.ak_team.specs.Greeting.{EachMains, FirstHoldsTwo, capacities_in, port_events, told_first, written_from}
use Rattle.ak_team.specs.Opening.{AreOpened, opened_front}
use Rattle.ak_team.specs.InTime.{ArePortsInTime, team_fronts}
use Rattle.ak_team.proofs.new_team.make_team.Given as goal

abbrev pub invariant-loop-other : goal.invariant-loop-other
invariant-loop-other g l = record {
  team : IsNewTeam l.plans l.team l.first l.shared l.making.team l.making.kept.items;
  rest : AreOpened l.plans l.team l.first (length l.making.team.others.items + 1) l.other-iterator.rest.items;
  count : length l.plans ≡ (length l.making.team.others.items + 1) + length l.other-iterator.rest.items;
  ports : FirstHoldsTwo l.plans → EachMains (port_events (capacities_in l.plans) (written_from 0 (told_first (option_map (λ m. m.now) l.arguments)))) (team_fronts l.making.team ++ map opened_front l.other-iterator.rest.items);
  in_time : FirstHoldsTwo l.plans → ArePortsInTime l.fn.hands.clock.time (team_fronts l.making.team ++ map opened_front l.other-iterator.rest.items) l.hands.clock.time;
}
