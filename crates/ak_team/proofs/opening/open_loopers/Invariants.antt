-- The loopers so far are those of the plans so far.
use Rattle.std.proofs.Common.{◌≡◌, length, map, take}
use Rattle.ak_team.specs.Greeting.{EachMains, capacities_in, made_events}
use Rattle.ak_team.specs.Opening.{AreOpened, opened_front}
use Rattle.ak_team.specs.InTime.{AreMadeInTime}
use Rattle.ak_team.proofs.opening.open_loopers.Given as goal

abbrev pub invariant-loop-index : goal.invariant-loop-index
invariant-loop-index g l = record {
  opened : AreOpened l.plans l.team l.first 0 l.all.items;
  count : length l.all.items ≡ l.index;
  ports : EachMains (made_events (capacities_in (take l.index l.plans))) (map opened_front l.all.items);
  in_time : AreMadeInTime l.fn.clock.time (map opened_front l.all.items) l.clock.time;
  clock : l.clock.thread ≡ l.fn.clock.thread;
}
