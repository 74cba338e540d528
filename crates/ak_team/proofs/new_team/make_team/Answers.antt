-- The first one is the own looper's, which is greeted; the others follow.
use Rattle.std.proofs.Common.{Bor, ◌≡◌, ℕ, suc, ◌+◌, List, Option, [], ◌∷◌, ◌++◌, length, map, refl, sym, ap, ◌∙◌, subst, append-nil, arith}
use Rattle.std.specs.Prelude.{option_map}
use Rattle.std.proofs.lemmas.Grind.{common_steps}
use Rattle.ak_message.specs.Message.{MessageData}
use Rattle.ak_message.specs.declared.message.Message.{Message}
use Rattle.ak_port.specs.declared.port_entry.PortEntry.{PortEntry}
use Rattle.ak_port.specs.declared.port_entry.PortEvent.{PortEvent}
use Rattle.ak_team.specs.declared.new_looper.NewLooper.{NewLooper}
use Rattle.ak_team.specs.declared.opening.Opened.{Opened}
use Rattle.ak_team.specs.Opening.{AreOpened, opened_front}
use Rattle.ak_team.specs.Greeting.{EachMains, IsAlone, capacities_in, made_event, port_events, told_first, written_from}
use Rattle.ak_team.specs.InTime.{ArePortsInTime, team_fronts}
use Rattle.ak_team.proofs.Makings.{first_made, first_opened, greeted_in_time, greeted_ports, grows_in_time, grows_ports}
use Rattle.ak_team.proofs.NewLoopers.{still_opened}
use Rattle.ak_team.proofs.new_team.make_team.Goals as goal

pub begin_team-requires : goal.begin_team-requires
begin_team-requires g c =
    let plans = c.args.plans.now in
    let team = c.args.team in
    let first = c.args.first in
    let own = c.remove-own.result in
    let parts = first_opened plans team first c.in_ok-others.others.items own c.remove-own.new.self.items (omega (arith, c.in_ok-others.ensures.count, c.requires.some)) c.in_ok-others.ensures.opened c.remove-own.ensures.value c.remove-own.ensures.items in
    record { opened = (plans, team, first, still_opened plans team first 0 own parts.0 _ refl refl c.in_ok-greet.ensures.door) }

pub loop-other-init : goal.loop-other-init
loop-other-init g c =
    let plans = c.args.plans.now in
    let team = c.args.team in
    let first = c.args.first in
    let own = c.remove-own.result in
    let left = c.remove-own.new.self.items in
    let rest = c.into_iter-other-iterator.result.rest.items in
    let parts = first_opened plans team first c.in_ok-others.others.items own left (omega (arith, c.in_ok-others.ensures.count, c.requires.some)) c.in_ok-others.ensures.opened c.remove-own.ensures.value c.remove-own.ensures.items in
    let begun = c.in_ok-making.ensures.begun plans team first (still_opened plans team first 0 own parts.0 _ refl refl c.in_ok-greet.ensures.door) in
    let none : 1 ≡ length c.in_ok-making.making.team.others.items + 1 = omega (arith, ap (λ (ns : List NewLooper). length ns) begun.1) in
    let same : left ≡ rest = sym c.into_iter-other-iterator.ensures.into_iter_gives.0 in
    record {
      team = begun.0;
      rest = subst (λ (k : ℕ). AreOpened plans team first k rest) none (subst (λ (os : List Opened). AreOpened plans team first 1 os) same parts.1);
      count = omega (arith, none, ap (λ (os : List Opened). length os) same, parts.2, c.in_ok-others.ensures.count);
      ports = λ holds.
          let ports = first_made plans c.in_ok-others.others.items own rest (omega (arith, c.in_ok-others.ensures.count, c.requires.some)) c.in_ok-others.ensures.ports c.remove-own.ensures.value (sym same ∙ c.remove-own.ensures.items) in
          let opened = parts.0.opened in
          let alone : IsAlone (made_event ports.capacity ∷ []) own.door.port_seat = record { by_main = opened.by_main; names_are = opened.names_are.at_port; known = opened.known.at_port; mains = ports.first } in
          greeted_ports plans own rest ports _ _ (team_fronts c.in_ok-making.making.team) (c.in_ok-greet.ensures.told ports.capacity (ports.room holds) alone).mains c.in_ok-making.ensures.fronts;
      in_time = λ holds.
          let ports = first_made plans c.in_ok-others.others.items own rest (omega (arith, c.in_ok-others.ensures.count, c.requires.some)) c.in_ok-others.ensures.ports c.remove-own.ensures.value (sym same ∙ c.remove-own.ensures.items) in
          let opened = parts.0.opened in
          let alone : IsAlone (made_event ports.capacity ∷ []) own.door.port_seat = record { by_main = opened.by_main; names_are = opened.names_are.at_port; known = opened.known.at_port; mains = ports.first } in
          greeted_in_time c.args.hands.now.clock.time c.open_loopers.new.clock.time c.greet.new.hands.clock.time c.in_ok-others.others.items own rest ports.capacity _ _ (team_fronts c.in_ok-making.making.team) (omega (arith, c.in_ok-others.ensures.count, c.requires.some))
          c.remove-own.ensures.value (sym same ∙ c.remove-own.ensures.items) c.in_ok-others.ensures.in_time ports.first (c.in_ok-greet.ensures.told ports.capacity (ports.room holds) alone).mains (c.in_ok-greet.ensures.adds opened.by_main) c.in_ok-making.ensures.fronts;
    }

-- one looper more
pub loop-other-preserved : goal.loop-other-preserved
loop-other-preserved g c =
    let plans = c.args.plans.now in
    let team = c.args.team in
    let first = c.args.first in
    let was = c.loop-other in
    let x = c.in-Some.other in
    let rest = c.next.new.self.rest.items in
    let so_far = length was.making.team.others.items in
    let next : was.other-iterator.rest.items ≡ x ∷ rest = grind (arith, common_steps) in
    let opened = subst (λ (os : List Opened). AreOpened plans team first (so_far + 1) os) next was.invariant.rest in
    let count = c.in_ok-add_looper.ensures.count in
    let one : suc (so_far + 1) ≡ length c.add_looper.new.making.team.others.items + 1 = omega (arith, count) in
    record {
      team = c.in_ok-add_looper.ensures.grown plans team was.invariant.team opened.0;
      rest = subst (λ (k : ℕ). AreOpened plans team first k rest) one opened.1;
      count = omega (arith, was.invariant.count, count, ap (λ (os : List Opened). length os) next);
      ports = λ holds. grows_ports _ (team_fronts was.making.team) (team_fronts c.add_looper.new.making.team) x was.other-iterator.rest.items rest next c.in_ok-add_looper.ensures.fronts (was.invariant.ports holds);
      in_time = λ holds. grows_in_time _ _ (team_fronts was.making.team) (team_fronts c.add_looper.new.making.team) x was.other-iterator.rest.items rest next c.in_ok-add_looper.ensures.fronts (was.invariant.in_time holds);
    }

-- no one is to follow
pub returns-clause-ports : goal.returns-clause-ports
returns-clause-ports g c holds =
    let was = c.loop-other in
    let arguments : Option MessageData = option_map (λ (b : Bor Message). b.now) c.args.arguments in
    let events : List (List PortEvent) = port_events (capacities_in c.args.plans.now) (written_from 0 (told_first arguments)) in
    let fronts : List (List PortEntry) = team_fronts was.making.team in
    let none : was.other-iterator.rest.items ≡ [] = grind (arith, common_steps) in
    subst (EachMains events) (append-nil fronts) (subst (λ (os : List Opened). EachMains events (fronts ++ map opened_front os)) none (was.invariant.ports holds))

pub returns-clause-in_time : goal.returns-clause-in_time
returns-clause-in_time g c holds =
    let was = c.loop-other in
    let fronts : List (List PortEntry) = team_fronts was.making.team in
    let none : was.other-iterator.rest.items ≡ [] = grind (arith, common_steps) in
    subst (λ (fs : List (List PortEntry)). ArePortsInTime c.args.hands.now.clock.time fs c.greet.new.hands.clock.time) (append-nil fronts)
    (subst (λ (os : List Opened). ArePortsInTime c.args.hands.now.clock.time (fronts ++ map opened_front os) c.greet.new.hands.clock.time) none (was.invariant.in_time holds))
