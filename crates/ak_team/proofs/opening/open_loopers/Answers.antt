-- The numbers of the plans fit, and one looper more is opened.
use Rattle.std.proofs.Common.{◌≡◌, ◌+◌, List, [], ◌∷◌, ◌++◌, length, map, refl, sym, ap, ◌∙◌, subst, ℕ, arith}
use Rattle.std.proofs.lemmas.List.{map-append}
use Rattle.std.proofs.lemmas.Grind.{common_steps}
use Rattle.std.proofs.lemmas.Option.{slice_get_read}
use Rattle.ak_action.specs.Opening.{FitsPlace}
use Rattle.ak_team.specs.declared.opening.Opened.{Opened}
use Rattle.ak_port.specs.declared.port_entry.PortEntry.{PortEntry}
use Rattle.ak_team.specs.Opening.{AreOpened, IsOpened, IsOpenedAt, opened_front, place_at}
use Rattle.ak_team.specs.InTime.{AreMadeInTime}
use Rattle.ak_team.proofs.Places.{plans_fit}
use Rattle.ak_team.proofs.NewPorts.{made_push, ports_push}
use Rattle.ak_team.proofs.Teams.{opened_push}
use Rattle.ak_team.proofs.opening.open_loopers.Goals as goal

pub overflow_cast-place : goal.overflow_cast-place
overflow_cast-place g c =
    let plans = c.args.plans.now in
    let there = slice_get_read plans (length plans) c.loop-index.index c.index-plans-index.result refl (omega arith) c.index-plans-index.is in
    omega (arith, plans_fit c.args.first c.loop-index.index plans c.index-plans-index.result c.requires.fits there)

pub overflow_add-place : goal.overflow_add-place
overflow_add-place g c =
    let plans = c.args.plans.now in
    let there = slice_get_read plans (length plans) c.loop-index.index c.index-plans-index.result refl (omega arith) c.index-plans-index.is in
    omega (arith, plans_fit c.args.first c.loop-index.index plans c.index-plans-index.result c.requires.fits there)

pub open_looper-requires-clause-fits : goal.open_looper-requires-clause-fits
open_looper-requires-clause-fits g c =
    let plans = c.args.plans.now in
    let plan = c.index-plans-index.result in
    let there = slice_get_read plans (length plans) c.loop-index.index plan refl (omega arith) c.index-plans-index.is in
    subst (λ (names : List (List ℕ)). FitsPlace plan (c.args.first + c.loop-index.index) c.args.first names) (sym c.in_ok-names.ensures) (c.requires.fits c.loop-index.index plan there)

pub loop-index-preserved : goal.loop-index-preserved
loop-index-preserved g c =
    let plans = c.args.plans.now in
    let first = c.args.first in
    let team = c.args.team in
    let index = c.loop-index.index in
    let plan = c.index-plans-index.result in
    let o = c.in_ok-open_looper.field-0 in
    let there = slice_get_read plans (length plans) index plan refl (omega arith) c.index-plans-index.is in
    let pushed : c.push.new.self.items ≡ c.loop-index.all.items ++ o ∷ [] = grind (arith, common_steps) in
    let here : IsOpenedAt plans team first index o = record {
      plan = plan;
      described = there;
      opened = subst (λ (names : List (List ℕ)). IsOpened (place_at plans team first index) plan names o) c.in_ok-names.ensures c.in_ok-open_looper.ensures.opened;
    } in
    record {
      opened = subst (λ (os : List Opened). AreOpened plans team first 0 os) (sym pushed) (opened_push plans team first 0 index c.loop-index.all.items o c.loop-index.invariant.opened (omega arith) here);
      ports = ports_push plans index plan c.loop-index.all.items o c.push.new.self.items there pushed c.loop-index.invariant.ports c.in_ok-open_looper.ensures.port;
      in_time = subst (λ (fs : List (List PortEntry)). AreMadeInTime c.args.clock.now.time fs c.open_looper.new.clock.time) (sym (ap (map opened_front) pushed ∙ map-append opened_front c.loop-index.all.items (o ∷ [])))
          (made_push c.args.clock.now.time c.loop-index.clock.time c.open_looper.new.clock.time (map opened_front c.loop-index.all.items) (opened_front o) c.loop-index.invariant.in_time c.in_ok-open_looper.ensures.in_time);
      count = grind (arith, common_steps);
      clock = grind (arith, common_steps);
    }
