-- The plan that is copied is the plan, and on its desk nothing was done.
use Rattle.std.proofs.Common.{◌≡◌, ◌∙◌, ℕ, List, [], ◌∷◌, refl, sym, ap, subst}
use Rattle.std.specs.Arc.{arc_value}
use Rattle.ak_turn.specs.Entries.{places}
use Rattle.ak_turn.specs.Seats.{first_seat}
use Rattle.ak_turn.specs.declared.clock.Clock.{Clock}
use Rattle.ak_action.specs.declared.plan.PlanParts.{PlanParts}
use Rattle.ak_action.specs.Opening.{Opens}
use Rattle.ak_desk.specs.Desk.{DeskData}
use Rattle.ak_desk.specs.Shared as desks
use Rattle.ak_port.specs.Limits.{life_limit}
use Rattle.ak_port.specs.PortCalls.{PortSeat, making}
use Rattle.ak_port.specs.declared.port_entry.PortEntry.{PortEntry}
use Rattle.ak_team.specs.Greeting.{AreMains, made_event}
use Rattle.ak_team.specs.InTime.{AreEntriesInTime}
use Rattle.ak_team.proofs.NewPorts.{making_mains}
use Rattle.ak_team.proofs.Places.{opened_so}
use Rattle.ak_team.proofs.opening.open_looper.Goals as goal

pub returns-clause-opened : goal.returns-clause-opened
returns-clause-opened g c =
    let place = c.args.place in
    let thread = c.args.clock.now.thread.0 in
    let state = c.in_ok-desk.desk.opening in
    let lock = arc_value c.in_ok-desk-2.desk in
    let opens = subst (λ (plan : PlanParts). Opens plan place.number place.team place.first c.args.names state) c.in_ok-plan.ensures c.in_ok-desk.ensures.opening in
    let seat = c.in_ok-desk-2.ensures ∙ ap (λ (d : DeskData). first_seat lock d.opening d.entries (places desks.by_number thread d.entries) thread) c.in_ok-desk.ensures.opened in
    opened_so place c.args.plan.now c.args.names _ c.looper-taker.result _ thread lock (arc_value c.in_ok-port.port) state _ _ c.requires.fits c.requires.main refl c.looper-taker.ensures
    c.in_ok-queue.ensures.exact c.in_ok-queue.ensures.len c.in_ok-queue.ensures.items opens seat c.in_ok-port.ensures.made c.in_ok-port.ensures.known c.in_ok-port.ensures.taking

pub returns-clause-port : goal.returns-clause-port
returns-clause-port g c =
    let capacity = c.parts.result.now.capacity in
    let as_described : capacity ≡ c.args.plan.now.capacity = ap (λ (p : PlanParts). p.capacity) c.parts.ensures.value in
    subst (λ (front : List PortEntry). AreMains (made_event c.args.plan.now.capacity ∷ []) front) (sym (ap (λ (s : PortSeat). s.front) c.in_ok-port.ensures.made))
    (subst (λ (n : ℕ). AreMains (made_event n ∷ []) (making c.args.clock.now capacity life_limit ∷ [])) as_described (making_mains c.args.clock.now capacity c.requires.main))

pub returns-clause-in_time : goal.returns-clause-in_time
returns-clause-in_time g c =
    let later = c.make.new.clock.time in
    subst (λ (front : List PortEntry). AreEntriesInTime c.args.clock.now.time [] front later) (sym (ap (λ (s : PortSeat). s.front) c.in_ok-port.ensures.made)) (refl, sym (ap (λ (k : Clock). k.time) c.in_ok-port.ensures.clock))
