-- What is begun came no further, and has its places.
use Rattle.std.proofs.Common.{◌≡◌, ◌+◌, ◌<◌, None, ap, subst, ◌∙◌, vec_len, vec_capacity, arith}
use Rattle.std.proofs.lemmas.Grind.{common_steps}
use Rattle.ak_flatten.specs.Item.{IsItem}
use Rattle.ak_desk.specs.Desk.{BegunData, DeskData, begun_at}
use Rattle.ak_desk.specs.DeskInside.{begun_seen}
use Rattle.ak_desk.specs.Machine.{dispatches}
use Rattle.ak_desk.specs.Place.{routed_of}
use Rattle.ak_desk.specs.Task.{task_of}
use Rattle.ak_desk.proofs.Going.{begins}
use Rattle.ak_desk.proofs.Standing.{none_inside}
use Rattle.ak_desk.proofs.desk.Desk.begin.Goals as goal

pub invariant_of-self-2 : goal.invariant_of-self-2
invariant_of-self-2 c =
    let seen : begun_seen c.in_ok-begun.begun ≡ begun_at c.self.inside.state c.args.taken.now = grind (arith, common_steps) in
    let task : c.in_ok-begun.begun.task ≡ task_of c.self.inside.state.first (routed_of c.self.inside.state c.args.taken.now.item) = grind (arith, common_steps) in
    let fits : IsItem c.args.taken.now.item = subst (λ (b : BegunData). IsItem b.item) seen c.in_ok-begun.ensures.item in
    let none : c.self.inside.begun ≡ None = none_inside c.self.inside.begun (ap (λ (d : DeskData). d.begun) c.self.view_is ∙ c.requires.rest) in
    let position : c.args.taken.now.position ≡ dispatches c.self.inside.entries.items = grind (arith, common_steps) in
    let places : vec_len c.reserve.new.self + 1 < vec_capacity c.reserve.new.self = grind (arith, common_steps) in
    record {
      stands = begins c.self.inside.opening.value c.self.inside.entries.items c.reserve.new.self.items c.self.inside.begun _ _ c.self.inside.state c.args.taken.now seen task fits none c.reserve.ensures.items c.self.invariant.stands position;
      places = places;
    }
