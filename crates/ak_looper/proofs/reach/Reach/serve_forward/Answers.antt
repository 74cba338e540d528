-- The door is there, and the item is sent on by it; or there is no memory for the door, or for the copy of the item.
use Rattle.std.proofs.Common.{◌≡◌, ◌∙◌, refl, ap, subst}
use Rattle.ak_flatten.specs.Item.{ItemData}
use Rattle.ak_action.specs.declared.answer.Answer.TheVariants as answer
use Rattle.ak_diary.specs.Wants.{ForwardsSo, forwarded_item}
use Rattle.ak_looper.specs.Stands.{GoesOn}
use Rattle.ak_looper.proofs.Going.{keeps_on}
use Rattle.ak_looper.proofs.ThroughDoors.{by_door, by_door_alone, without_door}
use Rattle.ak_looper.proofs.reach.Reach.serve_forward.Goals as goal

pub returns-in_default-clause-goes : goal.returns-in_default-clause-goes
returns-in_default-clause-goes g c l start so_far stands =
    without_door l so_far c.args.looper (ForwardsSo c.args.looper (forwarded_item c.args.item.now c.args.popped) answer.NoMemory) start c.way_to.new.self (c.in_default.ensures.lacks l start so_far stands)

pub returns-in_default-try_clone-clause-goes : goal.returns-in_default-try_clone-clause-goes
returns-in_default-try_clone-clause-goes g c l start so_far stands =
    by_door_alone l so_far c.args.looper (ForwardsSo c.args.looper (forwarded_item c.args.item.now c.args.popped) answer.NoMemory) start c.way_to.new.self answer.NoMemory refl (c.in-Ok.ensures.goes l start so_far stands)

pub returns-clause-goes : goal.returns-clause-goes
returns-clause-goes g c l start so_far stands =
    let looper = c.args.looper in
    let a = c.forward.result in
    let sent : c.forwarded.result ≡ forwarded_item c.args.item.now c.args.popped = c.forwarded.ensures ∙ ap (λ (item : ItemData). forwarded_item item c.args.popped) c.in-Ok-try_clone.ensures in
    by_door l so_far looper (ForwardsSo looper (forwarded_item c.args.item.now c.args.popped) a) start c.forward.new.self a c.way_to.new.self (c.in-Ok.ensures.goes l start so_far stands)
    (λ now there. subst (λ (item : ItemData). GoesOn l start now (ForwardsSo looper item a) c.forward.new.self) sent (c.forward.ensures.goes l start now there))

pub returns-clause-keeps : goal.returns-clause-keeps
returns-clause-keeps g c = keeps_on c.args.self.now c.way_to.new.self c.forward.new.self c.way_to.ensures.keeps c.forward.ensures.keeps
