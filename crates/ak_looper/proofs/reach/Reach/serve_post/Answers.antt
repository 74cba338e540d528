-- The door is there, and the message is posted by it; or there is no memory for the door.
use Rattle.ak_action.specs.declared.answer.Answer.TheVariants as answer
use Rattle.ak_diary.specs.Wants.{PostsSo, owed_to, sent_item}
use Rattle.ak_looper.proofs.Going.{keeps_on}
use Rattle.ak_looper.proofs.ThroughDoors.{by_door, without_door}
use Rattle.ak_looper.proofs.reach.Reach.serve_post.Goals as goal

pub returns-in-Ok-clause-goes : goal.returns-in-Ok-clause-goes
returns-in-Ok-clause-goes g c l start so_far stands =
    let to = c.args.to in
    let a = c.post.result in
    by_door l so_far to.looper (PostsSo to c.args.message.now (sent_item l.team to (owed_to c.args.back) c.args.message.now) a) start c.post.new.self a c.way_to.new.self (c.in-Ok.ensures.goes l start so_far stands)
    (λ now there. c.post.ensures.goes l start now there)

pub returns-in-Ok-clause-keeps : goal.returns-in-Ok-clause-keeps
returns-in-Ok-clause-keeps g c = keeps_on c.args.self.now c.way_to.new.self c.post.new.self c.way_to.ensures.keeps c.post.ensures.keeps

pub returns-in-Err-clause-goes : goal.returns-in-Err-clause-goes
returns-in-Err-clause-goes g c l start so_far stands =
    let to = c.args.to in
    without_door l so_far to.looper (PostsSo to c.args.message.now (sent_item l.team to (owed_to c.args.back) c.args.message.now) answer.NoMemory) start c.way_to.new.self (c.in-Err.ensures.lacks l start so_far stands)
