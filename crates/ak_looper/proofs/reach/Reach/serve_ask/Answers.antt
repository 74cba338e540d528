-- The door is there, and the message is asked by it; or there is no memory for the door.
use Rattle.ak_flatten.specs.declared.item.Duty.TheVariants as duty
use Rattle.ak_action.specs.declared.answer.Answer.TheVariants as answer
use Rattle.ak_diary.specs.Wants.{AsksSo, sent_item}
use Rattle.ak_looper.proofs.Going.{keeps_on}
use Rattle.ak_looper.proofs.ThroughDoors.{by_door, without_door}
use Rattle.ak_looper.proofs.reach.Reach.serve_ask.Goals as goal

pub returns-in-Ok-clause-goes : goal.returns-in-Ok-clause-goes
returns-in-Ok-clause-goes g c l start so_far stands =
    let to = c.args.to in
    let a = c.ask.result in
    by_door l so_far to.looper (AsksSo to c.args.message.now (sent_item l.team to duty.None c.args.message.now) a) start c.ask.new.self a c.way_to.new.self (c.in-Ok.ensures.goes l start so_far stands)
    (λ now there. c.ask.ensures.goes l start now there)

pub returns-in-Ok-clause-keeps : goal.returns-in-Ok-clause-keeps
returns-in-Ok-clause-keeps g c = keeps_on c.args.self.now c.way_to.new.self c.ask.new.self c.way_to.ensures.keeps c.ask.ensures.keeps

pub returns-in-Err-clause-goes : goal.returns-in-Err-clause-goes
returns-in-Err-clause-goes g c l start so_far stands =
    let to = c.args.to in
    without_door l so_far to.looper (AsksSo to c.args.message.now (sent_item l.team to duty.None c.args.message.now) answer.NoMemory) start c.way_to.new.self (c.in-Err.ensures.lacks l start so_far stands)
