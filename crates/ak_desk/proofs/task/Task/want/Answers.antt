-- Behind what a reaction wants its answers may come.
use Rattle.ak_desk.proofs.Coming.{reactions_await, reactions_end}
use Rattle.ak_desk.proofs.task.Task.want.Goals as goal

pub returns-in-Reaction-clause-awaits : goal.returns-in-Reaction-clause-awaits
returns-in-Reaction-clause-awaits c = reactions_await c.in-Reaction.interp c.args.state.now c.next.new.self c.next.new.state c.next.result c.next.ensures.ok

pub returns-in-Reaction-clause-ends : goal.returns-in-Reaction-clause-ends
returns-in-Reaction-clause-ends c = reactions_end c.in-Reaction.interp c.args.state.now c.next.new.self c.next.new.state c.next.result c.next.ensures.err
