-- What is begun stays the same message.
use Rattle.uses_asks.proofs.Carrying.{give_carries, takes_of, want_carries}
use Rattle.uses_asks.proofs.serving.goes_on.Goals as goal

pub give-requires : goal.give-requires
give-requires c = takes_of c.in-Ok.want c.in-Some.answer c.want.new.self c.in-Ok.ensures.awaits c.in-Some.ensures.some

pub returns-clause-carries : goal.returns-clause-carries
returns-clause-carries c position item before is =
    give_carries position item before c.want.new.self c.give.new.self c.in-Some.answer c.give.ensures.given
    (want_carries position item before c.args.desk.now c.want.new.self c.in-Ok.want c.in-Ok.ensures.ok is)
