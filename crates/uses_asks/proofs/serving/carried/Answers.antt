-- It ends as the message that was begun.
use Rattle.std.proofs.Common.{◌∙◌, ap}
use Rattle.ak_desk.specs.Desk.{DeskData}
use Rattle.uses_asks.proofs.Carrying.{ends_so, opens, rests, starts}
use Rattle.uses_asks.proofs.serving.carried.Goals as goal

pub returns-clause-ended : goal.returns-clause-ended
returns-clause-ended g c =
    let taken = c.args.taken.now in
    let d = c.args.desk.now in
    let begun = c.in-Ok.ensures.begun in
    let on = c.carry_out.ensures in
    ends_so c.args.clock.now c.end.new.clock taken c.end.result d c.end.new.self c.carry_out.new.desk
    (on.opening ∙ ap (λ (x : DeskData). x.opening) begun) (on.entries ∙ ap (λ (x : DeskData). x.entries) begun)
    (on.carries taken.position taken.item d.state (starts d c.begin.new.desk taken begun)) c.end.ensures.dispatched

pub returns-clause-rest : goal.returns-clause-rest
returns-clause-rest g c = rests c.carry_out.new.desk c.end.new.self c.args.clock.now c.end.ensures.desk

pub returns-clause-opening : goal.returns-clause-opening
returns-clause-opening g c =
    opens c.carry_out.new.desk c.end.new.self c.args.clock.now c.end.ensures.desk ∙ c.carry_out.ensures.opening ∙ ap (λ (x : DeskData). x.opening) c.in-Ok.ensures.begun
