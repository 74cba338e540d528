use Rattle.std.proofs.Common.{◌∙◌, sym}
use Rattle.ak_port.specs.PortMachine.{LacksRoom}
use Rattle.ak_messenger.proofs.Sending.{in_any_case, wanted_so}
use Rattle.ak_messenger.proofs.posting.post.Goals as goal

pub returns-clause-known : goal.returns-clause-known
returns-clause-known g c = in_any_case c.posted.result _ c.write.ensures.known

pub returns-clause-at_port : goal.returns-clause-at_port
returns-clause-at_port g c = in_any_case c.posted.result _ c.write.ensures.port

-- the write found room
pub returns-clause-wanting : goal.returns-clause-wanting
returns-clause-wanting g c = λ is lacks. absurd (wanted_so c.write.result (¬ (LacksRoom c.write.new.seat.front)) c.write.ensures.wanting (sym c.posted.ensures ∙ is) lacks)
