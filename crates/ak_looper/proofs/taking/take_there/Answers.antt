use Rattle.std.proofs.Common.{◌++◌, ap, ◌∙◌}
use Rattle.ak_port.specs.PortCalls.{take_count}
use Rattle.ak_port.specs.PortMachine.{last_taken, pending_count, state_of}
use Rattle.ak_looper.proofs.Takes.{counts_one, takes_one, takes_so, the_rest}
use Rattle.ak_looper.proofs.taking.take_there.Goals as goal

pub returns-clause-took : goal.returns-clause-took
returns-clause-took g c =
    takes_so c.take.result _ _ _ _ _ c.take.ensures.answered c.take.ensures.port
    (c.take.ensures.items ∙ ap (λ l. l ++ last_taken (take_count c.take.result) (state_of c.take.new.seat.front)) c.requires.empty)

pub returns-clause-rest : goal.returns-clause-rest
returns-clause-rest g c = λ shut. the_rest c.take.result _ _ _ _ c.take.ensures.answered c.take.ensures.port shut

pub returns-clause-one : goal.returns-clause-one
returns-clause-one g c =
    takes_one c.take.result _ _ _ _ _ (returns-clause-took g c) c.take.ensures.port (pending_count (state_of c.take.new.seat.front)) c.take.ensures.count

pub returns-clause-count : goal.returns-clause-count
returns-clause-count g c =
    counts_one c.take.result _ _ _ _ _ (returns-clause-took g c) c.take.ensures.port (pending_count (state_of c.take.new.seat.front)) c.take.ensures.count
