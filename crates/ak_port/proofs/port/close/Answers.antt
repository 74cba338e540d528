use Rattle.ak_port.proofs.PortTaking.{can_after, close_plain, shut_after}
use Rattle.ak_port.proofs.PortTaken.{close_takes_nothing, kept_taken}
use Rattle.ak_port.specs.PortCalls.{by_number, close_entry, entry_of, stamp_number}
use Rattle.ak_turn.proofs.Surface.{answered_keeps}
use Rattle.ak_port.proofs.port.close.Goals as goal

pub returns-clause-seat : goal.returns-clause-seat
returns-clause-seat g c = (answered_keeps by_number stamp_number entry_of (close_entry c.try_close.result) _ _ _ _ c.try_close.ensures.answered).0

pub returns-clause-clock : goal.returns-clause-clock
returns-clause-clock g c = (answered_keeps by_number stamp_number entry_of (close_entry c.try_close.result) _ _ _ _ c.try_close.ensures.answered).1

pub returns-clause-shut : goal.returns-clause-shut
returns-clause-shut g c = shut_after c.try_close.result _ _ _ _ c.try_close.ensures.answered c.try_close.ensures.already

pub returns-clause-taking : goal.returns-clause-taking
returns-clause-taking g c = can_after (close_entry c.try_close.result) _ _ _ _ (close_plain c.try_close.result) c.try_close.ensures.answered c.try_close.ensures.port

pub returns-clause-taken : goal.returns-clause-taken
returns-clause-taken g c = kept_taken (close_entry c.try_close.result) _ _ _ _ c.try_close.ensures.answered (close_takes_nothing c.try_close.result) c.try_close.ensures.port
