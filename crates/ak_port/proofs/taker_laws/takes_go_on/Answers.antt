use Rattle.ak_port.proofs.PortTaken.{kept_at_turn, kept_taken, takes_more, taken_stays, taken_then_pending}
use Rattle.ak_port.proofs.PortTold.{taken_are_counted, takes_are_told}
use Rattle.ak_port.proofs.taker_laws.takes_go_on.Goals as goal

pub returns-clause-more : goal.returns-clause-more
returns-clause-more c = takes_more

pub returns-clause-others : goal.returns-clause-others
returns-clause-others c = taken_stays

pub returns-clause-own : goal.returns-clause-own
returns-clause-own c = kept_taken

pub returns-clause-at_turn : goal.returns-clause-at_turn
returns-clause-at_turn c = kept_at_turn

pub returns-clause-pending : goal.returns-clause-pending
returns-clause-pending c = taken_then_pending

pub returns-clause-told : goal.returns-clause-told
returns-clause-told c = takes_are_told

pub returns-clause-counted : goal.returns-clause-counted
returns-clause-counted c = taken_are_counted
