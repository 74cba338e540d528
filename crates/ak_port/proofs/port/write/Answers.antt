use Rattle.ak_port.specs.PortCalls.{by_number, entry_of, stamp_number, write_entry}
use Rattle.ak_turn.proofs.Surface.{answered_keeps}
use Rattle.ak_port.proofs.PortCalled.{refused_shown}
use Rattle.ak_port.proofs.PortTaken.{kept_taken, write_takes_nothing}
use Rattle.ak_port.proofs.PortTaking.{can_after, write_plain}
use Rattle.ak_port.proofs.port.write.Goals as goal

pub returns-clause-refused : goal.returns-clause-refused
returns-clause-refused g c = refused_shown c.write_once_free.result c.args.item _ _ _ _ c.write_once_free.ensures.answered c.write_once_free.ensures.port

pub returns-clause-seat : goal.returns-clause-seat
returns-clause-seat g c = (answered_keeps by_number stamp_number entry_of (write_entry c.write_once_free.result c.args.item) _ _ _ _ c.write_once_free.ensures.answered).0

pub returns-clause-clock : goal.returns-clause-clock
returns-clause-clock g c = (answered_keeps by_number stamp_number entry_of (write_entry c.write_once_free.result c.args.item) _ _ _ _ c.write_once_free.ensures.answered).1

pub returns-clause-taking : goal.returns-clause-taking
returns-clause-taking g c = can_after (write_entry c.write_once_free.result c.args.item) _ _ _ _ (write_plain c.write_once_free.result c.args.item) c.write_once_free.ensures.answered c.write_once_free.ensures.port

pub returns-clause-taken : goal.returns-clause-taken
returns-clause-taken g c = kept_taken (write_entry c.write_once_free.result c.args.item) _ _ _ _ c.write_once_free.ensures.answered (write_takes_nothing c.write_once_free.result c.args.item) c.write_once_free.ensures.port
