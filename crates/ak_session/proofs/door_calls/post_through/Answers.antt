-- One turn at the port is one call.
use Rattle.ak_messenger.specs.Sends.{post_event}
use Rattle.ak_port.specs.PortCalls.{by_number}
use Rattle.ak_port.proofs.Surface.{answered_at_turn}
use Rattle.ak_turn.proofs.Surface.{turn_keeps}
use Rattle.ak_session.proofs.door_calls.post_through.Goals as goal

pub returns-clause-answered : goal.returns-clause-answered
returns-clause-answered g c =
    let seat = c.args.door.now.port_seat in
    let sent = c.post_at_turn in
    answered_at_turn (post_event c.args.envelope c.args.message.now sent.result) c.args.hands.now.clock sent.new.clock seat c.lock-turn.new.seat sent.new.seat c.args.door.now.port_idle c.requires.thread c.lock-turn.ensures.seen sent.ensures.answered

pub returns-clause-port_seat : goal.returns-clause-port_seat
returns-clause-port_seat g c = turn_keeps by_number c.args.door.now.port_seat c.lock-turn.new.seat c.post_at_turn.new.seat c.args.door.now.port_idle c.lock-turn.ensures.seen c.post_at_turn.ensures.seat
