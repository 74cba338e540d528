-- What the write came to in its turn, as it was before the turn was given.
use Rattle.ak_port.specs.PortCalls.{write_entry}
use Rattle.ak_port.proofs.Surface.{answered_at_turn}
use Rattle.ak_looper.proofs.Sendings.{replies_so}
use Rattle.ak_looper.proofs.sending.reply_there.Goals as goal

pub returns-clause-does : goal.returns-clause-does
returns-clause-does g c looper =
    let sent = c.write_at_turn in
    replies_so looper c.args.hands.now.clock sent.new.clock c.args.hands.now.book_seat c.args.seat.now sent.new.seat c.args.item sent.result c.was_posted.result c.was_posted.ensures
    (answered_at_turn (write_entry sent.result c.args.item) c.args.hands.now.clock sent.new.clock c.args.seat.now c.lock-turn.new.seat sent.new.seat c.requires.idle c.requires.thread c.lock-turn.ensures.seen sent.ensures.answered)

pub returns-clause-taking : goal.returns-clause-taking
returns-clause-taking g c thread room can = c.write_at_turn.ensures.taking thread room c.args.seat.now can c.lock-turn.ensures.seen
