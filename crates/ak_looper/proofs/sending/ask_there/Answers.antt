-- The entries of the ask, as steps.
use Rattle.ak_looper.proofs.Sendings.{asks_so}
use Rattle.ak_looper.proofs.sending.ask_there.Goals as goal

pub returns-clause-does : goal.returns-clause-does
returns-clause-does g c =
    let sent = c.ask-sent in
    asks_so c.args.to c.args.team c.args.message.now c.envelope.result sent.result c.heard_of_ask.result c.args.hands.now.clock sent.new.hands.clock c.args.hands.now.book_seat sent.new.hands.book_seat c.args.seat.now sent.new.seat
    c.envelope.ensures c.heard_of_ask.ensures sent.ensures.too_long sent.ensures.message sent.ensures.answered
