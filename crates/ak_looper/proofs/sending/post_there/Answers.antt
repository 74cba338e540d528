-- What the post came to in its turn, as it was before the turn was given.
use Rattle.ak_port.proofs.Surface.{answered_at_turn}
use Rattle.ak_messenger.specs.Sends.{post_event}
use Rattle.ak_looper.proofs.Sendings.{posts}
use Rattle.ak_looper.proofs.sending.post_there.Goals as goal

pub returns-clause-does : goal.returns-clause-does
returns-clause-does g c =
    let sent = c.post_at_turn-sent in
    posts c.args.to c.args.message.now c.args.hands.now.clock sent.new.clock c.args.hands.now.book_seat c.args.seat.now sent.new.seat c.args.team c.args.back c.envelope.result sent.result c.heard_of_post.result
    c.envelope.ensures c.heard_of_post.ensures sent.ensures.too_long
    (answered_at_turn (post_event c.envelope.result c.args.message.now sent.result) c.args.hands.now.clock sent.new.clock c.args.seat.now c.lock-turn.new.seat sent.new.seat c.requires.idle c.requires.thread c.lock-turn.ensures.seen sent.ensures.answered)

pub returns-clause-taking : goal.returns-clause-taking
returns-clause-taking g c thread room can = c.post_at_turn-sent.ensures.taking thread room c.args.seat.now can c.lock-turn.ensures.seen
