-- The entry of the write, as a step.
use Rattle.ak_looper.proofs.Sendings.{forwards_so}
use Rattle.ak_looper.proofs.sending.forward_there.Goals as goal

pub returns-clause-does : goal.returns-clause-does
returns-clause-does g c looper =
    forwards_so looper c.args.hands.now.clock c.write.new.clock c.args.hands.now.book_seat c.args.seat.now c.write.new.seat c.args.item c.write.result c.heard_of_write.result
    c.heard_of_write.ensures c.write.ensures.not_full c.write.ensures.answered
