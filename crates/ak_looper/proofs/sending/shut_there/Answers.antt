-- The entry of the closing, or the list that was found to be shut.
use Rattle.ak_looper.proofs.Sendings.{shuts}
use Rattle.ak_looper.proofs.sending.shut_there.Goals as goal

pub returns-clause-does : goal.returns-clause-does
returns-clause-does g c looper = shuts looper c.args.hands.now.clock c.close.new.clock c.args.hands.now.book_seat c.args.seat.now c.close.new.seat c.close.result c.close.ensures.shut c.close.ensures.answered
