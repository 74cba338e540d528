use Rattle.std.proofs.Common.{subst}
use Rattle.ak_flatten.specs.Item.{ItemData}
use Rattle.ak_messenger.specs.Asks.{AskTells}
use Rattle.ak_messenger.proofs.Sending.{in_any_case}
use Rattle.ak_messenger.proofs.asking.ask.Goals as goal

-- the item is that of the message with its envelope
pub returns-clause-answered : goal.returns-clause-answered
returns-clause-answered g c =
    subst (λ (item : ItemData). AskTells item c.args.hands.now.clock c.ask_by.new.h.clock c.args.hands.now.book_seat c.ask_by.new.h.book_seat c.args.seat.now c.ask_by.new.seat c.ask_by.result) c.in_ok-item.ensures.ok c.ask_by.ensures.answered

pub returns-clause-book_known : goal.returns-clause-book_known
returns-clause-book_known g c = in_any_case c.ask_by.result _ c.ask_by.ensures.book_known
