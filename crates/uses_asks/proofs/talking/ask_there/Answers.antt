-- It asked of the port that accepts one.
use Rattle.uses_asks.proofs.talking.ask_there.Goals as goal

pub returns-clause-asked : goal.returns-clause-asked
returns-clause-asked g c = record {
  from = c.args.asker.hands.clock;
  until = c.ask.new.hands.clock;
  port = c.args.asker.seat;
  book = c.args.asker.hands.book_seat;
  tells = c.in_ok-reply.ensures.answered;
  one = c.requires.one;
}
