use Rattle.ak_port.proofs.PortCalled.{knows_made}
use Rattle.ak_port.proofs.port.make.Goals as goal

-- its one entry is the maker's
pub returns-clause-known : goal.returns-clause-known
returns-clause-known c = knows_made c.in_ok-made.made.1 _ c.args.taker c.in_ok-book.book c.args.clock.now c.args.capacity c.args.life c.in_ok-book.ensures c.in_ok-made.ensures
