-- The new seats have a new name, and with it all names are below the next number.
use Rattle.std.proofs.Common.{ap}
use Rattle.kit_bench.proofs.Naming.{named_on}
use Rattle.kit_bench.proofs.hands.split_off.Goals as goal

pub returns-clause-port_names : goal.returns-clause-port_names
returns-clause-port_names c = named_on c.args.number c.args.head.now.at_port.names _ c.requires.port_names (ap (λ s. s.names) c.split-at_port.ensures.old)

pub returns-clause-book_names : goal.returns-clause-book_names
returns-clause-book_names c = named_on c.args.number c.args.head.now.at_book.names _ c.requires.book_names (ap (λ s. s.names) c.split-at_book.ensures.old)
