use Rattle.ak_turn.specs.Entries.{maker}
use Rattle.ak_turn.proofs.Calls.{seen_then_seen, seen_then_called, known_is_made}
use Rattle.ak_turn.proofs.NewSeats.{own_is_made}
use Rattle.ak_turn.proofs.laws.fronts_go_on.Goals as goal

pub returns-clause-seen : goal.returns-clause-seen
returns-clause-seen g c = seen_then_seen (maker g.B.Book.plain g.B.Book.by)

pub returns-clause-called : goal.returns-clause-called
returns-clause-called g c = seen_then_called (maker g.B.Book.plain g.B.Book.by)

pub returns-clause-made : goal.returns-clause-made
returns-clause-made g c = known_is_made (maker g.B.Book.plain g.B.Book.by)

pub returns-clause-own : goal.returns-clause-own
returns-clause-own g c = own_is_made (maker g.B.Book.plain g.B.Book.by)
