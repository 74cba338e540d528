use Rattle.ak_turn.specs.Entries.{maker}
use Rattle.ak_turn.proofs.NewSeats.{first_knows, split_knows, split_head_knows}
use Rattle.ak_turn.proofs.laws.new_seats_know.Goals as goal

pub returns-clause-first : goal.returns-clause-first
returns-clause-first g c = first_knows (maker g.B.Book.plain g.B.Book.by)

pub returns-clause-split : goal.returns-clause-split
returns-clause-split g c = split_knows (maker g.B.Book.plain g.B.Book.by)

pub returns-clause-split_head : goal.returns-clause-split_head
returns-clause-split_head g c = split_head_knows (maker g.B.Book.plain g.B.Book.by)
