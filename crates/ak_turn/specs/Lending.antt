-- What a turn ends as, once its book was lent to be changed.
use Rattle.std.specs.Prelude.{[]}
use Rattle.std.specs.Borrow.{Fml, RattleType, MutBor, Lends}
use mir.Syntax.{named}
use Rattle.ak_turn.specs.declared.book.Book.{Ghosts}
use Rattle.ak_turn.specs.contracts.turn.Turn.{the_row}
use Rattle.ak_turn.specs.Seats.{TurnData}

-- B is the book, P what the journal shows of its entries, O its opening and E its entries. `named 0` is the place of the lock's lifetime in the signature
module _ (B P O E : RattleType) (g : Ghosts B.Denot P.Denot O.Denot E.Denot) where
  -- the turn has the last book written through r
  abbrev pub lends_book : MutBor (TurnData B.Denot) → MutBor B.Denot → Fml
  lends_book t r = Lends (the_row (record { mir = named 0; lft = [] }) B P O E g) B t r (λ book. record { lock = t.now.lock; book = book })
