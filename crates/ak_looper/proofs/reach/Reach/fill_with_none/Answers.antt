-- One step at the book.
use Rattle.std.proofs.Common.{refl}
use Rattle.ak_port.specs.Reply.{none_text}
use Rattle.ak_diary.specs.Turns.{Fills}
use Rattle.ak_looper.proofs.Lifting.{own_does}
use Rattle.ak_looper.proofs.Sendings.{fills_by}
use Rattle.ak_looper.proofs.reach.Reach.fill_with_none.Goals as goal

pub returns-clause-goes : goal.returns-clause-goes
returns-clause-goes g c l start so_far was =
    let r = c.args.self.now in
    own_does l start so_far r _ (record { number = refl; team = refl; first = refl; loopers = refl; roster_seat = refl }) was l.number (Fills c.args.slot none_text) refl refl
    (fills_by l.number r.hands.clock c.fill_none.new.clock r.hands.book_seat c.fill_none.new.seat r.port_seat c.args.slot none_text c.fill_none.result c.fill_none.ensures.filled c.fill_none.ensures.duplicate)
