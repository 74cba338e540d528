-- Main's seats are the heads still, and know as much as before.
use Rattle.std.proofs.Common.{refl, sym, subst}
use Rattle.ak_turn.specs.Seats.{KnowsWhole}
use Rattle.ak_port.specs.ReplySeats as books
use Rattle.ak_looper.specs.Rosters as rosters
use Rattle.ak_run.proofs.run.Run.split_seats.Goals as goal

pub returns-clause-split : goal.returns-clause-split
returns-clause-split c =
    let r = c.args.self.now in
    record {
      rest = record { apps = refl; shared = refl; joined = refl; ports = refl; desks = refl; slots = refl };
      time = refl;
      members = refl;
      book_seat = c.split-book_seat.ensures.old;
      roster_seat = c.split-roster_seat.ensures.old;
      book_known = λ known. subst (KnowsWhole books.maker_of) (sym c.split-book_seat.ensures.old) (c.new_seats_know.ensures.split r.hands.book_seat c.args.thread.0 known c.requires.book_new).1;
      roster_known = λ known. subst (KnowsWhole rosters.by_number) (sym c.split-roster_seat.ensures.old) (c.new_seats_know-2.ensures.split r.roster_seat c.args.thread.0 known c.requires.roster_new).1;
    }
