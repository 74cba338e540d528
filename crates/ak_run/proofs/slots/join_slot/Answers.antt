-- Main's seats take in what its seats knew.
use Rattle.std.proofs.Common.{Option, is_some, refl, sym, ap, ◌∙◌}
use Rattle.ak_session.specs.declared.session.Session.{Session}
use Rattle.ak_gather.proofs.Surface.{some_same, goes_on_knowing, took}
use Rattle.ak_run.proofs.slots.join_slot.Goals as goal

pub closed_with-hands-requires : goal.closed_with-hands-requires
closed_with-hands-requires c = ap (λ (o : Option Session). is_some o) c.requires.closed.closed

pub join-requires-clause-of : goal.join-requires-clause-of
join-requires-clause-of c =
    let is = c.requires.closed in
    let same = some_same is.session c.closed_with-hands.result (sym is.closed ∙ c.closed_with-hands.ensures) in
    (c.requires.roster_of, ap (λ (s : Session). s.roster_seat.lock) (sym same) ∙ is.at_roster)

pub join-requires-2-clause-of : goal.join-requires-2-clause-of
join-requires-2-clause-of c =
    let is = c.requires.closed in
    let same = some_same is.session c.closed_with-hands.result (sym is.closed ∙ c.closed_with-hands.ensures) in
    (c.requires.book_of, ap (λ (s : Session). s.hands.book_seat.lock) (sym same) ∙ is.at_book)

pub returns : goal.returns
returns c =
    let s = c.closed_with-hands.result in
    record {
      joined = record {
        session = s;
        closed = c.closed_with-hands.ensures;
        ways_are = refl;
        at_roster = took c.args.roster_seat.now s.roster_seat c.join.new.seat c.join.ensures;
        at_book = took c.args.book_seat.now s.hands.book_seat c.join-2.new.seat c.join-2.ensures;
      };
      roster = goes_on_knowing c.args.roster_seat.now s.roster_seat c.join.new.seat c.join.ensures;
      book = goes_on_knowing c.args.book_seat.now s.hands.book_seat c.join-2.new.seat c.join-2.ensures;
    }
