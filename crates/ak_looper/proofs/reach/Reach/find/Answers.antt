-- A look-up is one step at the roster, or none.
use Rattle.std.proofs.Common.{refl}
use Rattle.ak_diary.specs.Wants.{ServesFind}
use Rattle.ak_looper.proofs.RosterStands.{goes_beside}
use Rattle.ak_looper.proofs.RosterSteps.{found_answers, found_does}
use Rattle.ak_looper.proofs.reach.Reach.find.Goals as goal

pub returns-clause-goes : goal.returns-clause-goes
returns-clause-goes g c l start so_far stands =
    let r = c.args.self.now in
    goes_beside l start so_far r _ (ServesFind l c.args.word.now c.find.result) stands (record { number = refl; team = refl; first = refl; loopers = refl; book_seat = refl; port_seat = refl }) refl
    (found_does l c.args.word.now c.find.result r.hands.clock c.find.new.clock r.roster_seat c.find.new.seat stands.heads c.find.ensures.found)

pub returns-clause-answer : goal.returns-clause-answer
returns-clause-answer g c =
    let r = c.args.self.now in
    found_answers c.find.result c.args.word.now r.hands.clock c.find.new.clock r.roster_seat c.find.new.seat c.find.ensures.found
