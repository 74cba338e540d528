-- It is one step at the roster: an entry, or a look.
use Rattle.std.proofs.Common.{refl, true}
use Rattle.ak_diary.specs.Turns.{LeavesRoster}
use Rattle.ak_looper.proofs.RosterStands.{goes_beside}
use Rattle.ak_looper.proofs.RosterSteps.{left_does}
use Rattle.ak_looper.proofs.reach.Reach.leave.Goals as goal

pub returns-clause-goes : goal.returns-clause-goes
returns-clause-goes g c l start so_far stands =
    let r = c.args.self.now in
    goes_beside l start so_far r _ (LeavesRoster l true) stands (record { number = refl; team = refl; first = refl; loopers = refl; book_seat = refl; port_seat = refl }) refl
    (left_does l r.team r.hands.clock c.leave.new.clock r.roster_seat c.leave.new.seat stands.team stands.heads stands.launched c.leave.ensures.left)
