-- A look-up is one step at the roster, or none.
use Rattle.std.proofs.Common.{refl}
use Rattle.ak_session.specs.Doing.{FoundSo}
use Rattle.ak_session.proofs.LookedUp.{finds, found_last, has_loopers}
use Rattle.ak_session.proofs.RosterStands.{goes_beside}
use Rattle.ak_session.proofs.Through.{still_standing}
use Rattle.ak_session.proofs.session.Session.find.Goals as goal

pub found_at-requires : goal.found_at-requires
found_at-requires g c =
    let s = c.args.self.now in
    let up = c.look_up-found in
    found_last c.args.word.now s.hands.clock up.new.clock s.roster_seat up.new.seat up.result up.ensures.found

pub returns-clause-goes : goal.returns-clause-goes
returns-clause-goes g c heads start so_far stands =
    let s = c.args.self.now in
    let up = c.look_up-found in
    goes_beside heads start so_far s _ (FoundSo heads c.args.word.now c.found_at.result) stands refl refl (finds heads s _ stands.heads_are c.args.word.now up.result c.found_at.result up.ensures.found c.found_at.ensures)

pub returns-clause-loopers : goal.returns-clause-loopers
returns-clause-loopers g c = has_loopers c.look_up-found.result _ c.found_at.result c.look_up-found.ensures.loopers c.found_at.ensures

pub returns-clause-standing : goal.returns-clause-standing
returns-clause-standing g c is = still_standing _ c.args.self.now _ is (returns-clause-goes g c)
