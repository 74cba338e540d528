-- The entry of the edit, behind its door.
use Rattle.std.proofs.Common.{refl}
use Rattle.ak_session.proofs.Edits.{edits}
use Rattle.ak_session.proofs.Through.{edits_by_door, edits_without_door, still_standing}
use Rattle.ak_session.proofs.session.Session.edit.Goals as goal

pub returns-in_default-clause-goes : goal.returns-in_default-clause-goes
returns-in_default-clause-goes g c heads start so_far stands = edits_without_door heads start so_far c.args.looper _ _ (c.in_default.ensures.lacks heads start so_far stands)

pub returns-clause-goes : goal.returns-clause-goes
returns-clause-goes g c heads start so_far stands =
    let middle = c.way_to.new.self in
    let place = c.in-Ok.place in
    let made = c.edit_through in
    edits_by_door heads start so_far c.args.looper _ _ made.result middle (c.in-Ok.ensures.goes heads start so_far stands)
    (λ now at. edits heads start now middle _ c.args.looper place c.index_mut.result.now _ at refl c.in-Ok.ensures.way.1 c.index_mut.ensures.value refl refl refl made.ensures.port_seat c.args.edit made.result made.ensures.answered made.ensures.place)

pub returns-clause-standing : goal.returns-clause-standing
returns-clause-standing g c = still_standing _ c.args.self.now _ c.requires.standing (returns-clause-goes g c)

pub returns-in_default-clause-standing : goal.returns-in_default-clause-standing
returns-in_default-clause-standing g c = still_standing _ c.args.self.now _ c.requires.standing (returns-in_default-clause-goes g c)
