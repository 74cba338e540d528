-- A door that is there was held to be there.
use Rattle.std.proofs.Common.{◌∙◌, sym, arith}
use Rattle.ak_looper.proofs.Surface.{there_at, within_doors}
use Rattle.ak_session.proofs.Opened.{way_is_there}
use Rattle.ak_session.proofs.session.Session.way_to.Goals as goal

pub returns-in-Some-clause-goes : goal.returns-in-Some-clause-goes
returns-in-Some-clause-goes g c heads start so_far stands = way_is_there heads start so_far c.args.self.now c.args.looper c.in-Some.place (sym c.place_of.ensures ∙ c.in-Some.is) stands

pub returns-in-Some-clause-way : goal.returns-in-Some-clause-way
returns-in-Some-clause-way g c =
    let found = sym c.place_of.ensures ∙ c.in-Some.is in
    (omega (arith, within_doors c.args.looper c.args.self.now.doors.items c.in-Some.place found), there_at c.args.looper c.args.self.now.doors.items c.in-Some.place found)
