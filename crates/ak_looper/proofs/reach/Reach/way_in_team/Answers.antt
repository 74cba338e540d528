-- Each other looper of the team has a door there.
use Rattle.std.proofs.Common.{◌∙◌, sym}
use Rattle.ak_looper.proofs.TeamWays.{has_way, way_through}
use Rattle.ak_looper.proofs.reach.Reach.way_in_team.Goals as goal

pub unreachable-requires : goal.unreachable-requires
unreachable-requires c =
    has_way c.args.looper c.args.self.now c.requires.stands c.requires.of c.if-looper-self.false (sym c.place_of.ensures ∙ c.in-None.is)

pub returns : goal.returns
returns c =
    let doors = c.args.self.now.doors in
    let way = way_through c.args.looper c.in-Some.place doors.len doors.items doors.ok.0 (sym c.place_of.ensures ∙ c.in-Some.is) in
    (way.0, way.1, c.if-looper-self.false)
