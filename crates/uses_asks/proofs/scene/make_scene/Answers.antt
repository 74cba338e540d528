-- The looper's thread may serve by its three seats.
use Rattle.uses_asks.specs.declared.scene.TheConstants.{LOOPER}
use Rattle.uses_asks.proofs.Opening.{can_serve}
use Rattle.uses_asks.proofs.scene.make_scene.Goals as goal

pub returns-clause-serves : goal.returns-clause-serves
returns-clause-serves c =
    let port = c.in_ok-port.ensures in
    let desk = c.in_ok-desk.ensures in
    can_serve _ _ _ LOOPER _ _ _ port.taker port.taking port.nothing desk.seat desk.looper desk.nothing c.in_ok-hands.ensures.filler
