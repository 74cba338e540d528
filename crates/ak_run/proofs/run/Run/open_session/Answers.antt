-- Room is made, and nothing else is changed before the session is there.
use Rattle.std.proofs.Common.{refl}
use Rattle.ak_run.proofs.OpenedSlots.{does_nothing, reserved_running}
use Rattle.ak_run.proofs.run.Run.open_session.Goals as goal

pub returns-in_err-reserve-clause-did : goal.returns-in_err-reserve-clause-did
returns-in_err-reserve-clause-did c = does_nothing c.args.self.now _ refl refl refl refl

pub returns-in_err-reserve-clause-running : goal.returns-in_err-reserve-clause-running
returns-in_err-reserve-clause-running c =
    let room = c.reserve.ensures in
    reserved_running c.args.self.now _ (record { apps = refl; hands = refl; shared = refl; roster_seat = refl; members = refl; joined = refl; ports = refl; desks = refl }) room.sessions room.ways room.never_falls c.requires.running

pub returns-in_err-shared-clause-did : goal.returns-in_err-shared-clause-did
returns-in_err-shared-clause-did c = does_nothing c.args.self.now _ refl refl refl refl

pub returns-in_err-shared-clause-running : goal.returns-in_err-shared-clause-running
returns-in_err-shared-clause-running c =
    let room = c.reserve.ensures in
    reserved_running c.args.self.now _ (record { apps = refl; hands = refl; shared = refl; roster_seat = refl; members = refl; joined = refl; ports = refl; desks = refl }) room.sessions room.ways room.never_falls c.requires.running

pub add_session-requires-clause-running : goal.add_session-requires-clause-running
add_session-requires-clause-running c =
    let room = c.reserve.ensures in
    reserved_running c.args.self.now _ (record { apps = refl; hands = refl; shared = refl; roster_seat = refl; members = refl; joined = refl; ports = refl; desks = refl }) room.sessions room.ways room.never_falls c.requires.running
