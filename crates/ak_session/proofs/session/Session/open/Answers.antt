-- A session that has no door to a looper has no part of what it leads to, and gets one.
use Rattle.std.proofs.Common.{◌∙◌, ℕ, List, [], ◌∷◌, ◌++◌, refl, ap, arith}
use Rattle.ak_base.specs.declared.thread.ThreadId.{ThreadId}
use Rattle.ak_looper.specs.declared.door.Door.{Door}
use Rattle.ak_looper.proofs.Surface.{last_there, looked_at_nothing, no_number, on_err, threads_push}
use Rattle.ak_session.proofs.Opened.{lacks_door, may_get_door, opens_door}
use Rattle.ak_session.proofs.session.Session.open.Goals as goal

pub get_door-requires-clause-may : goal.get_door-requires-clause-may
get_door-requires-clause-may g c =
    let s = c.args.self.now in
    let is = c.requires.standing in
    may_get_door c.holders_are_told.ensures.strangers c.seats_tell_strangers.ensures.entries is.heads is.start is.steps s c.args.looper is.stands s.roster_thread (no_number c.args.looper s.doors.items c.requires.without)

pub returns-in_err-reserve-clause-lacks : goal.returns-in_err-reserve-clause-lacks
returns-in_err-reserve-clause-lacks g c heads start so_far stands =
    let s = c.args.self.now in
    on_err c.from_residual.result _
    (lacks_door heads start so_far s _ c.args.looper stands refl (no_number c.args.looper s.doors.items c.requires.without) c.reserve.ensures.items (looked_at_nothing s.hands.clock s.roster_seat))

pub returns-in_err-door-clause-lacks : goal.returns-in_err-door-clause-lacks
returns-in_err-door-clause-lacks g c heads start so_far stands =
    let s = c.args.self.now in
    on_err c.from_residual-in_err-door.result _
    (lacks_door heads start so_far s _ c.args.looper stands refl (no_number c.args.looper s.doors.items c.requires.without) c.reserve.ensures.items c.in_err-door.ensures.err)

pub invariant_of-self-3-clause-doors_thread : goal.invariant_of-self-3-clause-doors_thread
invariant_of-self-3-clause-doors_thread g c =
    let s = c.args.self.now in
    threads_push s.hands.clock.thread.0 c.get_door.new.clock.thread.0 s.roster_seat.thread c.get_door.new.seat.thread s.doors.items c.reserve.new.self.items c.push_reserved.new.self.items c.args.looper
    c.in_ok-door.door (ap (λ (t : ThreadId). t.0) c.get_door.ensures.clock) c.reserve.ensures.items c.push_reserved.ensures.items s.doors_thread
    c.in_ok-door.ensures.part.new.at_port c.get_door.ensures.seat.thread s.roster_thread

pub returns-clause-goes : goal.returns-clause-goes
returns-clause-goes g c heads start so_far stands =
    let s = c.args.self.now in
    let door = c.in_ok-door.door in
    opens_door heads start so_far s _ c.args.looper stands refl (no_number c.args.looper s.doors.items c.requires.without) door
    (c.push_reserved.ensures.items ∙ ap (λ (ds : List (ℕ × Door)). ds ++ (c.args.looper, door) ∷ []) c.reserve.ensures.items) c.in_ok-door.ensures.got c.in_ok-door.ensures.part door.port_of door.desk_of

pub returns-clause-way : goal.returns-clause-way
returns-clause-way g c = (omega arith, last_there c.reserve.new.self.items c.push_reserved.new.self.items c.len-place.result c.args.looper c.in_ok-door.door c.push_reserved.ensures.items (omega arith))
