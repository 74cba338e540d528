-- Who has no door to a looper has no part of what it leads to, and gets one.
use Rattle.std.proofs.Common.{◌∙◌, ℕ, List, [], ◌∷◌, ◌++◌, refl, ap, arith}
use Rattle.ak_base.specs.declared.thread.ThreadId.{ThreadId}
use Rattle.ak_looper.specs.declared.door.Door.{Door}
use Rattle.ak_looper.proofs.Kept.{no_number}
use Rattle.ak_looper.proofs.Opening.{lacks_door, last_there, looked_at_nothing, on_err, opens_door, threads_push}
use Rattle.ak_looper.proofs.Strangers.{may_get_door}
use Rattle.ak_looper.proofs.reach.Reach.open.Goals as goal

pub get_door-requires-clause-may : goal.get_door-requires-clause-may
get_door-requires-clause-may g c =
    let r = c.args.self.now in
    let s = c.requires.stands in
    may_get_door c.loopers_are_of_their_teams.ensures.owns c.holders_are_told.ensures.strangers c.seats_tell_strangers.ensures.entries s.facts s.start s.steps r c.args.looper s.stands (r.roster_thread ∙ r.looper) c.requires.other
    (no_number c.args.looper r.doors.items c.requires.without)

pub returns-in_err-reserve-clause-lacks : goal.returns-in_err-reserve-clause-lacks
returns-in_err-reserve-clause-lacks g c l start so_far stands =
    let r = c.args.self.now in
    on_err c.from_residual.result _
    (lacks_door l start so_far r _ c.args.looper stands (record { number = refl; team = refl; first = refl; loopers = refl; book_seat = refl; port_seat = refl }) c.reserve.ensures.items (looked_at_nothing r.hands.clock r.roster_seat)
    c.requires.other (no_number c.args.looper r.doors.items c.requires.without))

pub returns-in_err-door-clause-lacks : goal.returns-in_err-door-clause-lacks
returns-in_err-door-clause-lacks g c l start so_far stands =
    let r = c.args.self.now in
    on_err c.from_residual-in_err-door.result _
    (lacks_door l start so_far r _ c.args.looper stands (record { number = refl; team = refl; first = refl; loopers = refl; book_seat = refl; port_seat = refl }) c.reserve.ensures.items c.in_err-door.ensures.err
    c.requires.other (no_number c.args.looper r.doors.items c.requires.without))

pub invariant_of-self-3-clause-doors_thread : goal.invariant_of-self-3-clause-doors_thread
invariant_of-self-3-clause-doors_thread g c =
    let r = c.args.self.now in
    threads_push r.hands.clock.thread.0 c.get_door.new.clock.thread.0 r.roster_seat.thread c.get_door.new.seat.thread r.doors.items c.reserve.new.self.items c.push_reserved.new.self.items c.args.looper
    c.in_ok-door.door (ap (λ (t : ThreadId). t.0) c.get_door.ensures.clock) c.reserve.ensures.items c.push_reserved.ensures.items r.doors_thread
    c.in_ok-door.ensures.part.new.at_port c.get_door.ensures.seat.thread r.roster_thread

pub returns-clause-goes : goal.returns-clause-goes
returns-clause-goes g c l start so_far stands =
    let r = c.args.self.now in
    let door = c.in_ok-door.door in
    opens_door l start so_far r _ c.args.looper door stands (record { number = refl; team = refl; first = refl; loopers = refl; book_seat = refl; port_seat = refl })
    (c.push_reserved.ensures.items ∙ ap (λ (ds : List (ℕ × Door)). ds ++ (c.args.looper, door) ∷ []) c.reserve.ensures.items) c.in_ok-door.ensures.got c.in_ok-door.ensures.part c.requires.other
    (no_number c.args.looper r.doors.items c.requires.without) door.port_of door.desk_of

pub returns-clause-way : goal.returns-clause-way
returns-clause-way g c = (omega arith, last_there c.reserve.new.self.items c.push_reserved.new.self.items c.len-place.result c.args.looper c.in_ok-door.door c.push_reserved.ensures.items (omega arith), c.requires.other)
