-- In its turn the thread has no part of what the door leads to, as it had none before.
use Rattle.std.proofs.Common.{◌∙◌, Some, ap, sym}
use Rattle.ak_roster.specs.Roster.{RosterData}
use Rattle.ak_looper.specs.declared.kept_door.KeptDoor.{KeptDoor}
use Rattle.ak_looper.specs.Rosters.{Object}
use Rattle.ak_looper.proofs.Granting.{got_by_turn, lacks_by_turn, may_by_turn, none_by_turn, part_by_turn}
use Rattle.ak_looper.proofs.RosterTurns.{stranger_at_turn}
use Rattle.ak_looper.proofs.roster.try_door.Goals as goal

pub grant-door-requires-clause-thread : goal.grant-door-requires-clause-thread
grant-door-requires-clause-thread g c =
    let turn = c.lock-turn.ensures in
    let book = c.book-kept.ensures.value in
    stranger_at_turn c.args.looper c.args.seat.now c.lock-turn.new.seat c.book-kept.result.now c.args.clock.now turn.seen (ap (λ (r : RosterData KeptDoor Object). r.entries) book ∙ turn.list)
    (turn.opening ∙ ap (λ (r : RosterData KeptDoor Object). Some r.heads) (sym book)) c.requires.thread c.requires.may c.heads.ensures.is_roster.history

pub returns-clause-part : goal.returns-clause-part
returns-clause-part g c =
    let turn = c.lock-turn.ensures in
    let given = c.grant-door.ensures in
    part_by_turn c.args.seat.now c.lock-turn.new.seat c.finish.new.seat c.book-kept.result.now c.grant-door.new.self c.args.clock.now c.grant-door.new.clock c.requires.idle c.requires.thread turn.seen
    (ap (λ (r : RosterData KeptDoor Object). r.entries) c.book-kept.ensures.value ∙ turn.list) c.args.looper c.finish.ensures.entered _ _ c.grant-door.result given.part given.object given.entry

pub returns-clause-got : goal.returns-clause-got
returns-clause-got g c =
    let turn = c.lock-turn.ensures in
    got_by_turn c.args.seat.now c.lock-turn.new.seat c.finish.new.seat c.book-kept.result.now c.grant-door.new.self c.args.clock.now c.grant-door.new.clock c.requires.idle c.requires.thread turn.seen
    (ap (λ (r : RosterData KeptDoor Object). r.entries) c.book-kept.ensures.value ∙ turn.list) c.args.looper c.finish.ensures.entered c.grant-door.result c.grant-door.ensures.entry

pub returns-clause-none : goal.returns-clause-none
returns-clause-none g c =
    let turn = c.lock-turn.ensures in
    none_by_turn c.args.seat.now c.lock-turn.new.seat c.finish.new.seat c.book-kept.result.now c.grant-door.new.self c.args.clock.now c.grant-door.new.clock c.requires.idle c.requires.thread turn.seen
    (ap (λ (r : RosterData KeptDoor Object). r.entries) c.book-kept.ensures.value ∙ turn.list) c.args.looper c.finish.ensures.same c.grant-door.result c.grant-door.ensures.stays

pub returns-clause-err : goal.returns-clause-err
returns-clause-err g c =
    let turn = c.lock-turn.ensures in
    lacks_by_turn c.args.seat.now c.lock-turn.new.seat c.finish.new.seat c.book-kept.result.now c.grant-door.new.self c.args.clock.now c.grant-door.new.clock c.requires.idle c.requires.thread turn.seen
    (ap (λ (r : RosterData KeptDoor Object). r.entries) c.book-kept.ensures.value ∙ turn.list) c.args.looper c.finish.ensures.same c.grant-door.result c.grant-door.ensures.stays

pub returns-clause-may : goal.returns-clause-may
returns-clause-may g c =
    let turn = c.lock-turn.ensures in
    may_by_turn c.args.seat.now c.lock-turn.new.seat c.finish.new.seat c.book-kept.result.now c.grant-door.new.self c.args.clock.now c.grant-door.new.clock c.requires.idle c.requires.thread turn.seen
    (ap (λ (r : RosterData KeptDoor Object). r.entries) c.book-kept.ensures.value ∙ turn.list) c.args.looper c.finish.ensures.same c.grant-door.result c.grant-door.ensures.stays
