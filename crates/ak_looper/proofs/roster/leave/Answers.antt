-- The entry, or the look that found the team gone.
use Rattle.std.proofs.Common.{◌∙◌, Some, ap, sym}
use Rattle.ak_roster.specs.Roster.{RosterData}
use Rattle.ak_looper.specs.declared.kept_door.KeptDoor.{KeptDoor}
use Rattle.ak_looper.specs.Rosters.{Object}
use Rattle.ak_looper.proofs.RosterTurns.{left_by_turn}
use Rattle.ak_looper.proofs.roster.leave.Goals as goal

pub returns-clause-left : goal.returns-clause-left
returns-clause-left g c =
    let turn = c.lock-turn.ensures in
    let book = c.book.ensures.value in
    let gone = c.gone.ensures in
    left_by_turn c.args.seat.now c.lock-turn.new.seat c.finish.new.seat c.book.result.now c.gone.new.self c.args.clock.now c.gone.new.clock c.requires.idle c.requires.thread turn.seen
    (ap (λ (r : RosterData KeptDoor Object). r.entries) book ∙ turn.list) (turn.opening ∙ ap (λ (r : RosterData KeptDoor Object). Some r.heads) (sym book)) c.finish.ensures.same c.finish.ensures.entered
    c.args.team c.gone.result gone.answer gone.entry gone.stays
