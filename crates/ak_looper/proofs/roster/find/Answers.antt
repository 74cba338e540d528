-- The answer is the machine's where its entry stands.
use Rattle.std.proofs.Common.{◌∙◌, Some, ap, sym}
use Rattle.ak_roster.specs.Roster.{RosterData}
use Rattle.ak_looper.specs.declared.kept_door.KeptDoor.{KeptDoor}
use Rattle.ak_looper.specs.Rosters.{Object}
use Rattle.ak_looper.proofs.RosterTurns.{found_by_turn}
use Rattle.ak_looper.proofs.roster.find.Goals as goal

pub returns-clause-found : goal.returns-clause-found
returns-clause-found g c =
    let turn = c.lock-turn.ensures in
    let book = c.book.ensures.value in
    let found = c.find-found.ensures in
    found_by_turn c.args.seat.now c.lock-turn.new.seat c.finish.new.seat c.book.result.now c.find-found.new.self c.args.clock.now c.find-found.new.clock c.requires.idle c.requires.thread turn.seen
    (ap (λ (r : RosterData KeptDoor Object). r.entries) book ∙ turn.list) (turn.opening ∙ ap (λ (r : RosterData KeptDoor Object). Some r.heads) (sym book)) c.finish.ensures.same c.finish.ensures.entered
    c.args.word.now c.find-found.result c.heard.result c.heard.ensures found.answer found.entry found.stays
