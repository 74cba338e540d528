-- What was found in the turn, and that a team that is found has loopers.
use Rattle.std.proofs.Common.{◌∙◌, Some, ap, sym}
use Rattle.ak_roster.specs.Roster.{RosterData, plain_entries}
use Rattle.ak_looper.specs.declared.kept_door.KeptDoor.{KeptDoor}
use Rattle.ak_looper.specs.Rosters.{Object}
use Rattle.ak_session.proofs.LookedUp.{found_by_turn}
use Rattle.ak_session.proofs.Teams.{found_loopers}
use Rattle.ak_session.proofs.finding.look_up.Goals as goal

pub returns-clause-found : goal.returns-clause-found
returns-clause-found g c =
    let turn = c.lock-turn.ensures in
    let book = c.book-kept.ensures.value in
    let found = c.find-found.ensures in
    found_by_turn c.args.seat.now c.lock-turn.new.seat c.finish.new.seat c.book-kept.result.now c.find-found.new.self c.args.clock.now c.find-found.new.clock c.requires.idle c.requires.thread turn.seen
    (ap (λ (r : RosterData KeptDoor Object). r.entries) book ∙ turn.list) (turn.opening ∙ ap (λ (r : RosterData KeptDoor Object). Some r.heads) (sym book)) c.finish.ensures.same c.finish.ensures.entered
    c.args.word.now c.find-found.result found.answer found.entry found.stays

pub returns-clause-loopers : goal.returns-clause-loopers
returns-clause-loopers g c =
    let book = c.book-kept.result.now in
    let roster = c.heads.ensures.is_roster in
    found_loopers book.heads roster.heads (plain_entries book.entries) roster.history c.args.word.now c.find-found.result c.find-found.ensures.answer
