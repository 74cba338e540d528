-- What the machine answers is what is found.
use Rattle.ak_run.proofs.LookUps.{looks_in_time, looks_so}
use Rattle.ak_run.proofs.finding.look_up_at_turn.Goals as goal

pub returns-clause-found : goal.returns-clause-found
returns-clause-found c =
    let roster = c.heads.ensures.is_roster in
    looks_so c.args.book.now c.find.new.self c.args.clock.now c.find.new.clock c.requires.main c.args.word.now roster.heads roster.history c.find.result c.find.ensures.answer c.find.ensures.entry c.find.ensures.stays

pub returns-clause-in_time : goal.returns-clause-in_time
returns-clause-in_time c =
    let roster = c.heads.ensures.is_roster in
    looks_in_time c.args.book.now c.find.new.self c.args.clock.now c.find.new.clock c.requires.main c.args.word.now roster.heads roster.history c.find.result c.find.ensures.entry c.find.ensures.stays
