use Rattle.ak_describe.specs.Whole.{heads_of}
use Rattle.ak_diary.specs.Wants.{AsksInVain}
use Rattle.ak_session.specs.Doing.{address_of}
use Rattle.ak_lines.specs.Blocks.{hey_item}
use Rattle.ak_play.proofs.Finding.{hey_came, no_find_came}
use Rattle.ak_play.proofs.asking.hey.Goals as goal

pub returns-in-Team-clause-did : goal.returns-in-Team-clause-did
returns-in-Team-clause-did g c =
    let team = c.in-Team in
    hey_came (heads_of c.args.run.now.apps.items) c.args.hey.now team.team team.first team.loopers team.place team.ensures.started.0 c.ask_looper.result c.args.run.now c.find.new.self c.ask_looper.new.run team.ensures.did c.ask_looper.ensures.did

pub returns-in-NoMemory-clause-did : goal.returns-in-NoMemory-clause-did
returns-in-NoMemory-clause-did g c =
    let h = c.args.hey.now in
    no_find_came (heads_of c.args.run.now.apps.items) h.app 0 (λ looper. AsksInVain (address_of looper (hey_item h)) (hey_item h)) c.args.run.now c.find.new.self c.in-NoMemory.ensures.did
