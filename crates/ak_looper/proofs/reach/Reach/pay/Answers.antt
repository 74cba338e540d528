-- Each debt is paid in its way.
use Rattle.ak_looper.proofs.Going.{keeps_all}
use Rattle.ak_looper.proofs.Paying.{pays_back, pays_none, pays_nothing, pays_text}
use Rattle.ak_looper.proofs.reach.Reach.pay.Goals as goal

pub returns-in-Nothing-clause-goes : goal.returns-in-Nothing-clause-goes
returns-in-Nothing-clause-goes g c l start so_far stands = pays_nothing l start so_far c.args.debt c.args.self.now c.in-Nothing.is stands

pub returns-in-Nothing-clause-keeps : goal.returns-in-Nothing-clause-keeps
returns-in-Nothing-clause-keeps g c = keeps_all c.args.self.now

pub returns-in-Text-clause-goes : goal.returns-in-Text-clause-goes
returns-in-Text-clause-goes g c l start so_far stands =
    pays_text l start so_far c.args.debt c.fill_with.new.self c.in-Text.slot c.in-Text.flat c.in-Text.is (c.fill_with.ensures.goes l start so_far stands)

pub returns-in-NoReply-clause-goes : goal.returns-in-NoReply-clause-goes
returns-in-NoReply-clause-goes g c l start so_far stands =
    pays_none l start so_far c.args.debt c.fill_with_none.new.self c.in-NoReply.slot c.in-NoReply.is (c.fill_with_none.ensures.goes l start so_far stands)

pub returns-in-Back-clause-goes : goal.returns-in-Back-clause-goes
returns-in-Back-clause-goes g c l start so_far stands =
    pays_back l start so_far c.args.debt c.post_back.new.self c.in-Back.to c.in-Back.item c.post_back.result c.in-Back.is (c.post_back.ensures.goes l start so_far stands)
