use Rattle.std.proofs.Common.{◌+◌, refl}
use Rattle.ak_describe.specs.Whole.{heads_of}
use Rattle.ak_lines.specs.Blocks.{IsNothing}
use Rattle.ak_play.proofs.Finding.{lock_came, no_find_came}
use Rattle.ak_play.proofs.locking.lock.Goals as goal

pub returns-then-lock-loopers-clause-did : goal.returns-then-lock-loopers-clause-did
returns-then-lock-loopers-clause-did g c =
    let team = c.in-Team in
    lock_came (heads_of c.args.run.now.apps.items) c.args.lock.now team.team team.first team.loopers team.place c.if-lock-loopers.true (team.first + c.args.lock.now.looper) refl c.edit_looper.result c.args.run.now c.find.new.self c.edit_looper.new.run
    team.ensures.did c.edit_looper.ensures.did

pub returns-in-NoMemory-clause-did : goal.returns-in-NoMemory-clause-did
returns-in-NoMemory-clause-did g c =
    let l = c.args.lock.now in
    no_find_came (heads_of c.args.run.now.apps.items) l.app l.looper (λ k. IsNothing) c.args.run.now c.find.new.self c.in-NoMemory.ensures.did
