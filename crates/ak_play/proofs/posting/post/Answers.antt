use Rattle.std.proofs.Common.{◌+◌, refl}
use Rattle.ak_describe.specs.Whole.{heads_of}
use Rattle.ak_lines.specs.Blocks.{IsNothing}
use Rattle.ak_play.proofs.Finding.{no_find_came, post_came}
use Rattle.ak_play.proofs.posting.post.Goals as goal

pub returns-then-post-loopers-clause-did : goal.returns-then-post-loopers-clause-did
returns-then-post-loopers-clause-did g c =
    let team = c.in-Team in
    post_came (heads_of c.args.run.now.apps.items) c.args.post.now team.team team.first team.loopers team.place c.if-post-loopers.true (team.first + c.args.post.now.looper) refl c.post_to.result c.args.run.now c.find.new.self c.post_to.new.run
    team.ensures.did c.post_to.ensures.did

pub returns-in-NoMemory-clause-did : goal.returns-in-NoMemory-clause-did
returns-in-NoMemory-clause-did g c =
    let p = c.args.post.now in
    no_find_came (heads_of c.args.run.now.apps.items) p.app p.looper (λ k. IsNothing) c.args.run.now c.find.new.self c.in-NoMemory.ensures.did
