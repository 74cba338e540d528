use Rattle.std.proofs.Common.{◌+◌, refl}
use Rattle.ak_lines.specs.Blocks.{CutsPost, IsNothing, IsPostLine}
use Rattle.ak_lines.proofs.Finding.{no_find_came, no_looper_came, no_team_came, post_came}
use Rattle.ak_lines.proofs.posting.post.Goals as goal

pub returns-then-post-loopers-clause-goes : goal.returns-then-post-loopers-clause-goes
returns-then-post-loopers-clause-goes g c heads start so_far stands =
    let team = c.in-Team in
    let p = c.args.post.now in
    post_came heads p team.team team.first team.loopers team.place c.if-post-loopers.true (team.first + p.looper) refl c.post_to.result start so_far c.find.new.self c.post_to.new.session
    (team.ensures.goes heads start so_far stands) (λ now at. c.post_to.ensures.goes heads start now at)

pub returns-else-post-loopers-clause-goes : goal.returns-else-post-loopers-clause-goes
returns-else-post-loopers-clause-goes g c heads start so_far stands =
    let team = c.in-Team in
    let p = c.args.post.now in
    no_looper_came heads p.app start so_far c.find.new.self (IsPostLine heads so_far p) (CutsPost heads so_far p) team.place c.no_looper.result team.team team.first team.loopers p.looper c.if-post-loopers.false (λ xs none. none) c.no_looper.ensures.outcome c.no_looper.ensures.told
    (team.ensures.goes heads start so_far stands)

pub returns-in-NoTeam-clause-goes : goal.returns-in-NoTeam-clause-goes
returns-in-NoTeam-clause-goes g c heads start so_far stands =
    let p = c.args.post.now in
    no_team_came heads p.app start so_far c.find.new.self (IsPostLine heads so_far p) (CutsPost heads so_far p) c.in-NoTeam.place c.no_team.result (λ xs none. none) c.no_team.ensures.outcome c.no_team.ensures.told (c.in-NoTeam.ensures.goes heads start so_far stands)

pub returns-in-NoMemory-clause-goes : goal.returns-in-NoMemory-clause-goes
returns-in-NoMemory-clause-goes g c heads start so_far stands =
    no_find_came heads c.args.post.now.app start so_far c.find.new.self c.args.post.now.looper (λ k. IsNothing) (c.in-NoMemory.ensures.goes heads start so_far stands)
