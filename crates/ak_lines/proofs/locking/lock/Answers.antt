use Rattle.std.proofs.Common.{◌+◌, refl}
use Rattle.ak_lines.specs.Blocks.{CutsLock, IsNothing, IsLockLine}
use Rattle.ak_lines.proofs.Finding.{no_find_came, no_looper_came, no_team_came, lock_came}
use Rattle.ak_lines.proofs.locking.lock.Goals as goal

pub returns-then-lock-loopers-clause-goes : goal.returns-then-lock-loopers-clause-goes
returns-then-lock-loopers-clause-goes g c heads start so_far stands =
    let team = c.in-Team in
    let p = c.args.lock.now in
    lock_came heads p team.team team.first team.loopers team.place c.if-lock-loopers.true (team.first + p.looper) refl c.edit_looper.result start so_far c.find.new.self c.edit_looper.new.session
    (team.ensures.goes heads start so_far stands) (λ now at. c.edit_looper.ensures.goes heads start now at)

pub returns-else-lock-loopers-clause-goes : goal.returns-else-lock-loopers-clause-goes
returns-else-lock-loopers-clause-goes g c heads start so_far stands =
    let team = c.in-Team in
    let p = c.args.lock.now in
    no_looper_came heads p.app start so_far c.find.new.self (IsLockLine heads so_far p) (CutsLock heads so_far p) team.place c.no_looper.result team.team team.first team.loopers p.looper c.if-lock-loopers.false (λ xs none. none) c.no_looper.ensures.outcome c.no_looper.ensures.told
    (team.ensures.goes heads start so_far stands)

pub returns-in-NoTeam-clause-goes : goal.returns-in-NoTeam-clause-goes
returns-in-NoTeam-clause-goes g c heads start so_far stands =
    let p = c.args.lock.now in
    no_team_came heads p.app start so_far c.find.new.self (IsLockLine heads so_far p) (CutsLock heads so_far p) c.in-NoTeam.place c.no_team.result (λ xs none. none) c.no_team.ensures.outcome c.no_team.ensures.told (c.in-NoTeam.ensures.goes heads start so_far stands)

pub returns-in-NoMemory-clause-goes : goal.returns-in-NoMemory-clause-goes
returns-in-NoMemory-clause-goes g c heads start so_far stands =
    no_find_came heads c.args.lock.now.app start so_far c.find.new.self c.args.lock.now.looper (λ k. IsNothing) (c.in-NoMemory.ensures.goes heads start so_far stands)
