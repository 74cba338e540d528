use Rattle.std.proofs.Common.{sym, subst}
use Rattle.ak_script.specs.declared.statement.SessionLine.{SessionLine}
use Rattle.ak_session.specs.Stands.{GoesOn}
use Rattle.ak_lines.specs.Blocks.{IsCutLine, IsLine}
use Rattle.ak_lines.specs.Came.{MayCome}
use Rattle.ak_lines.proofs.carrying.carry_out.Goals as goal

pub returns-in-Hey-clause-goes : goal.returns-in-Hey-clause-goes
returns-in-Hey-clause-goes g c heads start so_far stands =
    subst (λ (l : SessionLine). GoesOn heads start so_far (MayCome (IsLine heads so_far l) (IsCutLine heads so_far l) c.hey.result) c.hey.new.session) (sym c.in-Hey.is) (c.hey.ensures.goes heads start so_far stands)

pub returns-in-Post-clause-goes : goal.returns-in-Post-clause-goes
returns-in-Post-clause-goes g c heads start so_far stands =
    subst (λ (l : SessionLine). GoesOn heads start so_far (MayCome (IsLine heads so_far l) (IsCutLine heads so_far l) c.post.result) c.post.new.session) (sym c.in-Post.is) (c.post.ensures.goes heads start so_far stands)

pub returns-in-Lock-clause-goes : goal.returns-in-Lock-clause-goes
returns-in-Lock-clause-goes g c heads start so_far stands =
    subst (λ (l : SessionLine). GoesOn heads start so_far (MayCome (IsLine heads so_far l) (IsCutLine heads so_far l) c.lock.result) c.lock.new.session) (sym c.in-Lock.is) (c.lock.ensures.goes heads start so_far stands)
