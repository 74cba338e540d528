-- Where it is due, it closes.
use Rattle.std.proofs.Common.{Bool, sym, subst}
use Rattle.ak_diary.specs.Turns.{ClosesIf}
use Rattle.ak_looper.specs.Stands.{GoesOn}
use Rattle.ak_looper.proofs.reach.Reach.close_if.Goals as goal

pub returns-then-due-clause-goes : goal.returns-then-due-clause-goes
returns-then-due-clause-goes g c l start so_far stands =
    subst (λ (due : Bool). GoesOn l start so_far (ClosesIf l due) c.close.new.self) (sym c.if-due.true) (c.close.ensures.goes l start so_far stands)
