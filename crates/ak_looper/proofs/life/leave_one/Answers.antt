-- A slot is filled with the text that stands for no reply.
use Rattle.std.proofs.Common.{sym, subst}
use Rattle.ak_flatten.specs.declared.item.Duty.{Duty}
use Rattle.ak_diary.specs.Turns.{LeavesOne}
use Rattle.ak_looper.specs.Stands.{GoesOn}
use Rattle.ak_looper.proofs.life.leave_one.Goals as goal

pub returns-in-Slot-clause-goes : goal.returns-in-Slot-clause-goes
returns-in-Slot-clause-goes g c l start so_far stands =
    subst (λ (owed : Duty). GoesOn l start so_far (LeavesOne owed) c.fill_with_none.new.self) (sym c.in-Slot.is) (c.fill_with_none.ensures.goes l start so_far stands)
