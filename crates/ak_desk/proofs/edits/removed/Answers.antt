-- What is answered is what the edit makes.
use Rattle.std.proofs.Common.{refl, sym, subst}
use Rattle.ak_handler.specs.Changes.{remove_fault}
use Rattle.ak_desk.specs.declared.entry.Edit.TheVariants as edit
use Rattle.ak_desk.specs.declared.entry.EditAnswer.{EditAnswer}
use Rattle.ak_desk.specs.Machine.{EditsHandlers}
use Rattle.ak_desk.proofs.Editing.{done, not_done}
use Rattle.ak_desk.proofs.edits.removed.Goals as goal

pub returns-in-Ok : goal.returns-in-Ok
returns-in-Ok c =
    subst (λ (a : EditAnswer). EditsHandlers c.args.handlers.now (edit.Remove c.args.token) a c.remove.new.self) (sym c.gone.ensures)
    (done (remove_fault c.args.handlers.now c.args.token) _ c.args.handlers.now _ _ _ _ c.in-Ok.ensures.refused c.in-Ok.ensures.ok refl)

pub returns-in-Err : goal.returns-in-Err
returns-in-Err c = not_done _ (remove_fault c.args.handlers.now c.args.token) _ c.args.handlers.now _ _ _ c.in-Err.ensures.refused c.in-Err.ensures.only c.in-Err.ensures.err
