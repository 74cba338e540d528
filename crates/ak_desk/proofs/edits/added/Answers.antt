-- What is answered is what the edit makes, unless there is no memory.
use Rattle.std.proofs.Common.{sym, subst}
use Rattle.ak_desk.specs.declared.entry.Edit.TheVariants as edit
use Rattle.ak_desk.specs.declared.entry.EditAnswer.{EditAnswer}
use Rattle.ak_desk.specs.Machine.{EditsHandlers}
use Rattle.ak_desk.proofs.Editing.{added_done, added_not}
use Rattle.ak_desk.proofs.edits.added.Goals as goal

pub returns-in-Ok-add : goal.returns-in-Ok-add
returns-in-Ok-add c =
    added_done c.args.handlers.now c.args.name.now c.in-Ok.name c.empty.result c.in-Ok-add.token c.add.new.self c.in-Ok.ensures c.empty.ensures
    c.in-Ok-add.ensures.refused c.in-Ok-add.ensures.token c.in-Ok-add.ensures.ok

pub returns-in-Err : goal.returns-in-Err
returns-in-Err c =
    subst (λ (a : EditAnswer). EditsHandlers c.args.handlers.now (edit.Add c.args.name.now) a c.add.new.self) (sym c.refused.ensures)
    (added_not c.args.handlers.now c.args.name.now c.in-Ok.name c.in-Err.fault c.add.new.self c.in-Ok.ensures c.in-Err.ensures.refused c.in-Err.ensures.only c.in-Err.ensures.err)
