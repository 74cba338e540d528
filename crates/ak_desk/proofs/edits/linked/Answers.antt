-- What is answered is what the edit makes.
use Rattle.std.proofs.Common.{refl}
use Rattle.ak_handler.specs.Changes.{next_fault}
use Rattle.ak_desk.proofs.Editing.{done, not_done}
use Rattle.ak_desk.proofs.edits.linked.Goals as goal

pub returns-in-Ok : goal.returns-in-Ok
returns-in-Ok c = done (next_fault c.args.handlers.now c.args.token c.args.next) _ c.args.handlers.now _ _ _ _ c.in-Ok.ensures.refused c.in-Ok.ensures.ok refl

pub returns-in-Err : goal.returns-in-Err
returns-in-Err c = not_done _ (next_fault c.args.handlers.now c.args.token c.args.next) _ c.args.handlers.now _ _ _ c.in-Err.ensures.refused c.in-Err.ensures.only c.in-Err.ensures.err
