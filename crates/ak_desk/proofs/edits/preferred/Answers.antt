-- What is answered is what the edit makes.
use Rattle.std.proofs.Common.{refl}
use Rattle.ak_handler.specs.Changes.{preferred_fault}
use Rattle.ak_desk.proofs.Editing.{done, not_done}
use Rattle.ak_desk.proofs.edits.preferred.Goals as goal

pub returns-in-Ok : goal.returns-in-Ok
returns-in-Ok c = done (preferred_fault c.args.handlers.now c.args.token) _ c.args.handlers.now _ _ _ _ c.in-Ok.ensures.refused c.in-Ok.ensures.ok refl

pub returns-in-Err : goal.returns-in-Err
returns-in-Err c = not_done _ (preferred_fault c.args.handlers.now c.args.token) _ c.args.handlers.now _ _ _ c.in-Err.ensures.refused c.in-Err.ensures.only c.in-Err.ensures.err
