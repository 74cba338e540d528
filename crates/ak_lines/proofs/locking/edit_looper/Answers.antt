use Rattle.std.proofs.Common.{refl}
use Rattle.ak_lines.specs.Blocks.{IsNothing}
use Rattle.ak_lines.specs.Came.{EndsInVain}
use Rattle.ak_lines.proofs.Going.{goes_no_step, has_or_lacks}
use Rattle.ak_lines.proofs.Refusals.{edit_answered}
use Rattle.ak_lines.proofs.locking.edit_looper.Goals as goal

pub returns-in_default-clause-goes : goal.returns-in_default-clause-goes
returns-in_default-clause-goes g c heads start so_far stands = goes_no_step heads start so_far c.args.session.now (EndsInVain so_far c.args.looper) (has_or_lacks so_far c.args.looper IsNothing refl) stands

pub returns-in-Entered-clause-goes : goal.returns-in-Entered-clause-goes
returns-in-Entered-clause-goes g c heads start so_far stands =
    let entered = c.in-Entered in
    edit_answered heads start so_far c.edit.new.self c.args.lock.now c.args.looper entered.place c.in-Ok.edit entered.answer (c.in-Ok.ensures) (entered.ensures.goes heads start so_far stands)
