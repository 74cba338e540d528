-- Where memory ran out before the session was opened, the run is as it was.
use Rattle.std.proofs.Common.{refl, subst, sym}
use Rattle.std.specs.Prelude.{Result}
use Rattle.std.proofs.lemmas.Result.{err_from_is_err_and}
use Rattle.ak_base.specs.declared.no_memory.NoMemory.{NoMemory}
use Rattle.ak_describe.specs.Whole.{heads_of}
use Rattle.ak_lines.specs.declared.job.SessionJob.{SessionJob}
use Rattle.ak_block.specs.Together.{HasOpened}
use Rattle.ak_block.proofs.Started.{nothing_done}
use Rattle.ak_block.proofs.blocks.open.Goals as goal

pub returns-in_err-lines-clause-opened : goal.returns-in_err-lines-clause-opened
returns-in_err-lines-clause-opened c =
    let r = c.args.run.now in
    let p = err_from_is_err_and c.from_residual.result c.from_residual.ensures.1 in
    subst (λ (res : Result SessionJob NoMemory). HasOpened (heads_of r.apps.items) c.args.lines.now res r r) (sym p.1) ((refl, nothing_done r))

pub returns-in_err-outcomes-clause-opened : goal.returns-in_err-outcomes-clause-opened
returns-in_err-outcomes-clause-opened c =
    let r = c.args.run.now in
    let p = err_from_is_err_and c.from_residual-in_err-outcomes.result c.from_residual-in_err-outcomes.ensures.1 in
    subst (λ (res : Result SessionJob NoMemory). HasOpened (heads_of r.apps.items) c.args.lines.now res r r) (sym p.1) ((refl, nothing_done r))

pub returns-in_err-tolds-clause-opened : goal.returns-in_err-tolds-clause-opened
returns-in_err-tolds-clause-opened c =
    let r = c.args.run.now in
    let p = err_from_is_err_and c.from_residual-in_err-tolds.result c.from_residual-in_err-tolds.ensures.1 in
    subst (λ (res : Result SessionJob NoMemory). HasOpened (heads_of r.apps.items) c.args.lines.now res r r) (sym p.1) ((refl, nothing_done r))
