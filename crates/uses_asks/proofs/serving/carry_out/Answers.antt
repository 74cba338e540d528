use Rattle.std.proofs.Common.{◌∙◌, refl}
use Rattle.uses_asks.proofs.serving.carry_out.Goals as goal

pub loop-preserved : goal.loop-preserved
loop-preserved g c =
    let on = c.if-not-goes_on.ensures in
    let so_far = c.loop.invariant in
    record {
      may = on.goes_on refl;
      carries = λ position item before is. on.carries position item before (so_far.carries position item before is);
      opening = on.opening ∙ so_far.opening;
      entries = on.entries ∙ so_far.entries;
    }

pub returns-then-not-goes_on-clause-carries : goal.returns-then-not-goes_on-clause-carries
returns-then-not-goes_on-clause-carries g c position item before is = c.goes_on.ensures.carries position item before (c.loop.invariant.carries position item before is)
