use Rattle.std.proofs.Common.{◌∙◌, refl}
use Rattle.ak_looper.proofs.Going.{keeps_all, keeps_on}
use Rattle.ak_looper.proofs.desk_turn.carry_out.Goals as goal

pub loop-init : goal.loop-init
loop-init g c = record {
  may = c.requires.may;
  of = c.requires.of;
  stands = c.requires.stands;
  serves = λ facts start so_far served. served;
  opening = refl;
  entries = refl;
  keeps = keeps_all c.args.reach.now;
}

pub loop-preserved : goal.loop-preserved
loop-preserved g c =
    let on = c.if-not-goes_on.ensures in
    let so_far = c.loop.invariant in
    record {
      may = on.goes_on refl;
      of = on.of;
      stands = on.stands;
      serves = λ facts start steps served. on.serves facts start steps (so_far.serves facts start steps served);
      opening = on.opening ∙ so_far.opening;
      entries = on.entries ∙ so_far.entries;
      keeps = keeps_on c.args.reach.now c.loop.reach c.goes_on.new.reach so_far.keeps on.keeps;
    }

pub returns-then-not-goes_on-clause-serves : goal.returns-then-not-goes_on-clause-serves
returns-then-not-goes_on-clause-serves g c facts start so_far served = c.goes_on.ensures.serves facts start so_far (c.loop.invariant.serves facts start so_far served)

pub returns-then-not-goes_on-clause-keeps : goal.returns-then-not-goes_on-clause-keeps
returns-then-not-goes_on-clause-keeps g c = keeps_on c.args.reach.now c.loop.reach c.goes_on.new.reach c.loop.invariant.keeps c.goes_on.ensures.keeps
