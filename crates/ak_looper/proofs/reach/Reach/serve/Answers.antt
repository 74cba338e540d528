-- Each want is served in its own way.
use Rattle.std.proofs.Common.{sym, subst}
use Rattle.ak_action.specs.declared.answer.Want.{Want}
use Rattle.ak_diary.specs.Wants.{Serves}
use Rattle.ak_looper.specs.Stands.{GoesOn}
use Rattle.ak_looper.proofs.reach.Reach.serve.Goals as goal

pub returns-in-Find-clause-goes : goal.returns-in-Find-clause-goes
returns-in-Find-clause-goes g c l start so_far stands =
    subst (λ (w : Want). GoesOn l start so_far (Serves l so_far c.args.item.now w c.find.result) c.find.new.self) (sym c.in-Find.is) (c.find.ensures.goes l start so_far stands)

pub returns-in-Post-clause-goes : goal.returns-in-Post-clause-goes
returns-in-Post-clause-goes g c l start so_far stands =
    subst (λ (w : Want). GoesOn l start so_far (Serves l so_far c.args.item.now w c.serve_post.result) c.serve_post.new.self) (sym c.in-Post.is) (c.serve_post.ensures.goes l start so_far stands)

pub returns-in-Ask-clause-goes : goal.returns-in-Ask-clause-goes
returns-in-Ask-clause-goes g c l start so_far stands =
    subst (λ (w : Want). GoesOn l start so_far (Serves l so_far c.args.item.now w c.serve_ask.result) c.serve_ask.new.self) (sym c.in-Ask.is) (c.serve_ask.ensures.goes l start so_far stands)

pub returns-in-Forward-clause-goes : goal.returns-in-Forward-clause-goes
returns-in-Forward-clause-goes g c l start so_far stands =
    subst (λ (w : Want). GoesOn l start so_far (Serves l so_far c.args.item.now w c.serve_forward.result) c.serve_forward.new.self) (sym c.in-Forward.is) (c.serve_forward.ensures.goes l start so_far stands)
