-- One head more is that of the next application.
use Rattle.std.proofs.Common.{sym, subst}
use Rattle.std.proofs.lemmas.List.Elements.{All-get_or}
use Rattle.ak_describe.specs.Whole.{IsWholeApp}
use Rattle.ak_run.proofs.NewRun.{heads_more}
use Rattle.ak_run.proofs.run.heads_of.Goals as goal

pub head_of-requires : goal.head_of-requires
head_of-requires g = subst IsWholeApp (sym g.app-item.is) (All-get_or IsWholeApp g.args.apps.now g.loop-app.app-index g.app-item.result g.loop-app-test.true g.requires)

pub loop-app-preserved : goal.loop-app-preserved
loop-app-preserved g =
    heads_more g.args.apps.now g.loop-app.app-index g.app-item.result g.in_ok-head_of.field-0 g.loop-app.heads.items g.push.new.self.items
    g.loop-app-test.true g.app-item.is g.in_ok-head_of.ensures g.loop-app.invariant g.in_ok-push.ensures.items
