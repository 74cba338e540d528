use Rattle.ak_kit.proofs.Counting.{few_handlers, few_loopers}
use Rattle.ak_kit.proofs.summary.summary.Goals as goal

pub count_loopers-requires : goal.count_loopers-requires
count_loopers-requires c = rw c.deref.ensures.value (few_loopers c.args.script.now.apps.items c.requires)

pub count_handlers-requires : goal.count_handlers-requires
count_handlers-requires c = rw c.deref-2.ensures.value (few_handlers c.plans_are_whole.ensures c.args.script.now.apps.items c.requires)

pub count_lines-requires : goal.count_lines-requires
count_lines-requires c = rw c.deref-3.ensures.value c.args.script.now.few
