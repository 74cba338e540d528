-- What ended is one dispatch more.
use Rattle.run_lists.proofs.Counting.{ended_counts}
use Rattle.run_lists.proofs.replays.end.Goals as goal

pub invariant_of-again-2-clause-counted : goal.invariant_of-again-2-clause-counted
invariant_of-again-2-clause-counted c = ended_counts c.args.again.now.desk c.args.again.now.clock c.end-made.new.self c.args.again.now.count c.end-made.ensures.desk c.requires c.args.again.now.counted
