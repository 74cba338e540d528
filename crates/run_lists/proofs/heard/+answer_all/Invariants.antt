-- Each answer is used once.
use Rattle.std.proofs.Common.{length}
use Rattle.run_lists.proofs.heard.+answer_all.Given as goal

abbrev pub decreases-answer_all : goal.decreases-answer_all
decreases-answer_all l = length l.heard.now
