use Rattle.ak_input.proofs.LineLaws.{split_are, split_only, split_none}
use Rattle.ak_input.proofs.words.split_words.Goals as goal

pub returns-clause-words : goal.returns-clause-words
returns-clause-words c = split_are c.args.line.now c.split.result c.split.ensures

pub returns-clause-only : goal.returns-clause-only
returns-clause-only c = split_only c.args.line.now c.split.result c.split.ensures

pub returns-clause-none : goal.returns-clause-none
returns-clause-none c = split_none c.args.line.now c.split.result c.split.ensures
