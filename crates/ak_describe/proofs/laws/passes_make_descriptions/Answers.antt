-- Both passes make what lines describe.
use Rattle.ak_describe.proofs.answered.Prefixes.{both_make_it, faults_stay, goes_line_by_line}
use Rattle.ak_describe.proofs.laws.passes_make_descriptions.Goals as goal

pub returns : goal.returns
returns c = record { line_by_line = goes_line_by_line; faults_stay = faults_stay; both = both_make_it }
