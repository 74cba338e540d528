-- A hey line is told by its first bad word, or by the limit that its message passes.
use Rattle.ak_script.proofs.Faulting.{first_bad_is_told, long_heys_are_limits}
use Rattle.ak_script.proofs.laws.hey_faults_are_told.Goals as goal

pub returns-clause-first_bad : goal.returns-clause-first_bad
returns-clause-first_bad c = first_bad_is_told c.hey_lines_are_read.ensures.said c.hey_lines_are_read.ensures.refused

pub returns-clause-limit : goal.returns-clause-limit
returns-clause-limit c = long_heys_are_limits c.hey_lines_are_read.ensures.said c.hey_lines_are_read.ensures.refused
