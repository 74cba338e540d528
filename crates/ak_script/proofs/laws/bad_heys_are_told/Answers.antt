-- What is no hey line is told where it is none.
use Rattle.ak_script.proofs.Saying.{bad_heys_are_told, bad_heys_in_sessions_are_told}
use Rattle.ak_script.proofs.laws.bad_heys_are_told.Goals as goal

pub returns-clause-alone : goal.returns-clause-alone
returns-clause-alone c = bad_heys_are_told c.hey_lines_are_read.ensures.refused

pub returns-clause-in_sessions : goal.returns-clause-in_sessions
returns-clause-in_sessions c = bad_heys_in_sessions_are_told c.hey_lines_are_read.ensures.refused
