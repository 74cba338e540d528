-- What is told of words is what is wrong with them.
use Rattle.ak_script.proofs.Faulting.{statement_faults_are_told, session_faults_are_told}
use Rattle.ak_script.proofs.laws.statement_faults_are_told.Goals as goal

pub returns-clause-alone : goal.returns-clause-alone
returns-clause-alone c = statement_faults_are_told c.hey_lines_are_read.ensures.said c.hey_lines_are_read.ensures.refused

pub returns-clause-in_sessions : goal.returns-clause-in_sessions
returns-clause-in_sessions c = session_faults_are_told c.hey_lines_are_read.ensures.said c.hey_lines_are_read.ensures.refused
