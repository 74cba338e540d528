-- What is read of an input is the script that it is the text of, and what is told its first refusal.
use Rattle.ak_script.proofs.Refusing.{Laws, scripts_are_read, first_refusal_is_told}
use Rattle.ak_script.proofs.laws.scripts_are_read.Goals as goal

pub returns : goal.returns
returns c =
    let laws : Laws = record {
      described = c.descriptions_are_read.ensures.described;
      first_fault = c.descriptions_are_read.ensures.first_fault;
      by_line = c.passes_make_descriptions.ensures.line_by_line;
      statements = c.statements_are_read.ensures;
      session_lines = c.session_lines_are_read.ensures;
      faults = c.statement_faults_are_told.ensures.alone;
      session_faults = c.statement_faults_are_told.ensures.in_sessions;
    } in
    record { said = scripts_are_read laws; refused = first_refusal_is_told laws }
