-- An input has one of both, and one alone.
use Rattle.ak_script.proofs.Refusing.{Laws, one_of_both, never_both, one_script, one_first_refusal}
use Rattle.ak_script.proofs.laws.one_script_or_refusal.Goals as goal

pub returns : goal.returns
returns c =
    let laws : Laws = record {
      described = c.descriptions_are_read.ensures.described;
      first_fault = c.descriptions_are_read.ensures.first_fault;
      by_line = c.passes_make_descriptions.ensures.line_by_line;
      statements = c.statements_are_read.ensures;
      session_lines = c.session_lines_are_read.ensures;
      faults = c.statement_faults_are_told.ensures.alone;
      session_faults = c.statement_faults_are_told.ensures.in_sessions;
    } in
    record { either = one_of_both laws; not_both = never_both laws; one_script = one_script laws; one_refusal = one_first_refusal laws }
