use Rattle.std.proofs.Common.{sym, ◌∙◌}
use Rattle.ak_journal.proofs.EntryAgain.{is_none, is_other, reads}
use Rattle.ak_journal.proofs.reading.read_entry.Goals as goal

pub returns-in_default-clause-only : goal.returns-in_default-clause-only
returns-in_default-clause-only c = λ entry is. absurd (is_none entry c.args.line.now (sym c.in_default.is ∙ c.in_ok-entry.ensures.read) is)

pub returns-in_default-clause-none : goal.returns-in_default-clause-none
returns-in_default-clause-none c = λ entry legible printed. is_none entry c.args.line.now (sym c.in_default.is ∙ c.in_ok-entry.ensures.read) (record { printed = printed; legible = legible })

pub returns-then-branch-clause-only : goal.returns-then-branch-clause-only
returns-then-branch-clause-only c = λ entry is. sym c.in-Some.is ∙ c.in_ok-entry.ensures.read ∙ reads entry c.args.line.now is

pub returns-else-branch-clause-only : goal.returns-else-branch-clause-only
returns-else-branch-clause-only c = λ entry is. absurd (is_other entry c.in-Some.entry c.args.line.now (sym c.in-Some.is ∙ c.in_ok-entry.ensures.read) (λ same. let yes = c.in_ok-is_printed_so.ensures.1 same in let no = c.if-branch.false in cc) is)

pub returns-else-branch-clause-none : goal.returns-else-branch-clause-none
returns-else-branch-clause-none c = λ entry legible printed. is_other entry c.in-Some.entry c.args.line.now (sym c.in-Some.is ∙ c.in_ok-entry.ensures.read) (λ same. let yes = c.in_ok-is_printed_so.ensures.1 same in let no = c.if-branch.false in cc) (record { printed = printed; legible = legible })
