use Rattle.std.proofs.Common.{sym, ◌∙◌}
use Rattle.ak_print.proofs.ReadAgain.{is_found, is_none, is_other, reads}
use Rattle.ak_print.proofs.reading.read_message.Goals as goal

pub returns-in_default-clause-only : goal.returns-in_default-clause-only
returns-in_default-clause-only c = λ m is. absurd (is_none c.printed_messages_are_read.ensures.values m c.args.text.now (sym c.in_default.is ∙ c.in_ok-message.ensures) is.whole is.printed)

pub returns-in_default-clause-none : goal.returns-in_default-clause-none
returns-in_default-clause-none c = λ m whole is. is_none c.printed_messages_are_read.ensures.values m c.args.text.now (sym c.in_default.is ∙ c.in_ok-message.ensures) whole is

pub returns-then-branch-clause-found : goal.returns-then-branch-clause-found
returns-then-branch-clause-found c =
    is_found c.printed_messages_are_read.ensures.values c.in-Some.message c.args.text.now c.what-code.ensures.is_whole (c.in_ok-is_printed_so.ensures.0 c.if-branch.true) (sym c.in-Some.is ∙ c.in_ok-message.ensures)

pub returns-then-branch-clause-only : goal.returns-then-branch-clause-only
returns-then-branch-clause-only c = λ m is. sym c.in-Some.is ∙ c.in_ok-message.ensures ∙ reads c.printed_messages_are_read.ensures.values m c.args.text.now is

pub returns-else-branch-clause-only : goal.returns-else-branch-clause-only
returns-else-branch-clause-only c = λ m is. absurd (is_other c.printed_messages_are_read.ensures.values m c.in-Some.message c.args.text.now (sym c.in-Some.is ∙ c.in_ok-message.ensures) (λ same. let yes = c.in_ok-is_printed_so.ensures.1 same in let no = c.if-branch.false in cc) is.whole is.printed)

pub returns-else-branch-clause-none : goal.returns-else-branch-clause-none
returns-else-branch-clause-none c = λ m whole is. is_other c.printed_messages_are_read.ensures.values m c.in-Some.message c.args.text.now (sym c.in-Some.is ∙ c.in_ok-message.ensures) (λ same. let yes = c.in_ok-is_printed_so.ensures.1 same in let no = c.if-branch.false in cc) whole is
