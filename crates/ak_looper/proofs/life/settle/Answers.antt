-- The closing where it is due, the payment, and the late closing, one after another.
use Rattle.ak_diary.specs.Turns.{ClosesIf}
use Rattle.ak_looper.specs.Debts.{PaysDebt}
use Rattle.ak_looper.proofs.Going.{keeps_on, still_standing}
use Rattle.ak_looper.proofs.Settling.{ended_shut, settles}
use Rattle.ak_looper.proofs.life.settle.Goals as goal

pub pay-paid-requires-clause-stands : goal.pay-paid-requires-clause-stands
pay-paid-requires-clause-stands g c = still_standing (λ l so_far. ClosesIf l c.is_due-due.result) c.args.reach.now c.close_if.new.self c.requires.stands c.close_if.ensures.goes

pub close_if-requires-2 : goal.close_if-requires-2
close_if-requires-2 g c =
    let ready = c.prepare-debt in
    let closed = still_standing (λ l so_far. ClosesIf l c.is_due-due.result) c.args.reach.now c.close_if.new.self c.requires.stands c.close_if.ensures.goes in
    record { stands = still_standing (λ l so_far. PaysDebt l so_far ready.result.debt c.pay-paid.result) c.close_if.new.self c.pay-paid.new.self closed c.pay-paid.ensures.goes }

pub returns-clause-settled : goal.returns-clause-settled
returns-clause-settled g c =
    let ready = c.prepare-debt in
    settles c.args.owed c.args.made ready.result.lacked c.pay-paid.result ready.result.debt c.args.reach.now c.close_if.new.self c.pay-paid.new.self c.close_if-2.new.self
    c.is_due-due.result c.is_due_late-late.result c.after_payment.result c.is_due-due.ensures c.is_due_late-late.ensures ready.ensures.debt
    c.close_if.ensures.goes c.pay-paid.ensures.goes c.close_if-2.ensures.goes c.after_payment.ensures

pub returns-clause-shut : goal.returns-clause-shut
returns-clause-shut g c =
    let ready = c.prepare-debt in
    ended_shut c.args.made ready.result.lacked ready.result.debt c.args.reach.now c.close_if.new.self c.pay-paid.new.self c.close_if-2.new.self
    c.is_due-due.result c.pay-paid.result c.is_due_late-late.result c.after_payment.result c.is_due-due.ensures c.is_due_late-late.ensures c.requires.stands
    c.close_if.ensures.goes c.pay-paid.ensures.goes c.close_if-2.ensures.goes c.close_if-2.ensures.shut c.after_payment.ensures

pub returns-clause-keeps : goal.returns-clause-keeps
returns-clause-keeps g c =
    keeps_on c.args.reach.now c.pay-paid.new.self c.close_if-2.new.self
    (keeps_on c.args.reach.now c.close_if.new.self c.pay-paid.new.self c.close_if.ensures.keeps c.pay-paid.ensures.keeps) c.close_if-2.ensures.keeps
