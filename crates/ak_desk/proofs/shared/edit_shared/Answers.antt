-- The seat is at what the machine allows.
use Rattle.std.proofs.Common.{Some, ap, sym, ◌∙◌}
use Rattle.ak_desk.specs.Desk.{DeskData, edit_entry}
use Rattle.ak_desk.proofs.Sharing.{at_desk}
use Rattle.ak_desk.proofs.shared.edit_shared.Goals as goal

pub returns-clause-desk : goal.returns-clause-desk
returns-clause-desk g c =
    let turn = c.lock-turn.ensures in
    at_desk c.args.seat.now c.lock-turn.new.seat c.finish.new.seat c.book.result.now c.edited-answer.new.desk c.args.clock.now c.edited-answer.new.clock
    (turn.opening ∙ ap (λ (d : DeskData). Some d.opening) (sym c.book.ensures.value)) turn.seen (ap (λ (d : DeskData). d.entries) c.book.ensures.value ∙ turn.list)
    c.edited-answer.ensures.history c.finish.ensures.same c.finish.ensures.entered (edit_entry c.args.edit c.edited-answer.result) c.edited-answer.ensures.added
