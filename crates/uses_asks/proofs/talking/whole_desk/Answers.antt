-- The list goes on from what the seat has seen.
use Rattle.std.proofs.Common.{◌∙◌, Some, ap, sym}
use Rattle.ak_desk.specs.Desk.{DeskData}
use Rattle.ak_desk.specs.Shared.{DeskSeat}
use Rattle.uses_asks.proofs.talking.whole_desk.Goals as goal

pub returns-clause-entries : goal.returns-clause-entries
returns-clause-entries g c =
    let turn = c.lock.ensures in
    (turn.seen.between, ap (λ (d : DeskData). d.entries) c.keep.ensures ∙ turn.list ∙ ap (λ (s : DeskSeat). s.front) turn.seen.after)

pub returns-clause-opening : goal.returns-clause-opening
returns-clause-opening g c = c.lock.ensures.opening ∙ ap (λ (d : DeskData). Some d.opening) (sym c.keep.ensures)
