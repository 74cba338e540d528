-- A message in hand is dispatched, and what follows is settled.
use Rattle.std.proofs.Common.{◌++◌}
use Rattle.ak_diary.specs.Turns.{lacked_if}
use Rattle.ak_looper.proofs.Going.{keeps_on}
use Rattle.ak_looper.proofs.Lacking.{stands_if}
use Rattle.ak_looper.proofs.Nexts.{can_still, next_in_hand, settled_as, then_stands}
use Rattle.ak_looper.proofs.Turning.{comes_to, due_is}
use Rattle.ak_looper.proofs.at_work.Life.serve_one.Goals as goal

pub dispatch-made-requires-clause-next : goal.dispatch-made-requires-clause-next
dispatch-made-requires-clause-next g c lifetimes within =
    let h = c.requires.in_hand in
    next_in_hand h.0 h.1 h.2 c.args.taken c.args.self.now.reach c.args.self.now.desk_seat h.3

pub settle-requires : goal.settle-requires
settle-requires g c =
    let h = c.requires.in_hand in
    record { stands = then_stands h.0 h.1 h.2 c.args.taken c.dispatch-made.result c.dispatch-made.new.seat c.dispatch-made.new.reach (c.dispatch-made.ensures.dispatched h.0 h.1 h.2 h.3.worked.stands h.3.worked.at_desk) }

pub returns-clause-served : goal.returns-clause-served
returns-clause-served g c l start work hand =
    let made = c.dispatch-made.result in
    let r = c.args.self.now.reach in
    let r1 = c.dispatch-made.new.reach in
    let desk = c.args.self.now.desk_seat in
    let desk1 = c.dispatch-made.new.seat in
    let d = c.dispatch-made.ensures.dispatched l start work hand.worked.stands hand.worked.at_desk in
    let so_far = (work ++ d.steps) ++ lacked_if made.no_memory in
    let s = settled_as l start so_far c.duty-owed.result c.args.taken.item.duty made c.settle.result c.settle.new.reach c.duty-owed.ensures
    (c.settle.ensures.settled l start so_far (stands_if made.no_memory l start (work ++ d.steps) r1 d.stands) (due_is l start work c.args.taken made r r1 desk desk1 hand d)) in
    comes_to l start work c.args.taken made r r1 desk desk1 hand d c.settle.result c.settle.new.reach s

pub returns-clause-can : goal.returns-clause-can
returns-clause-can g c =
    can_still _ _ c.args.self.now.reach c.settle.new.reach (keeps_on c.args.self.now.reach c.dispatch-made.new.reach c.settle.new.reach c.dispatch-made.ensures.keeps c.settle.ensures.keeps) c.requires.can

pub returns-clause-keeps : goal.returns-clause-keeps
returns-clause-keeps g c = keeps_on c.args.self.now.reach c.dispatch-made.new.reach c.settle.new.reach c.dispatch-made.ensures.keeps c.settle.ensures.keeps
