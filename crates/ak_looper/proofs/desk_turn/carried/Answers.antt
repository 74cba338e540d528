-- It ends as the message that was begun, behind all that it asked for; or it is given up.
use Rattle.std.proofs.Common.{◌∙◌, refl, ap}
use Rattle.ak_desk.specs.Desk.{DeskData}
use Rattle.ak_looper.proofs.Carried.{begun_served}
use Rattle.ak_looper.proofs.DeskSteps.{ended_history, ended_so, given_up_history, given_up_so}
use Rattle.ak_looper.proofs.desk_turn.carried.Goals as goal

pub returns-in_default-clause-carried : goal.returns-in_default-clause-carried
returns-in_default-clause-carried g c l start so_far stands =
    let r = c.args.reach.now in
    given_up_so l start so_far r _ c.give_up.new.clock
    (record { number = refl; team = refl; first = refl; loopers = refl; clock_is = refl; book = refl; book_seat = refl; port = refl; port_seat = refl; doors = refl; roster = refl; roster_seat = refl })
    c.args.taken.now c.give_up.result c.args.desk.now.opening c.args.desk.now.entries c.begin.new.desk c.give_up.new.self (ap (λ (d : DeskData). d.opening) c.in_default.ensures.err) (ap (λ (d : DeskData). d.entries) c.in_default.ensures.err) r.looper c.give_up.ensures.given_up stands

pub returns-in_default-clause-history : goal.returns-in_default-clause-history
returns-in_default-clause-history g c =
    given_up_history c.begin.new.desk c.give_up.new.self c.args.reach.now.hands.clock c.give_up.new.clock c.give_up.result c.args.taken.now c.give_up.ensures.desk c.give_up.ensures.given_up

pub returns-clause-carried : goal.returns-clause-carried
returns-clause-carried g c l start so_far stands =
    let r = c.carry_out.new.reach in
    let taken = c.args.taken.now in
    let begun = c.in-Ok.ensures.begun in
    ended_so l start so_far r _ c.end.new.clock
    (record { number = refl; team = refl; first = refl; loopers = refl; clock_is = refl; book = refl; book_seat = refl; port = refl; port_seat = refl; doors = refl; roster = refl; roster_seat = refl })
    taken c.end.result c.args.desk.now.opening c.args.desk.now.entries c.carry_out.new.desk c.end.new.self (c.carry_out.ensures.opening ∙ ap (λ (d : DeskData). d.opening) begun) (c.carry_out.ensures.entries ∙ ap (λ (d : DeskData). d.entries) begun) r.looper c.carry_out.ensures.of c.end.ensures.dispatched
    (c.carry_out.ensures.serves l start so_far (begun_served l start so_far c.args.reach.now c.args.desk.now c.begin.new.desk taken begun stands))

pub returns-clause-history : goal.returns-clause-history
returns-clause-history g c =
    ended_history c.carry_out.new.desk c.end.new.self c.carry_out.new.reach.hands.clock c.end.new.clock c.end.result c.args.taken.now c.end.ensures.desk c.carry_out.ensures.of c.end.ensures.dispatched
