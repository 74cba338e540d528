-- An item in hand, or the rest.
use Rattle.std.proofs.Common.{◌≡◌, [], ◌∷◌}
use Rattle.ak_flatten.specs.declared.item.Taken.{Taken}
use Rattle.ak_looper.specs.Living.{HasInHand, Later}
use Rattle.ak_looper.proofs.Lives.{by_others, each_some, popped_one, took_one, took_rest}
use Rattle.ak_looper.proofs.at_work.Life.take_one.Goals as goal

pub returns-in-Took-clause-took : goal.returns-in-Took-clause-took
returns-in-Took-clause-took g c l start work working =
    let goes = c.in-Took.ensures.goes l start work working.worked.stands in
    let queue = c.take.new.queue.items in
    each_some c.pop_front.result (λ (t : Taken). queue ≡ t ∷ []) (λ (t : Taken). Later (λ so_far. HasInHand l start so_far t c.take.new.self c.args.self.now.desk_seat) work)
    (popped_one c.pop_front.result queue c.pop_front.new.self.items c.pop_front.ensures.items c.in-Took.ensures.one)
    (λ t only. record { turn = goes.steps; then_is = took_one l start work c.in-Took.field-0 queue t c.args.self.now.reach c.take.new.self c.args.self.now.desk_seat working goes only c.in-Took.ensures.count })

pub returns-in-Rest-clause-rested : goal.returns-in-Rest-clause-rested
returns-in-Rest-clause-rested g c l start work working =
    let goes = c.in-Rest.ensures.goes l start work working.worked.stands in
    record {
      so = took_rest l start work c.in-Rest.field-0 c.take.new.queue.items c.args.self.now.reach c.take.new.self c.args.self.now.desk_seat working.worked.works working.worked.at_desk working.rested goes;
      kind_is = by_others l work working.not_closing;
    }
