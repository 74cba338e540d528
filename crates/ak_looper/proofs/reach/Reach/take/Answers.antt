-- A take is one step at its own port.
use Rattle.std.proofs.Common.{◌≡◌, List, [], ◌∷◌, refl}
use Rattle.ak_diary.specs.Step.{Step, at_port}
use Rattle.ak_port.specs.PortCalls as ports
use Rattle.ak_turn.specs.Noted.{note}
use Rattle.ak_looper.proofs.Lifting.{own_does}
use Rattle.ak_looper.proofs.Sides.{goes_at_port}
use Rattle.ak_looper.proofs.Takes.{taking}
use Rattle.ak_looper.proofs.reach.Reach.take.Goals as goal

pub returns-clause-goes : goal.returns-clause-goes
returns-clause-goes g c l start so_far was =
    let r = c.args.self.now in
    let took = c.take_there.ensures.took in
    let n = note took.entered.before (ports.entry_now r.hands.clock took.entered.before (ports.take_event c.take_there.result)) in
    taking l start so_far c.take_there.result _ n _ refl took.items c.take_there.ensures.all
    (own_does l start so_far r _ (record { number = refl; team = refl; first = refl; loopers = refl; roster_seat = refl }) was l.number (λ (steps : List Step). steps ≡ at_port l.number n ∷ []) refl refl
    (record { steps = at_port l.number n ∷ []; does = refl; goes = goes_at_port l.number r.hands.clock c.take_there.new.clock (ports.take_event c.take_there.result) r.hands.book_seat r.port_seat c.take_there.new.seat took.entered }))
