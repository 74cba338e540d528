-- The actions before the place are carried out.
use Rattle.ak_action.specs.Interp.{actions_of}
use Rattle.ak_action.proofs.GoingOn.{IsGoingOn}
use Rattle.ak_action.proofs.interp.Interp.go_on.Given as goal

abbrev pub invariant-loop : goal.invariant-loop
invariant-loop l =
    IsGoingOn (actions_of l.fn.state l.fn.self.token l.fn.self.reaction) l.fn.self l.fn.state l.counter l.self l.state
