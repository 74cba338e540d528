-- The list leads to the handlers.
use Rattle.ak_desk.proofs.Standing.{history_at_rest}
use Rattle.ak_desk.proofs.desk.Desk.state.Goals as goal

pub returns-clause-history : goal.returns-clause-history
returns-clause-history c =
    history_at_rest c.self.inside.opening.value c.self.inside.entries.items c.self.inside.begun c.self.inside.state c.args.self.now c.self.view_is c.self.invariant.stands
