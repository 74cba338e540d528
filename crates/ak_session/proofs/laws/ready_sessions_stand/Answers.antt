-- Nothing was made, so there is no step.
use Rattle.ak_session.proofs.Beginning.{begins}
use Rattle.ak_session.proofs.laws.ready_sessions_stand.Goals as goal

pub returns : goal.returns
returns c = begins
