-- A taker can take after its own write in a turn.
use Rattle.uses_objects.proofs.ports.calls.put.Goals as goal

pub returns-clause-taking : goal.returns-clause-taking
returns-clause-taking g c = λ thread room can. c.write_at_turn.ensures.taking thread room c.args.seat.now can c.lock-turn.ensures.seen
