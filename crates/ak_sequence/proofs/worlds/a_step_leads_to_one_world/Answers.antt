-- By what the entry of a dispatch tells.
use Rattle.ak_sequence.proofs.OneWorld.{step_is_one, world_is_one}
use Rattle.ak_sequence.proofs.worlds.a_step_leads_to_one_world.Goals as goal

pub returns-clause-step : goal.returns-clause-step
returns-clause-step c = step_is_one c.an_entry_tells_its_reply.ensures.tells

pub returns-clause-run : goal.returns-clause-run
returns-clause-run c = world_is_one c.an_entry_tells_its_reply.ensures.tells
