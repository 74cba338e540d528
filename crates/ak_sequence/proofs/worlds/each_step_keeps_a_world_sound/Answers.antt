use Rattle.ak_sequence.proofs.Sound.{first_is_sound, steps_keep_sound}
use Rattle.ak_sequence.proofs.worlds.each_step_keeps_a_world_sound.Goals as goal

pub returns-clause-first : goal.returns-clause-first
returns-clause-first c = first_is_sound

pub returns-clause-steps : goal.returns-clause-steps
returns-clause-steps c = steps_keep_sound
