use Rattle.ak_sequence.proofs.Sound.{worlds_sound}
use Rattle.ak_sequence.proofs.worlds.worlds_are_sound.Goals as goal

pub returns : goal.returns
returns c = worlds_sound
