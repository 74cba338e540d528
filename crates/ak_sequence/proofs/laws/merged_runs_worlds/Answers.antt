-- By the diaries of all threads, whose fills are none missing, and the one state to which a desk's list leads.
use Rattle.ak_sequence.proofs.ClientsDo.{main_does, sessions_do}
use Rattle.ak_sequence.proofs.Joined.{runs_worlds}
use Rattle.ak_sequence.proofs.LoopersDo.{loopers_do}
use Rattle.ak_sequence.proofs.Serving.{serving}
use Rattle.ak_sequence.proofs.Sound.{first_is_sound, steps_keep_sound}
use Rattle.ak_sequence.proofs.laws.merged_runs_worlds.Goals as goal

pub returns : goal.returns
returns c = runs_worlds first_is_sound steps_keep_sound (loopers_do serving) main_does sessions_do c.no_fill_is_missing.ensures c.the_list_tells_the_handlers.ensures.one
