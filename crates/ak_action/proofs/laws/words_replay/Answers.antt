use Rattle.ak_action.proofs.LawReplay.{words_replay_holds}
use Rattle.ak_action.proofs.laws.words_replay.Goals as goal

pub returns : goal.returns
returns c = words_replay_holds
