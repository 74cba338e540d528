-- The words of an entry tell the rest of it.
use Rattle.ak_desk.proofs.MachineLaws.{entry_tells_reply, forward_tells_reply}
use Rattle.ak_desk.proofs.laws.an_entry_tells_its_reply.Goals as goal

pub returns-clause-tells : goal.returns-clause-tells
returns-clause-tells c = entry_tells_reply c.words_replay.ensures

pub returns-clause-forward : goal.returns-clause-forward
returns-clause-forward c = forward_tells_reply
