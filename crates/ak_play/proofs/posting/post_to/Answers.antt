use Rattle.std.proofs.Common.{Err, ap}
use Rattle.ak_messenger.specs.declared.fault.SendFault.{SendFault}
use Rattle.ak_play.proofs.Refusals.{post_in_vain}
use Rattle.ak_play.proofs.posting.post_to.Goals as goal

pub returns-in-Err-clause-did : goal.returns-in-Err-clause-did
returns-in-Err-clause-did g c = post_in_vain c.args.looper c.send.new.run c.args.post.now c.in-Err.fault c.args.run.now c.refusal.result (λ same. c.in-Err.ensures.waits (ap (λ (why : SendFault). Err why) same)) c.refusal.ensures c.in-Err.ensures.did
