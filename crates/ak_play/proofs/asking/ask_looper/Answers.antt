use Rattle.ak_play.proofs.Refusals.{ask_answered, ask_in_vain}
use Rattle.ak_play.proofs.asking.ask_looper.Goals as goal

pub returns-in-Ok-clause-did : goal.returns-in-Ok-clause-did
returns-in-Ok-clause-did g c = ask_answered c.args.looper c.ask.new.self c.args.hey.now c.envelope-envelope.result c.in-Ok.reply c.args.run.now c.envelope-envelope.ensures c.in-Ok.ensures.spells c.in-Ok.ensures.did

pub returns-in-Err-clause-did : goal.returns-in-Err-clause-did
returns-in-Err-clause-did g c = ask_in_vain c.args.looper c.ask.new.self c.args.hey.now c.envelope-envelope.result c.in-Err.fault c.args.run.now c.refusal.result c.envelope-envelope.ensures c.refusal.ensures c.in-Err.ensures.did
