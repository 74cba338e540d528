-- A statement that is no launch asks for no thread.
use Rattle.ak_play.proofs.Starts.{no_thread_more}
use Rattle.ak_play.proofs.stepping.carry_out.Goals as goal

pub returns-in_ok-hey-in-Hey-clause-starts : goal.returns-in_ok-hey-in-Hey-clause-starts
returns-in_ok-hey-in-Hey-clause-starts g c = λ other. no_thread_more c.args.run.now c.hey.new.run (g.W.Spawner.calls c.args.spawner.now) c.hey.ensures.count c.hey.ensures.sessions

pub returns-in_err-hey-in-Hey-clause-starts : goal.returns-in_err-hey-in-Hey-clause-starts
returns-in_err-hey-in-Hey-clause-starts g c = λ other. no_thread_more c.args.run.now c.hey.new.run (g.W.Spawner.calls c.args.spawner.now) c.hey.ensures.count c.hey.ensures.sessions

pub returns-in_ok-post-in-Post-clause-starts : goal.returns-in_ok-post-in-Post-clause-starts
returns-in_ok-post-in-Post-clause-starts g c = λ other. no_thread_more c.args.run.now c.post.new.run (g.W.Spawner.calls c.args.spawner.now) c.post.ensures.count c.post.ensures.sessions

pub returns-in_err-post-in-Post-clause-starts : goal.returns-in_err-post-in-Post-clause-starts
returns-in_err-post-in-Post-clause-starts g c = λ other. no_thread_more c.args.run.now c.post.new.run (g.W.Spawner.calls c.args.spawner.now) c.post.ensures.count c.post.ensures.sessions

pub returns-in_ok-lock-in-Lock-clause-starts : goal.returns-in_ok-lock-in-Lock-clause-starts
returns-in_ok-lock-in-Lock-clause-starts g c = λ other. no_thread_more c.args.run.now c.lock.new.run (g.W.Spawner.calls c.args.spawner.now) c.lock.ensures.count c.lock.ensures.sessions

pub returns-in_err-lock-in-Lock-clause-starts : goal.returns-in_err-lock-in-Lock-clause-starts
returns-in_err-lock-in-Lock-clause-starts g c = λ other. no_thread_more c.args.run.now c.lock.new.run (g.W.Spawner.calls c.args.spawner.now) c.lock.ensures.count c.lock.ensures.sessions
