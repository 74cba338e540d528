-- What is written nowhere is no write that failed.
use Rattle.std.proofs.Common.{None}
use Rattle.ak_kit.proofs.Found.{one_found, plain_found}
use Rattle.ak_kit.proofs.Generating.{some_plays_nowhere}
use Rattle.ak_kit.proofs.generate.play_generated.Goals as goal

pub returns-clause-play : goal.returns-clause-play
returns-clause-play g c = some_plays_nowhere c.in-Ok.script c.run_script.result.1 c.run_script.result.0 (g.W.Spawner.calls c.args.spawner.now) (g.W.Spawner.calls c.run_script.new.spawner) c.run_script.ensures.script c.run_script.ensures.play

pub returns-clause-sequence : goal.returns-clause-sequence
returns-clause-sequence g c = one_found c.runs_are_so.ensures.sequences c.in-Ok.script c.run_script.result.0 c.run_script.ensures.script c.run_script.ensures.run

pub returns-clause-plain : goal.returns-clause-plain
returns-clause-plain g c =
    plain_found c.runs_are_so.ensures.plain c.in-Ok.script c.run_script.result.1 c.run_script.result.0 None None 0 0 (g.W.Spawner.calls c.args.spawner.now) (g.W.Spawner.calls c.run_script.new.spawner) c.in-Ok.ensures.whole c.run_script.ensures.opened
    c.run_script.ensures.play
