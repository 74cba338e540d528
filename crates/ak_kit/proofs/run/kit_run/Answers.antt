use Rattle.ak_kit.proofs.Ends.{ends_short_so, ends_well, no_fault}
use Rattle.ak_kit.proofs.Telling.{run_of_text}
use Rattle.ak_kit.proofs.run.kit_run.Goals as goal

pub returns-in-Ok-clause-refuses : goal.returns-in-Ok-clause-refuses
returns-in-Ok-clause-refuses g c = λ stayed input line why told refusal. absurd (no_fault c.script_from.result c.in-Ok.script _ _ c.in-Ok.is (c.script_from.ensures.refuses stayed input line why told refusal))

pub returns-in-Ok-clause-complete : goal.returns-in-Ok-clause-complete
returns-in-Ok-clause-complete g c = λ source_stayed sink_stayed spawner_stayed input script told text.
    let run = c.play.ensures in
    ends_well c.play.result.ending (g.K.Sink.faults c.args.sink.now) (g.K.Sink.faults c.play.new.sink) (g.W.Spawner.faults c.args.spawner.now) (g.W.Spawner.faults c.play.new.spawner) run.ending run.write_fault run.thread_fault sink_stayed spawner_stayed

pub returns-in-Ok-clause-short : goal.returns-in-Ok-clause-short
returns-in-Ok-clause-short g c =
    ends_short_so c.args.journal c.play.result.run c.play.result.ending (g.K.Sink.written c.args.sink.now) (g.K.Sink.written c.play.new.sink) (g.K.Sink.faults c.args.sink.now) (g.K.Sink.faults c.play.new.sink) (g.W.Spawner.calls c.args.spawner.now) (g.W.Spawner.calls c.play.new.spawner)
    c.play.ensures.play c.play.ensures.journal

pub returns-in-Ok-clause-script : goal.returns-in-Ok-clause-script
returns-in-Ok-clause-script g c =
    run_of_text c.in-Ok.script c.play.result.run (g.S.Source.left c.args.source.now) (g.S.Source.left c.script_from.new.source) c.in-Ok.ensures.script c.play.ensures.script
