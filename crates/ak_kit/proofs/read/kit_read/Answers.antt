use Rattle.ak_kit.proofs.Telling.{tells_script}
use Rattle.ak_kit.proofs.read.kit_read.Goals as goal

pub returns-in-Ok-clause-told : goal.returns-in-Ok-clause-told
returns-in-Ok-clause-told g c =
    tells_script c.in-Ok.script c.tell.result.ending (g.S.Source.left c.args.source.now) (g.S.Source.left c.script_from.new.source) (g.K.Sink.written c.args.sink.now) (g.K.Sink.written c.tell.new.sink) (g.K.Sink.faults c.args.sink.now) (g.K.Sink.faults c.tell.new.sink)
    c.in-Ok.ensures.script
    c.tell.ensures.told
