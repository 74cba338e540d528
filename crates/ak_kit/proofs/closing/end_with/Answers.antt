use Rattle.ak_kit.proofs.ClosingLine.{closed}
use Rattle.ak_kit.proofs.closing.end_with.Goals as goal

pub returns-clause-line : goal.returns-clause-line
returns-clause-line g c =
    closed c.write_all.result c.args.ending c.args.line.now (g.K.Sink.written c.args.sink.now) (g.K.Sink.written c.write_all.new.sink) (g.K.Sink.faults c.args.sink.now) (g.K.Sink.faults c.write_all.new.sink) c.requires c.write_all.ensures.ok c.write_all.ensures.err c.write_all.ensures.cause c.write_all.ensures.kept
