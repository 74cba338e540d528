-- So far the run goes on, and so many ports are shut.
use Rattle.std.specs.List.{range_with_len}
use Rattle.ak_diary.specs.Turns.{ShutsAll}
use Rattle.ak_run.specs.Recording.{RecordsBesideSo}
use Rattle.ak_run.specs.Starting.{GoesOn}
use Rattle.ak_run.proofs.run.Run.shut_ports.Given as goal

abbrev pub invariant-loop-place : goal.invariant-loop-place
invariant-loop-place g l = record {
  goes : GoesOn l.fn.self l.self;
  shut : RecordsBesideSo (ShutsAll (range_with_len l.first l.place)) l.fn.self l.self;
}
