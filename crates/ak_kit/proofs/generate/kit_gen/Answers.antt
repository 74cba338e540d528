-- What holds of the run holds of it behind its line, too.
use Rattle.std.proofs.Common.{All, Option, subst}
use Rattle.std.specs.Prelude.{IfSome}
use Rattle.ak_headline.specs.Headline.{EachGotOneReply}
use Rattle.ak_play.specs.declared.run_end.RunEnd.{RunEnd}
use Rattle.ak_journal.specs.Plain.{IsPlain}
use Rattle.ak_world.specs.Merged.{entries_of}
use Rattle.ak_kit.specs.Kit.{IsPlayNowhere}
use Rattle.ak_kit.specs.Sequence.{RunsAsOne}
use Rattle.ak_kit.proofs.Found.{one_on, plain_on}
use Rattle.ak_kit.proofs.Generating.{answered_on, short_on, tells_on}
use Rattle.ak_kit.proofs.generate.kit_gen.Goals as goal

pub returns-in-Some-clause-answered : goal.returns-in-Some-clause-answered
returns-in-Some-clause-answered g c =
    answered_on c.in-Some.run' c.end_generated.result.run (subst (λ (o : Option RunEnd). IfSome o (λ (run : RunEnd). EachGotOneReply run.short.loopers run.histories)) c.in-Some.is c.play_generated-run.ensures.answered)
    c.end_generated.ensures.run

pub returns-in-Some-clause-play : goal.returns-in-Some-clause-play
returns-in-Some-clause-play g c =
    let ended = c.play_generated-run.result.1 in
    let end = c.end_generated in
    let calls = g.W.Spawner.calls c.args.spawner.now in
    let calls' = g.W.Spawner.calls c.play_generated-run.new.spawner in
    let play = subst (λ (o : Option RunEnd). IfSome o (λ (r : RunEnd). IsPlayNowhere ended r calls calls')) c.in-Some.is c.play_generated-run.ensures.play in
    tells_on c.args.n c.in-Some.run' ended end.result.ending end.result.run (g.K.Sink.written c.args.sink.now) (g.K.Sink.written end.new.sink) (g.K.Sink.faults c.args.sink.now) (g.K.Sink.faults end.new.sink) calls calls' play c.play_generated-run.ensures.no_write end.ensures.run end.ensures.tells

pub returns-in-Some-clause-short : goal.returns-in-Some-clause-short
returns-in-Some-clause-short g c =
    let ended = c.play_generated-run.result.1 in
    let end = c.end_generated in
    let calls = g.W.Spawner.calls c.args.spawner.now in
    let calls' = g.W.Spawner.calls c.play_generated-run.new.spawner in
    let play = subst (λ (o : Option RunEnd). IfSome o (λ (r : RunEnd). IsPlayNowhere ended r calls calls')) c.in-Some.is c.play_generated-run.ensures.play in
    short_on c.in-Some.run' ended end.result.ending end.result.run c.args.n (g.K.Sink.written c.args.sink.now) (g.K.Sink.written end.new.sink) (g.K.Sink.faults c.args.sink.now) (g.K.Sink.faults end.new.sink) calls calls' play end.ensures.run end.ensures.tells

pub returns-in-Some-clause-sequence : goal.returns-in-Some-clause-sequence
returns-in-Some-clause-sequence g c =
    one_on c.in-Some.run' c.end_generated.result.run (subst (λ (o : Option RunEnd). IfSome o RunsAsOne) c.in-Some.is c.play_generated-run.ensures.sequence) c.end_generated.ensures.run

pub returns-in-Some-clause-plain : goal.returns-in-Some-clause-plain
returns-in-Some-clause-plain g c =
    plain_on c.in-Some.run' c.end_generated.result.run (subst (λ (o : Option RunEnd). IfSome o (λ (run : RunEnd). All IsPlain (entries_of run.histories))) c.in-Some.is c.play_generated-run.ensures.plain)
    c.end_generated.ensures.run
