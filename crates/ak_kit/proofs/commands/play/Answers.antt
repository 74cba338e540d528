use Rattle.std.proofs.Common.{◌≡◌, All, Option, subst, sym}
use Rattle.std.specs.Prelude.{IfSome}
use Rattle.ak_headline.specs.Headline.{EachGotOneReply}
use Rattle.ak_play.specs.declared.run_end.RunEnd.{RunEnd}
use Rattle.ak_outside.specs.Faults.{Rose}
use Rattle.ak_play.specs.Play.{IsPlay}
use Rattle.ak_journal.specs.Plain.{IsPlain}
use Rattle.ak_world.specs.Merged.{entries_of}
use Rattle.ak_kit.specs.Sequence.{RunsAsOne}
use Rattle.ak_kit.proofs.Found.{one_found, one_on, plain_found, plain_on}
use Rattle.ak_kit.proofs.Generating.{answered_on}
use Rattle.ak_kit.proofs.Playing.{OfScript, journals_and_closes, plays_and_closes}
use Rattle.ak_kit.proofs.commands.play.Goals as goal

pub returns-then-journal-clause-answered : goal.returns-then-journal-clause-answered
returns-then-journal-clause-answered g c =
    answered_on c.in-Some.run' c.end_with_journal.result.run (subst (λ (o : Option RunEnd). IfSome o (λ (run : RunEnd). EachGotOneReply run.short.loopers run.histories)) c.in-Some.is c.run_script-run.ensures.answered)
    c.end_with_journal.ensures.run

pub returns-then-journal-clause-journal : goal.returns-then-journal-clause-journal
returns-then-journal-clause-journal g c = λ so.
    let ran = c.run_script-run.ensures in
    let ended = c.run_script-run.result.1 in
    let end = c.end_with_journal in
    let of_script = subst (λ (o : Option RunEnd). IfSome o (OfScript c.args.script)) c.in-Some.is ran.script in
    let old = g.K.Sink.written c.args.sink.now in
    let between = g.K.Sink.written c.run_script-run.new.sink in
    let a = g.K.Sink.faults c.args.sink.now in
    let b = g.K.Sink.faults c.run_script-run.new.sink in
    let calls = g.W.Spawner.calls c.args.spawner.now in
    let calls' = g.W.Spawner.calls c.run_script-run.new.spawner in
    let play = subst (λ (o : Option RunEnd). IfSome o (λ (x : RunEnd). IsPlay c.args.script.apps.items c.args.script.statements.items ended x old between (Rose a b) (b ≡ a) calls calls')) c.in-Some.is ran.play in
    journals_and_closes c.args.script c.in-Some.run' ended old between (g.K.Sink.written end.new.sink) a b (g.K.Sink.faults end.new.sink) calls calls' ran.sink_never_falls end.ensures.sink_never_falls of_script play end.result.run end.result.ending
    end.ensures.run end.ensures.tells

pub end_with_journal-requires-clause-plain : goal.end_with_journal-requires-clause-plain
end_with_journal-requires-clause-plain g c =
    let ran = c.run_script-run in
    let old = g.K.Sink.written c.args.sink.now in
    let between = g.K.Sink.written ran.new.sink in
    let a = g.K.Sink.faults c.args.sink.now in
    let b = g.K.Sink.faults ran.new.sink in
    let calls = g.W.Spawner.calls c.args.spawner.now in
    let calls' = g.W.Spawner.calls ran.new.spawner in
    let plain = plain_found c.runs_are_so.ensures.plain c.args.script ran.result.1 ran.result.0 old between a b calls calls' c.requires.whole ran.ensures.opened ran.ensures.play in
    subst (λ (o : Option RunEnd). IfSome o (λ (run : RunEnd). All IsPlain (entries_of run.histories))) c.in-Some.is plain

pub returns-then-journal-clause-sequence : goal.returns-then-journal-clause-sequence
returns-then-journal-clause-sequence g c =
    let ran = c.run_script-run.ensures in
    let one = subst (λ (o : Option RunEnd). IfSome o RunsAsOne) c.in-Some.is (one_found c.runs_are_so.ensures.sequences c.args.script c.run_script-run.result.0 ran.script ran.run) in
    one_on c.in-Some.run' c.end_with_journal.result.run one c.end_with_journal.ensures.run

pub returns-then-journal-clause-plain : goal.returns-then-journal-clause-plain
returns-then-journal-clause-plain g c =
    let ran = c.run_script-run in
    let old = g.K.Sink.written c.args.sink.now in
    let between = g.K.Sink.written ran.new.sink in
    let a = g.K.Sink.faults c.args.sink.now in
    let b = g.K.Sink.faults ran.new.sink in
    let calls = g.W.Spawner.calls c.args.spawner.now in
    let calls' = g.W.Spawner.calls ran.new.spawner in
    let plain = plain_found c.runs_are_so.ensures.plain c.args.script ran.result.1 ran.result.0 old between a b calls calls' c.requires.whole ran.ensures.opened ran.ensures.play in
    plain_on c.in-Some.run' c.end_with_journal.result.run (subst (λ (o : Option RunEnd). IfSome o (λ (run : RunEnd). All IsPlain (entries_of run.histories))) c.in-Some.is plain) c.end_with_journal.ensures.run

pub returns-else-journal-clause-sequence : goal.returns-else-journal-clause-sequence
returns-else-journal-clause-sequence g c =
    let ran = c.run_script-run.ensures in
    let one = subst (λ (o : Option RunEnd). IfSome o RunsAsOne) c.in-Some.is (one_found c.runs_are_so.ensures.sequences c.args.script c.run_script-run.result.0 ran.script ran.run) in
    subst (λ (o : Option RunEnd). IfSome o RunsAsOne) (sym c.close_run.ensures.run) one

pub returns-else-journal-clause-plain : goal.returns-else-journal-clause-plain
returns-else-journal-clause-plain g c =
    let ran = c.run_script-run in
    let old = g.K.Sink.written c.args.sink.now in
    let between = g.K.Sink.written ran.new.sink in
    let a = g.K.Sink.faults c.args.sink.now in
    let b = g.K.Sink.faults ran.new.sink in
    let calls = g.W.Spawner.calls c.args.spawner.now in
    let calls' = g.W.Spawner.calls ran.new.spawner in
    let plain = plain_found c.runs_are_so.ensures.plain c.args.script ran.result.1 ran.result.0 old between a b calls calls' c.requires.whole ran.ensures.opened ran.ensures.play in
    subst (λ (o : Option RunEnd). IfSome o (λ (run : RunEnd). All IsPlain (entries_of run.histories))) (sym c.close_run.ensures.run) (subst (λ (o : Option RunEnd). IfSome o (λ (run : RunEnd). All IsPlain (entries_of run.histories))) c.in-Some.is plain)

pub returns-else-journal-clause-play : goal.returns-else-journal-clause-play
returns-else-journal-clause-play g c = λ so.
    let ran = c.run_script-run.ensures in
    let ended = c.run_script-run.result.1 in
    let end = c.close_run in
    let of_script = subst (λ (o : Option RunEnd). IfSome o (OfScript c.args.script)) c.in-Some.is ran.script in
    let old = g.K.Sink.written c.args.sink.now in
    let between = g.K.Sink.written c.run_script-run.new.sink in
    let a = g.K.Sink.faults c.args.sink.now in
    let b = g.K.Sink.faults c.run_script-run.new.sink in
    let calls = g.W.Spawner.calls c.args.spawner.now in
    let calls' = g.W.Spawner.calls c.run_script-run.new.spawner in
    let play = subst (λ (o : Option RunEnd). IfSome o (λ (x : RunEnd). IsPlay c.args.script.apps.items c.args.script.statements.items ended x old between (Rose a b) (b ≡ a) calls calls')) c.in-Some.is ran.play in
    plays_and_closes c.args.script c.in-Some.run' ended old between (g.K.Sink.written end.new.sink) a b (g.K.Sink.faults end.new.sink) calls calls' ran.sink_never_falls end.ensures.never_falls of_script play end.result.run end.result.ending
    end.ensures.run end.ensures.ending end.ensures.line
