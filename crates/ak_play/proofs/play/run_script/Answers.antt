use Rattle.std.proofs.Common.{◌≡◌, List, ap, sym, ◌∙◌, subst}
use Rattle.std.specs.Prelude.{Vec}
use Rattle.std.specs.declared.alloc.Global.{Global}
use Rattle.ak_outside.specs.Faults.{Rose}
use Rattle.ak_describe.specs.declared.described.AppText.{AppText}
use Rattle.ak_describe.specs.Whole.{AreWholeApps, heads_of}
use Rattle.ak_play.proofs.Ends.{is_play_as}
use Rattle.ak_play.proofs.Whole.{each_whole, heads_whole}
use Rattle.ak_play.proofs.play.run_script.Goals as goal

pub new-requires : goal.new-requires
new-requires g c = record { whole = each_whole c.args.script.apps.items c.args.script.whole; heads = heads_whole c.args.script.apps.items c.args.script.whole }

pub finish-end-requires-clause-whole : goal.finish-end-requires-clause-whole
finish-end-requires-clause-whole g c =
    let same = ap (λ (apps : Vec AppText Global). apps.items) c.play_all-played.ensures.apps ∙ c.in-Ok-new.ensures.apps in
    subst (λ (apps : List AppText). ∥ AreWholeApps apps ∥₁) (sym same) c.args.script.whole

pub returns-clause-play : goal.returns-clause-play
returns-clause-play g c =
    let played = c.play_all-played in
    let end = c.finish-end in
    let run = played.new.run in
    let same = ap (λ (apps : Vec AppText Global). apps.items) played.ensures.apps ∙ c.in-Ok-new.ensures.apps in
    let later = ap heads_of same in
    let f0 = g.K.Sink.faults c.args.sink.now in
    let f1 = g.K.Sink.faults played.new.sink in
    is_play_as c.args.script.apps.items c.args.script.statements.items played.result run end.result.0 (g.K.Sink.written c.args.sink.now) (g.K.Sink.written played.new.sink) (Rose f0 f1) (f1 ≡ f0) (g.W.Spawner.calls c.args.spawner.now) (g.W.Spawner.calls played.new.spawner)
    c.in-Ok-new.run'.apps.items (heads_of run.apps.items) (heads_of run.apps.items) c.as_slice-2.result.now played.new.gathered end.result.1 c.in-Ok-new.ensures.apps later later c.as_slice-2.ensures.value end.ensures.outcomes end.ensures.tolds end.ensures.short_sessions end.ensures.ending
    played.ensures.played end.ensures.short end.ensures.lines end.ensures.run end.ensures.answered end.ensures.sessions end.ensures.same end.ensures.did
