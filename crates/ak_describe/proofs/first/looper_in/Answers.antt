-- The last application is the one that the line is read in.
use Rattle.std.proofs.Common.{◌<◌, length, vec_len, arith}
use Rattle.std.proofs.lemmas.Grind.{common_steps}
use Rattle.ak_describe.specs.Parts.{AppData}
use Rattle.ak_describe.specs.Pass.{looper_line}
use Rattle.ak_describe.specs.Seen.{app_data}
use Rattle.ak_describe.specs.Words.{texts}
use Rattle.ak_describe.proofs.ground.Changing.{leaves_last, keeps_last}
use Rattle.ak_describe.proofs.first.looper_in.Goals as goal

pub returns-clause-read : goal.returns-clause-read
returns-clause-read c =
    let there : 0 < length c.args.apps.now.items = grind (arith, common_steps) in
    leaves_last app_data (λ (a : AppData). looper_line a (texts c.args.words.now)) c.args.apps.now.items (vec_len c.args.apps.now) c.in-Some.app.now c.looper_line.new.self c.looper_line.result c.args.apps.now.ok.0 there c.in-Some.ensures.value c.looper_line.ensures.read

pub returns-clause-err : goal.returns-clause-err
returns-clause-err c =
    let there : 0 < length c.args.apps.now.items = grind (arith, common_steps) in
    keeps_last app_data c.args.apps.now.items (vec_len c.args.apps.now) c.in-Some.app.now c.looper_line.new.self c.looper_line.result c.args.apps.now.ok.0 there c.in-Some.ensures.value c.looper_line.ensures.err
