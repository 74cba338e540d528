-- The last application is the one that the line is read in.
use Rattle.std.proofs.Common.{◌<◌, length, vec_len, arith}
use Rattle.std.proofs.lemmas.Grind.{common_steps}
use Rattle.ak_describe.specs.Parts.{AppData}
use Rattle.ak_describe.specs.Pass.{in_last_looper}
use Rattle.ak_describe.specs.Seen.{app_data}
use Rattle.ak_describe.specs.Words.{texts}
use Rattle.ak_describe.proofs.ground.Changing.{leaves_last, keeps_last}
use Rattle.ak_describe.proofs.first.in_last_app.Goals as goal

pub returns-clause-read : goal.returns-clause-read
returns-clause-read c =
    let there : 0 < length c.args.apps.now.items = grind (arith, common_steps) in
    leaves_last app_data (λ (a : AppData). in_last_looper a c.args.keyword (texts c.args.words.now)) c.args.apps.now.items (vec_len c.args.apps.now) c.in-Some.app.now c.in_last_looper.new.self c.in_last_looper.result c.args.apps.now.ok.0 there c.in-Some.ensures.value c.in_last_looper.ensures.read

pub returns-clause-err : goal.returns-clause-err
returns-clause-err c =
    let there : 0 < length c.args.apps.now.items = grind (arith, common_steps) in
    keeps_last app_data c.args.apps.now.items (vec_len c.args.apps.now) c.in-Some.app.now c.in_last_looper.new.self c.in_last_looper.result c.args.apps.now.ok.0 there c.in-Some.ensures.value c.in_last_looper.ensures.err
