-- One more suite has room, and stands behind the others.
use Rattle.std.proofs.Common.{◌<◌, codes, take, length, refl, ap, arith}
use Rattle.std.proofs.lemmas.List.{length-take}
use Rattle.ak_message.specs.Message.{MessageData}
use Rattle.ak_property.proofs.Texts.{text-fits, texts-grown, one-more}
use Rattle.ak_property.proofs.suites.add_suites.Goals as goal

pub add_fitting-requires : goal.add_fitting-requires
add_fitting-requires c =
    let suites = take c.loop-suite.suite-index c.args.suites.now in
    let few : length suites < 255 = omega (arith, length-take c.loop-suite.suite-index c.args.suites.now) in
    let so_far = ap (λ (m : MessageData). m.fields) c.loop-suite.invariant in
    rw so_far (text-fits c.args.reply.now.fields (codes "suites") suites c.suite-item.result refl c.requires.new c.requires.room few)

pub loop-suite-preserved : goal.loop-suite-preserved
loop-suite-preserved c =
    let more = one-more c.args.suites.now c.loop-suite.suite-index c.suite-item.result c.loop-suite-test.true c.suite-item.is in
    texts-grown c.args.reply.now c.loop-suite.reply c.add_fitting.new.self (codes "suites") _ _ _ c.in_ok-try_clone.field-0 c.requires.new c.loop-suite.invariant c.in_ok-try_clone.ensures c.in_ok-add_fitting.ensures.ok more
