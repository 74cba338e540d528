-- One more text has room, and stands behind the others.
use Rattle.std.proofs.Common.{◌<◌, codes, take, length, refl, ap, arith}
use Rattle.std.proofs.lemmas.List.{length-take}
use Rattle.ak_message.specs.Message.{MessageData}
use Rattle.ak_property.proofs.Surface.{one-more, text-fits, texts-grown}
use Rattle.ak_script.proofs.messages.add_texts.Goals as goal

pub add_fitting-requires : goal.add_fitting-requires
add_fitting-requires c =
    let texts = take c.loop-text.text-index c.args.texts.now in
    let few : length texts < 255 = omega (arith, length-take c.loop-text.text-index c.args.texts.now) in
    let so_far = ap (λ (m : MessageData). m.fields) c.loop-text.invariant in
    rw so_far (text-fits c.args.message.now.fields (codes "argv") texts c.text-item.result refl c.requires.new c.requires.room few)

pub loop-text-preserved : goal.loop-text-preserved
loop-text-preserved c =
    let more = one-more c.args.texts.now c.loop-text.text-index c.text-item.result c.loop-text-test.true c.text-item.is in
    texts-grown c.args.message.now c.loop-text.message c.add_fitting.new.self (codes "argv") _ _ _ c.in_ok-try_clone.field-0 c.requires.new c.loop-text.invariant c.in_ok-try_clone.ensures c.in_ok-add_fitting.ensures.ok more
