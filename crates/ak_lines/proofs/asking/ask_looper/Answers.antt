use Rattle.std.proofs.Common.{Err, ap, arith}
use Rattle.ak_flatten.specs.declared.item.Duty.TheVariants as duty
use Rattle.ak_messenger.specs.Sends.{item_in}
use Rattle.ak_messenger.specs.declared.fault.SendFault.{SendFault}
use Rattle.ak_session.specs.Stands.{front_at}
use Rattle.ak_lines.proofs.Refusals.{ask_answered, ask_in_vain, ask_may}
use Rattle.ak_lines.proofs.asking.ask_looper.Goals as goal

pub refusal-requires : goal.refusal-requires
refusal-requires g c =
    let h = c.args.hey.now in
    let in_err = c.in-Err in
    record {
      may = ask_may c.args.looper (front_at c.ask.new.self c.args.looper) (item_in c.envelope-envelope.result duty.None h.message) in_err.fault c.args.session.now c.ask.new.self c.requires.standing in_err.ensures.goes
          (λ same. omega (arith, in_err.ensures.too_long (ap (λ (why : SendFault). Err why) same), h.fits));
    }

pub returns-in-Ok-clause-goes : goal.returns-in-Ok-clause-goes
returns-in-Ok-clause-goes g c heads start so_far stands =
    let ok = c.in-Ok in
    ask_answered c.args.looper (front_at c.ask.new.self c.args.looper) heads start so_far c.ask.new.self c.args.hey.now c.envelope-envelope.result ok.reply c.envelope-envelope.ensures ok.ensures.spells (ok.ensures.goes heads start so_far stands)

pub returns-in-Err-clause-goes : goal.returns-in-Err-clause-goes
returns-in-Err-clause-goes g c heads start so_far stands =
    let in_err = c.in-Err in
    ask_in_vain c.args.looper (front_at c.ask.new.self c.args.looper) heads start so_far c.ask.new.self c.args.hey.now c.envelope-envelope.result in_err.fault c.refusal.result c.envelope-envelope.ensures c.refusal.ensures (in_err.ensures.goes heads start so_far stands)
