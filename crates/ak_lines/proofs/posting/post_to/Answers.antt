use Rattle.std.proofs.Common.{Err, ap}
use Rattle.ak_messenger.specs.declared.fault.SendFault.{SendFault}
use Rattle.ak_session.specs.Stands.{front_at}
use Rattle.ak_lines.proofs.Refusals.{post_in_vain, post_may, post_written}
use Rattle.ak_lines.proofs.posting.post_to.Goals as goal

pub refusal-requires : goal.refusal-requires
refusal-requires g c =
    let in_err = c.in-Err in
    record {
      may = post_may c.args.looper (front_at c.send.new.session c.args.looper) c.args.post.now in_err.fault c.args.session.now c.send.new.session c.requires.standing in_err.ensures.goes
          (λ same. in_err.ensures.not_long (ap (λ (why : SendFault). Err why) same));
    }

pub returns-in-Ok-clause-goes : goal.returns-in-Ok-clause-goes
returns-in-Ok-clause-goes g c heads start so_far stands =
    post_written c.args.looper (front_at c.send.new.session c.args.looper) heads start so_far c.send.new.session c.args.post.now c.in-Ok.position (c.in-Ok.ensures.goes heads start so_far stands)

pub returns-in-Err-clause-goes : goal.returns-in-Err-clause-goes
returns-in-Err-clause-goes g c heads start so_far stands =
    let in_err = c.in-Err in
    post_in_vain c.args.looper (front_at c.send.new.session c.args.looper) heads start so_far c.send.new.session c.args.post.now in_err.fault c.refusal.result (λ same. in_err.ensures.waits (ap (λ (why : SendFault). Err why) same)) c.refusal.ensures
    (in_err.ensures.goes heads start so_far stands)
