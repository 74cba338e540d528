use Rattle.std.proofs.Common.{subst}
use Rattle.ak_messenger.specs.declared.envelope.Envelope.{Envelope}
use Rattle.ak_session.specs.Doing.{PostedSo, SendsThrough}
use Rattle.ak_session.specs.Stands.{GoesOn, front_at}
use Rattle.ak_lines.proofs.posting.send.Goals as goal

pub returns-then-post-clause-goes : goal.returns-then-post-clause-goes
returns-then-post-clause-goes g c heads start so_far stands =
    let s' = c.post.new.self in
    subst (λ (e : Envelope). GoesOn heads start so_far (SendsThrough so_far c.args.looper c.post.result (PostedSo c.args.looper e c.args.post.now.message c.post.result (front_at s' c.args.looper))) s') c.envelope-envelope.ensures (c.post.ensures.goes heads start so_far stands)

pub returns-else-post-clause-goes : goal.returns-else-post-clause-goes
returns-else-post-clause-goes g c heads start so_far stands =
    let s' = c.post_at_once.new.self in
    subst (λ (e : Envelope). GoesOn heads start so_far (SendsThrough so_far c.args.looper c.post_at_once.result (PostedSo c.args.looper e c.args.post.now.message c.post_at_once.result (front_at s' c.args.looper))) s') c.envelope-envelope.ensures
    (c.post_at_once.ensures.goes heads start so_far stands)
