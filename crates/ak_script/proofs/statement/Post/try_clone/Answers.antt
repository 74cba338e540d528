-- The copy has the same parts.
use Rattle.ak_script.proofs.Sameness.{post_same}
use Rattle.ak_script.proofs.statement.Post.try_clone.Goals as goal

pub returns : goal.returns
returns c = post_same _ c.args.self.now (cc (c.in_ok-try_clone.ensures, c.in_ok-try_clone-2.ensures))
