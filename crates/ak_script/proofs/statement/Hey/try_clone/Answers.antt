-- The copy has the same parts.
use Rattle.ak_script.proofs.Sameness.{hey_same}
use Rattle.ak_script.proofs.statement.Hey.try_clone.Goals as goal

pub returns : goal.returns
returns c = hey_same _ c.args.self.now (cc (c.in_ok-try_clone.ensures, c.in_ok-try_clone-2.ensures))
