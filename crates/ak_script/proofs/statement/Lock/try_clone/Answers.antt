-- The copy has the same parts.
use Rattle.ak_script.proofs.Sameness.{lock_same}
use Rattle.ak_script.proofs.statement.Lock.try_clone.Goals as goal

pub returns : goal.returns
returns c = lock_same _ c.args.self.now (cc (c.in_ok-try_clone.ensures, c.in_ok-try_clone-2.ensures))
