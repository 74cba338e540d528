use Rattle.std.proofs.Common.{arith}
use Rattle.ak_turn.proofs.Adding.{adds}
use Rattle.ak_turn.proofs.steps.count_entry.Goals as goal

pub fetch_add-requires : goal.fetch_add-requires
fetch_add-requires g c = (c.requires.of, omega (arith, c.requires.wide.0), adds _ _ _ _ _ _ c.args.book.now.value _ c.requires.holds c.requires.more)
