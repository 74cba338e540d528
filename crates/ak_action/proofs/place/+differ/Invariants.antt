-- Each name is looked at once.
use Rattle.std.proofs.Common.{length}
use Rattle.ak_action.proofs.place.+differ.Given as goal

abbrev pub decreases-differ : goal.decreases-differ
decreases-differ l = length l.names.now
