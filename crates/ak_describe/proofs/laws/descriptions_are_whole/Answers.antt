-- What is described is whole.
use Rattle.ak_describe.proofs.answered.WholeApps.{descriptions_are_whole}
use Rattle.ak_describe.proofs.laws.descriptions_are_whole.Goals as goal

pub returns : goal.returns
returns c = descriptions_are_whole
