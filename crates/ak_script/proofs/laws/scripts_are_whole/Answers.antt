-- What is read is whole.
use Rattle.ak_script.proofs.Whole.{scripts_are_whole}
use Rattle.ak_script.proofs.laws.scripts_are_whole.Goals as goal

pub returns : goal.returns
returns c = scripts_are_whole c.descriptions_are_read.ensures.described c.descriptions_are_whole.ensures
