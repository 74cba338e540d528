use Rattle.ak_kit.proofs.laws.inputs_are_read.Goals as goal

pub returns : goal.returns
returns c = record { said = c.scripts_are_read.ensures.said; refused = c.scripts_are_read.ensures.refused }
