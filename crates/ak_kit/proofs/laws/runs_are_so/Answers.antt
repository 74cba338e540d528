use Rattle.ak_kit.proofs.laws.runs_are_so.Goals as goal

pub returns : goal.returns
returns c = record { sequences = c.runs_are_sequences.ensures; plain = c.entries_are_plain.ensures }
