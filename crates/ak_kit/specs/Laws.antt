-- What holds of every input and of every run, as one fact each: a call that names it hands it on, and a search through its other facts does not open it.
use Rattle.ak_plain.specs.Laws.{EntriesArePlain}
use Rattle.ak_script.specs.Refusals.{FirstRefusalIsTold, ScriptsAreRead}
use Rattle.ak_sequence.specs.Worlds.{RunsAreSequences}

-- exactly the script that an input is the text of is read of it, and exactly its first refusal is told
pub record InputsAreRead : Type 0 where
  pub said : ScriptsAreRead
  pub refused : FirstRefusalIsTold

-- each run is one sequence, and its entries are plain
pub record RunsAreSo : Type 0 where
  pub sequences : RunsAreSequences
  pub plain : EntriesArePlain
