-- A run as one sequence, as the top call returns it.
use Rattle.std.specs.Prelude.{ℕ, List}
use Rattle.ak_describe.specs.Whole.{heads_of}
use Rattle.ak_headline.specs.Run.{IsRunWith}
use Rattle.ak_journal.specs.declared.entry.Entry.{Entry}
use Rattle.ak_play.specs.declared.run_end.RunEnd.{RunEnd}
use Rattle.ak_sequence.specs.Worlds.{IsSequence}

-- the list of all its entries leads, entry after entry, from a world in which nothing is launched to one in which the objects are as the run left
-- them (`WorldRun`), and the laws of such lists hold of it
pub record RunsAsOne (run : RunEnd) : Type 0 where
  pub sessions : ℕ
  pub is : IsRunWith sessions (heads_of run.script.apps.items) run.short.loopers run.histories
  pub entries : List Entry
  pub sequence : IsSequence sessions (heads_of run.script.apps.items) run.short.loopers run.histories is entries
