-- What became of the journal, by what the call that writes it answers.
use Rattle.std.specs.Prelude.{Result, Ok, Err}
use Rattle.ak_play.specs.declared.run_end.Lines.{Lines}
use Rattle.ak_play.specs.declared.run_end.Lines.TheVariants as lines
use Rattle.ak_kit.specs.declared.journal.Untold.{Untold}
use Rattle.ak_kit.specs.declared.journal.Untold.TheVariants as untold

abbrev pub lines_told : {A : Type 0} → Result A Untold → Lines
lines_told (Ok _) = lines.Whole
lines_told (Err untold.WriteFault) = lines.Cut
lines_told (Err untold.NoMemory) = lines.Lacking
