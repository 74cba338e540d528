-- The words so far and those to come are all.
use Rattle.std.proofs.Common.{◌≡◌, drop}
use Rattle.ak_hey.specs.Hey.{goes_on, start}
use Rattle.ak_hey.specs.Seen.{state_of}
use Rattle.ak_hey.proofs.read.Given as goal

abbrev pub invariant-loop-word : goal.invariant-loop-word
invariant-loop-word l = goes_on l.end (state_of l.reading) (drop l.word-index l.words) ≡ goes_on l.end start l.words
