-- The words so far, and then those of what is left, are all. Each word leaves less.
use Rattle.std.proofs.Common.{◌≡◌, ◌++◌}
use Rattle.std.specs.Prelude.{option_map}
use Rattle.ak_journal.specs.Parting.{parted, parted_left, texts}
use Rattle.ak_journal.proofs.Parted.{left_length}
use Rattle.ak_journal.proofs.reading.words.parted.Given as goal

abbrev pub decreases-loop-rest : goal.decreases-loop-rest
decreases-loop-rest l = left_length (option_map (λ text. text.now) l.rest)

abbrev pub invariant-loop-rest : goal.invariant-loop-rest
invariant-loop-rest l = texts l.words.items ++ parted_left (option_map (λ text. text.now) l.rest) ≡ parted l.line
