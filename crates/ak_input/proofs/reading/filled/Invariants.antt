use Rattle.std.proofs.Common.{◌≡◌, ◌++◌, drop}
use Rattle.std.specs.Prelude.{map, filter}
use Rattle.ak_input.specs.Reading.{is_some_bytes}
use Rattle.ak_input.specs.ReadSeen.{seen}
use Rattle.ak_input.proofs.reading.filled.Given as goal

-- the words so far and those to come are all
abbrev pub invariant-loop-piece : goal.invariant-loop-piece
invariant-loop-piece l = map seen l.words.items ++ filter is_some_bytes (map seen (drop l.piece-index l.pieces)) ≡ filter is_some_bytes (map seen l.pieces)
