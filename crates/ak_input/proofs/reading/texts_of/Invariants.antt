use Rattle.std.proofs.Common.{◌≡◌, ◌++◌, drop}
use Rattle.std.specs.Prelude.{map}
use Rattle.ak_input.specs.ReadSeen.{seen}
use Rattle.ak_input.proofs.reading.texts_of.Given as goal

-- the texts so far and those to come are all
abbrev pub invariant-loop-word : goal.invariant-loop-word
invariant-loop-word l = map seen l.texts.items ++ map (λ word. word.bytes) (drop l.word-index l.words) ≡ map (λ word. word.bytes) l.words
