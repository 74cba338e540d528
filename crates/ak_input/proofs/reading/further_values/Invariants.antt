use Rattle.std.proofs.Common.{◌≡◌, drop}
use Rattle.std.specs.Prelude.{map}
use Rattle.ak_input.specs.Reading.{message_from, values_behind}
use Rattle.ak_input.specs.ReadSeen.{seen, got_values_of}
use Rattle.ak_input.proofs.reading.further_values.Given as goal

-- the values so far and those to come are all
abbrev pub invariant-loop-text : goal.invariant-loop-text
invariant-loop-text l =
    values_behind (message_from l.levels) (map seen (drop l.text-index l.texts)) (got_values_of l.read)
    ≡ values_behind (message_from l.levels) (map seen l.texts) (got_values_of l.fn.read)
