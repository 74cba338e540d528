-- What is read is measured by how deep messages may still stand in it.
use Rattle.std.proofs.Common.{◌≡◌, ◌+◌, ◌*◌, drop, None}
use Rattle.std.specs.Prelude.{map}
use Rattle.ak_input.specs.Reading.{message_from, values_added, fields_behind}
use Rattle.ak_input.specs.ReadSeen.{seen, built_of}
use Rattle.ak_input.proofs.reading.+values.Given as goal

abbrev pub decreases-message : goal.decreases-message
decreases-message l = 6 * l.levels

abbrev pub decreases-message_of : goal.decreases-message_of
decreases-message_of l = 6 * l.levels + 5

abbrev pub decreases-field : goal.decreases-field
decreases-field l = 6 * l.levels + 4

abbrev pub decreases-add_values : goal.decreases-add_values
decreases-add_values l = 6 * l.levels + 3

abbrev pub decreases-value : goal.decreases-value
decreases-value l = 6 * l.levels + 2

abbrev pub decreases-payload_value : goal.decreases-payload_value
decreases-payload_value l = 6 * l.levels + 1

abbrev pub invariant-add_values-loop-text : goal.invariant-add_values-loop-text
invariant-add_values-loop-text l =
    values_added (message_from l.levels) l.name (map seen (drop l.text-index l.texts)) l.kind l.message
    ≡ values_added (message_from l.levels) l.name (map seen l.texts) None l.fn.message

abbrev pub invariant-message_of-loop-word : goal.invariant-message_of-loop-word
invariant-message_of-loop-word l =
    fields_behind (message_from l.levels) (map seen (drop l.word-index l.fields)) (built_of l.building)
    ≡ fields_behind (message_from l.levels) (map seen l.fields) (built_of l.initial.building)
