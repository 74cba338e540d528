-- A message is measured by how deep messages may still stand in it.
use Rattle.std.proofs.Common.{◌+◌, ◌*◌, ◌≤◌}
use Rattle.ak_message.specs.Message.{depth_of}
use Rattle.ak_flatten.specs.Reading.{message_from}
use Rattle.ak_flatten.specs.Seen.{left_of}
use Rattle.ak_flatten.proofs.Growing.{IsGrowing, IsReading}
use Rattle.ak_flatten.proofs.reading.+messages.Given as goal

abbrev pub decreases-message : goal.decreases-message
decreases-message l = 6 * l.levels

abbrev pub decreases-fields : goal.decreases-fields
decreases-fields l = 6 * l.levels + 5

abbrev pub decreases-field : goal.decreases-field
decreases-field l = 6 * l.levels + 4

abbrev pub decreases-values : goal.decreases-values
decreases-values l = 6 * l.levels + 3

abbrev pub decreases-value : goal.decreases-value
decreases-value l = 6 * l.levels + 2

abbrev pub decreases-value_from : goal.decreases-value_from
decreases-value_from l = 6 * l.levels + 1

abbrev pub invariant-fields-loop : goal.invariant-fields-loop
invariant-fields-loop l =
    record {
      reading : IsReading (message_from l.levels) l.fn.message l.count (left_of l.input) l.counter l.message (left_of l.rest);
      shallow : depth_of l.message ≤ l.levels + 1;
    }

abbrev pub invariant-values-loop : goal.invariant-values-loop
invariant-values-loop l =
    record {
      growing : IsGrowing (message_from l.levels) l.fn.message l.name l.kind l.count (left_of l.input) l.counter l.message (left_of l.rest);
      shallow : depth_of l.message ≤ l.levels + 1;
    }
