-- Messages stand in one another only so deep.
use Rattle.std.proofs.Common.{◌+◌, ◌*◌}
use Rattle.desk_rows.proofs.values.+values.Given as goal

abbrev pub decreases-message_within : goal.decreases-message_within
decreases-message_within l = 3 * l.depth + 2

abbrev pub decreases-field_within : goal.decreases-field_within
decreases-field_within l = 3 * l.depth + 1

abbrev pub decreases-value_within : goal.decreases-value_within
decreases-value_within l = 3 * l.depth
