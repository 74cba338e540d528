-- The first field of the name is the first one among those that are left.
use Rattle.std.proofs.Common.{◌≡◌, ◌+◌, drop}
use Rattle.std.specs.List.{position_or_len}
use Rattle.ak_message.specs.Fields.{is_named}
use Rattle.ak_message.specs.Seen.{fields_of}
use Rattle.ak_message.proofs.message.place_of.Given as goal

abbrev pub invariant-loop-place : goal.invariant-loop-place
invariant-loop-place l =
    position_or_len (is_named l.name) (fields_of l.fields)
    ≡ l.place + position_or_len (is_named l.name) (fields_of (drop l.place l.fields))
