-- What contracts see of a message's fields, and what is true of them.
use Rattle.std.specs.Prelude.{◌≡◌}
use Rattle.ak_message.specs.declared.message.Message.TheInside.{Inside}
use Rattle.ak_message.specs.Message.{MessageData, depth_of}
use Rattle.ak_message.specs.Seen.{fields_of}
use Rattle.ak_message.specs.Whole.{IsWhole}

abbrev pub message_in : Inside → MessageData
message_in m = record { what = m.what.0; fields = fields_of m.fields.items; popped = m.popped }

pub record IsSound (m : Inside) : Type 0 where
  pub whole : IsWhole (message_in m)
  pub depth : m.depth ≡ depth_of (message_in m)
