-- Reading what was done to a slot of the reply book.
use Rattle.std.specs.Prelude.{ℕ, if◌then◌else◌, List, codes, Option, Some, None}
use Rattle.std.specs.Str.{bytes_eq}
use Rattle.ak_base.specs.Option.{◌>>=◌}
use Rattle.ak_flatten.specs.Laws.{first_fault}
use Rattle.ak_port.specs.declared.reply_entry.ReplyEvent.{ReplyEvent}
use Rattle.ak_port.specs.declared.reply_entry.ReplyEvent.TheVariants as event
use Rattle.ak_journal.specs.ReadParts.{first_of, flat_at, first_u64, u64_at, where_none}

-- bytes that are a flat text
abbrev pub reply_of : List (List ℕ) → Option (List ℕ)
reply_of words = flat_at words >>= λ flat. where_none (first_fault flat) flat

abbrev pub filled_of : List (List ℕ) → Option ReplyEvent
filled_of words = u64_at words >>= λ slot. reply_of slot.1 >>= λ flat. Some (event.Filled slot.0 flat)

abbrev pub slot_event : List ℕ → ℕ → Option ReplyEvent
slot_event key slot =
    if bytes_eq key (codes "opened") then Some (event.Opened slot)
    else if bytes_eq key (codes "cancelled") then Some (event.Cancelled slot)
    else if bytes_eq key (codes "taken") then Some (event.Taken slot)
    else None

-- all but a slot that was filled
abbrev pub short_event : List ℕ → List (List ℕ) → Option ReplyEvent
short_event key words = first_u64 words >>= λ slot. slot_event key slot

abbrev pub event_by : List ℕ → List (List ℕ) → Option ReplyEvent
event_by key words = if bytes_eq key (codes "filled") then filled_of words else short_event key words

abbrev pub book_event : List (List ℕ) → Option ReplyEvent
book_event words = first_of words >>= λ key. event_by key.0 key.1
