-- Reading what was done to a port.
use Rattle.std.specs.Prelude.{ℕ, Bool, true, false, if◌then◌else◌, List, codes, Option, Some, None}
use Rattle.std.specs.Str.{bytes_eq}
use Rattle.ak_base.specs.Option.{where_true, ◌>>=◌}
use Rattle.ak_message.specs.declared.address.Address.{Address}
use Rattle.ak_message.specs.declared.address.Target.{Target}
use Rattle.ak_message.specs.declared.address.Target.TheVariants as target
use Rattle.ak_message.specs.Whole.{FitsTarget}
use Rattle.ak_flatten.specs.Item.{ItemData, item_fault}
use Rattle.ak_flatten.specs.declared.item.Duty.{Duty}
use Rattle.ak_flatten.specs.declared.item.Duty.TheVariants as duty
use Rattle.ak_port.specs.declared.port_entry.PortEvent.{PortEvent}
use Rattle.ak_port.specs.declared.port_entry.PortEvent.TheVariants as event
use Rattle.ak_journal.specs.declared.reading.port.Head.{Head}
use Rattle.ak_journal.specs.Legible.{Fits32, FitsDuty}
use Rattle.ak_journal.specs.Parting.{before, behind}
use Rattle.ak_journal.specs.ReadParts.{behind_key, first_of, flat_at, first_u32, u32_at, u32_of, u64_at, u64_of, where_none}

-- ---- words
abbrev pub target_of : List ℕ → Option Target
target_of word = if bytes_eq word (codes "p") then Some target.Preferred else u64_of word >>= λ token. Some (target.Token token)

abbrev pub mark_of : List ℕ → Option Bool
mark_of word = if bytes_eq word (codes "drop") then Some true else where_true (bytes_eq word (codes "prog")) false

-- the looper, a point, and the target
abbrev pub address_of : List ℕ → Option Address
address_of word =
    behind 46 word >>= λ rest. u32_of (before 46 word) >>= λ looper. target_of rest >>= λ where_to. Some (record { looper = looper; target = where_to })

abbrev pub back_of : List ℕ → Option Duty
back_of word = behind_key (codes "back:") word >>= λ rest. address_of rest >>= λ address. Some (duty.Back address)

abbrev pub slot_of : List ℕ → Option Duty
slot_of digits = u64_of digits >>= λ n. Some (duty.Slot n)

abbrev pub slot_or_back : Option (List ℕ) → List ℕ → Option Duty
slot_or_back (Some digits) word = slot_of digits
slot_or_back None word = back_of word

abbrev pub duty_of : List ℕ → Option Duty
duty_of word = if bytes_eq word (codes "none") then Some duty.None else slot_or_back (behind_key (codes "slot:") word) word

-- ---- items
abbrev pub target_at : List (List ℕ) → Option (Target × List (List ℕ))
target_at words = first_of words >>= λ word. target_of word.0 >>= λ where_to. Some (where_to, word.1)

abbrev pub mark_at : List (List ℕ) → Option (Bool × List (List ℕ))
mark_at words = first_of words >>= λ word. mark_of word.0 >>= λ dropped. Some (dropped, word.1)

abbrev pub duty_at : List (List ℕ) → Option (Duty × List (List ℕ))
duty_at words = first_of words >>= λ word. duty_of word.0 >>= λ owed. Some (owed, word.1)

-- its numbers are in their ranges
pub record FitsHead (head : Head) : Type 0 where
  pub target : FitsTarget head.target
  pub team : Fits32 head.team
  pub owed : FitsDuty head.duty
  pub popped : Fits32 head.popped

-- what stands before the message
unfoldable pub head_at : List (List ℕ) → Option (Head × List (List ℕ))
head_at words = do
  where_to ← target_at words
  team ← u32_at where_to.1
  dropped ← mark_at team.1
  owed ← duty_at dropped.1
  popped ← u32_at owed.1
  Some (record { target = where_to.0; team = team.0; dropped = dropped.0; duty = owed.0; popped = popped.0 }, popped.1)

abbrev pub item_with : Head → List ℕ → ItemData
item_with head flat =
    record { target = head.target; team = head.team; dropped = head.dropped; duty = head.duty; popped = head.popped; flat = flat }

-- the flat text is one, and of no fewer specifiers than are popped
abbrev pub kept_item : Head → List ℕ → Option ItemData
kept_item head flat = where_none (item_fault flat head.popped) (item_with head flat)

abbrev pub item_of : List (List ℕ) → Option ItemData
item_of words = head_at words >>= λ head. flat_at head.1 >>= λ flat. kept_item head.0 flat

-- ---- events
abbrev pub written_of : List (List ℕ) → Option PortEvent
written_of words = u64_at words >>= λ position. item_of position.1 >>= λ item. Some (event.Written position.0 item)

abbrev pub made_of : List (List ℕ) → Option PortEvent
made_of words = u32_at words >>= λ capacity. first_u32 capacity.1 >>= λ life. Some (event.Made capacity.0 life)

abbrev pub took_of : List (List ℕ) → Option PortEvent
took_of words = first_u32 words >>= λ k. Some (event.Took k)

abbrev pub rest_of : List (List ℕ) → Option PortEvent
rest_of words = first_u32 words >>= λ k. Some (event.Rest k)

-- all but a write that was accepted
abbrev pub short_event : List ℕ → List (List ℕ) → Option PortEvent
short_event key words =
    if bytes_eq key (codes "made") then made_of words
    else if bytes_eq key (codes "full") then Some event.Full
    else if bytes_eq key (codes "refused") then Some event.Refused
    else if bytes_eq key (codes "spent") then Some event.Spent
    else if bytes_eq key (codes "took") then took_of words
    else if bytes_eq key (codes "rest") then rest_of words
    else if bytes_eq key (codes "shut") then Some event.Shut
    else None

abbrev pub event_by : List ℕ → List (List ℕ) → Option PortEvent
event_by key words = if bytes_eq key (codes "written") then written_of words else short_event key words

abbrev pub port_event : List (List ℕ) → Option PortEvent
port_event words = first_of words >>= λ key. event_by key.0 key.1
