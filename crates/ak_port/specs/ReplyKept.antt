-- What contracts see of the entries and slots as a reply book keeps them.
use Rattle.std.specs.Prelude.{◌≡◌, ℕ, ◌+◌, ◌*◌, ◌≤◌, Bool, true, false, List, length, take, drop, map, count_by, All, Some, slice_get, slice_set}
use Rattle.ak_flatten.specs.Limits.{flat_limit}
use Rattle.ak_port.specs.declared.reply_entry.ReplyEntry.{ReplyEntry}
use Rattle.ak_port.specs.declared.reply_entry.ReplyEvent.{ReplyEvent}
use Rattle.ak_port.specs.declared.reply_entry.ReplyEvent.TheVariants as event
use Rattle.ak_port.specs.declared.reply_kept.Kept.{Kept}
use Rattle.ak_port.specs.declared.reply_kept.KeptEvent.{KeptEvent}
use Rattle.ak_port.specs.declared.reply_kept.KeptEvent.TheVariants as kept
use Rattle.ak_port.specs.declared.reply_kept.Range.{Range}
use Rattle.ak_port.specs.declared.reply_slot.Progress.{Progress}
use Rattle.ak_port.specs.declared.reply_slot.Progress.TheVariants as progress
use Rattle.ak_port.specs.declared.reply_slot.Slot.{Slot}
use Rattle.ak_port.specs.Reply.{Stage, open_stage, filled_stage, cancelled_stage, taken_stage, SlotData, slot_of, slots_after, IsLegal, HasFlatText, none_text}

-- ---- entries
-- the bytes of the store in that range
abbrev pub text_in : List ℕ → Range → List ℕ
text_in store range = take range.len (drop range.from store)

abbrev pub event_seen : List ℕ → KeptEvent → ReplyEvent
event_seen store (kept.Opened n) = event.Opened n
event_seen store (kept.Filled n range) = event.Filled n (text_in store range)
event_seen store (kept.Cancelled n) = event.Cancelled n
event_seen store (kept.Taken n) = event.Taken n

abbrev pub entry_seen : List ℕ → Kept → ReplyEntry
entry_seen store entry = record { stamp = entry.stamp; by = entry.by; event = event_seen store entry.event }

abbrev pub entries_seen : List ℕ → List Kept → List ReplyEntry
entries_seen store entries = map (entry_seen store) entries

-- the text of the event ends within so many bytes
abbrev pub IsWithin : ℕ → KeptEvent → Type 0
IsWithin len (kept.Opened n) = Unit {0}
IsWithin len (kept.Filled n range) = range.from + range.len ≤ len
IsWithin len (kept.Cancelled n) = Unit {0}
IsWithin len (kept.Taken n) = Unit {0}

-- ---- slots
abbrev pub stage_seen : Progress → List ℕ → Stage
stage_seen progress.Open flat = open_stage
stage_seen progress.Filled flat = filled_stage flat
stage_seen progress.Cancelled flat = cancelled_stage
stage_seen progress.Taken flat = taken_stage

abbrev pub open_progress : Progress → Bool
open_progress progress.Open = true
open_progress progress.Filled = false
open_progress progress.Cancelled = false
open_progress progress.Taken = false

abbrev pub filled_progress : Progress → Bool
filled_progress progress.Open = false
filled_progress progress.Filled = true
filled_progress progress.Cancelled = false
filled_progress progress.Taken = false

abbrev pub slot_seen : Slot → SlotData
slot_seen slot = slot_of slot.opener.0 (stage_seen slot.progress slot.flat)

abbrev pub is_open : Slot → Bool
is_open slot = open_progress slot.progress

abbrev pub is_filled : Slot → Bool
is_filled slot = filled_progress slot.progress

-- the slot at that place is now so far, with those bytes of what it had
abbrev pub IsMoved : List Slot → List Slot → ℕ → Progress → (List ℕ → List ℕ) → Type 0
IsMoved old new place progress flat =
    (slot : Slot) → slice_get old place ≡ Some slot → new ≡ slice_set old place (record { opener = slot.opener; progress = progress; flat = flat slot.flat })

-- ---- both
-- the slots are those of the entries, so many of them open and so many filled; an open one has the text for no reply
pub record Tallies (entries : List ReplyEntry) (slots : List Slot) (waiting filled : ℕ) : Type 0 where
  pub same : map slot_seen slots ≡ slots_after entries
  pub spare : All (λ slot. slot.progress ≡ progress.Open → slot.flat ≡ none_text) slots
  pub opened : waiting ≡ count_by is_open slots
  pub full : filled ≡ count_by is_filled slots

-- the entries are a history, with texts that stand in the store, and the slots are theirs
pub record Told (store : List ℕ) (entries : List Kept) (slots : List Slot) (waiting filled : ℕ) : Type 0 where
  pub legal : IsLegal (entries_seen store entries)
  pub texts : All (λ entry. HasFlatText entry.event) (entries_seen store entries)
  pub ranges : All (λ entry. IsWithin (length store) entry.event) entries
  pub tallies : Tallies (entries_seen store entries) slots waiting filled

-- there is memory for two entries more of each open slot and one of each filled one, and for 4,096 bytes of each open one
pub record HasRoom (len cap bytes bytes_cap waiting filled : ℕ) : Type 0 where
  pub for_entries : len + (2 * waiting + filled) ≤ cap
  pub for_bytes : bytes + flat_limit * waiting ≤ bytes_cap
