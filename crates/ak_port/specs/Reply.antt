-- The machine of a reply book: its state is read off the list of its entries, and tells which entry may come next.
use Rattle.std.specs.Prelude.{◌≡◌, ℕ, zero, suc, ◌==◌, Bool, false, IsTrue, List, [], ◌∷◌, ◌++◌, length, slice_get, Any, None, Some, codes}
use Rattle.std.specs.List.{list_any}
use Rattle.ak_base.specs.Code.{code_of}
use Rattle.ak_flatten.specs.Laws.{first_fault}
use Rattle.ak_flatten.specs.Spelling.{spelling}
use Rattle.ak_turn.specs.Stamps.{Rise}
use Rattle.ak_port.specs.declared.reply_entry.ReplyEntry.{ReplyEntry}
use Rattle.ak_port.specs.declared.reply_entry.ReplyEvent.{ReplyEvent}
use Rattle.ak_port.specs.declared.reply_entry.ReplyEvent.TheVariants.{Opened, Filled, Cancelled, Taken}

-- how far a slot is: open; filled, with the text of the reply; cancelled; or filled and taken
pub data Stage : Type 0 where
  open_stage : Stage
  filled_stage : List ℕ → Stage
  cancelled_stage : Stage
  taken_stage : Stage

-- a slot, with the number of the thread that opened it
pub record SlotData : Type 0 where
  pub opener : ℕ
  pub stage : Stage

abbrev pub slot_of : ℕ → Stage → SlotData
slot_of opener stage = record { opener = opener; stage = stage }

-- ---- the state: all slots, in the order of their numbers
-- the slot with that number is now so far
abbrev pub with_stage : List SlotData → ℕ → Stage → List SlotData
with_stage [] n stage = []
with_stage (slot ∷ slots) zero stage = slot_of slot.opener stage ∷ slots
with_stage (slot ∷ slots) (suc n) stage = slot ∷ with_stage slots n stage

-- what an event by that thread makes of the slots
abbrev pub changed : List SlotData → ℕ → ReplyEvent → List SlotData
changed slots by (Opened n) = slots ++ slot_of by open_stage ∷ []
changed slots by (Filled n flat) = with_stage slots n (filled_stage flat)
changed slots by (Cancelled n) = with_stage slots n cancelled_stage
changed slots by (Taken n) = with_stage slots n taken_stage

abbrev pub slots_from : List SlotData → List ReplyEntry → List SlotData
slots_from slots [] = slots
slots_from slots (entry ∷ entries) = slots_from (changed slots entry.by.0 entry.event) entries

-- the slots after these entries
abbrev pub slots_after : List ReplyEntry → List SlotData
slots_after entries = slots_from [] entries

-- ---- the table: which event by that thread may come next
abbrev pub BookStep : List SlotData → ℕ → ReplyEvent → Type 0
BookStep slots by (Opened n) = n ≡ length slots
BookStep slots by (Filled n flat) = (opener : ℕ) × (slice_get slots n ≡ Some (slot_of opener open_stage))
BookStep slots by (Cancelled n) = slice_get slots n ≡ Some (slot_of by open_stage)
BookStep slots by (Taken n) = (flat : List ℕ) × (slice_get slots n ≡ Some (slot_of by (filled_stage flat)))

-- each entry may come where it stands
abbrev pub Replays : List SlotData → List ReplyEntry → Type 0
Replays slots [] = Unit {0}
Replays slots (entry ∷ entries) = BookStep slots entry.by.0 entry.event × Replays (changed slots entry.by.0 entry.event) entries

-- the stamps rise, from past that number on
abbrev pub StampsRise : ℕ → List ReplyEntry → Type 0
StampsRise last entries = Rise (λ (entry : ReplyEntry). entry.stamp) last entries

-- the list is a history of a reply book
pub record IsLegal (entries : List ReplyEntry) : Type 0 where
  pub replays : Replays [] entries
  pub stamps : StampsRise 0 entries

-- ---- what entries show
-- the event fills or cancels the slot
abbrev pub settles : ℕ → ReplyEvent → Bool
settles n (Opened m) = false
settles n (Filled m flat) = m == n
settles n (Cancelled m) = m == n
settles n (Taken m) = false

-- the event fills the slot
abbrev pub fills : ℕ → ReplyEvent → Bool
fills n (Opened m) = false
fills n (Filled m flat) = m == n
fills n (Cancelled m) = false
fills n (Taken m) = false

-- the event takes what the slot was filled with
abbrev pub takes : ℕ → ReplyEvent → Bool
takes n (Opened m) = false
takes n (Filled m flat) = false
takes n (Cancelled m) = false
takes n (Taken m) = m == n

-- one of the entries fills or cancels the slot
abbrev pub IsSettled : ℕ → List ReplyEntry → Type 0
IsSettled n entries = IsTrue (list_any (λ (entry : ReplyEntry). settles n entry.event) entries)

-- one of the entries fills the slot
abbrev pub IsFilled : ℕ → List ReplyEntry → Type 0
IsFilled n entries = IsTrue (list_any (λ (entry : ReplyEntry). fills n entry.event) entries)

-- one of the entries fills the slot with that text
abbrev pub FillsWith : ℕ → List ℕ → List ReplyEntry → Type 0
FillsWith n flat entries = Any (λ (entry : ReplyEntry). entry.event ≡ Filled n flat) entries

-- ---- texts
-- the bytes are the flat text of a message
abbrev pub IsFlatText : List ℕ → Type 0
IsFlatText bytes = first_fault bytes ≡ None

-- the flat text that stands for no reply
abbrev pub none_text : List ℕ
none_text = spelling (record { what = code_of (codes "NONE"); fields = []; popped = 0 })

abbrev pub HasFlatText : ReplyEvent → Type 0
HasFlatText (Opened n) = Unit {0}
HasFlatText (Filled n flat) = IsFlatText flat
HasFlatText (Cancelled n) = Unit {0}
HasFlatText (Taken n) = Unit {0}
