-- Where a slot is that an accepted item owes and that is still to be filled, and what holds of a world at each moment.
use Rattle.std.specs.Prelude.{◌≡◌, ◌≤◌, ℕ, suc, true, false, List, [], ◌∷◌, ◌++◌, map, drop, length, Option, Some, slice_get}
use Rattle.ak_message.specs.Message.{MessageData}
use Rattle.ak_flatten.specs.declared.item.Duty.TheVariants as duty
use Rattle.ak_flatten.specs.declared.item.Taken.{Taken}
use Rattle.ak_flatten.specs.Item.{ItemData}
use Rattle.ak_port.specs.PortMachine.{taken_items}
use Rattle.ak_port.specs.Reply.{Stage, cancelled_stage, filled_stage, open_stage, slot_of, taken_stage}
use Rattle.ak_world.specs.World.{Held, Owed, World}

-- ---- places
-- an item at a looper, by its position there: pending at its port, in its hand, among those that it left; or the last one that it
-- dispatched, for which it still owes
pub data Place : Type 0 where
  pending : ℕ → ℕ → Place
  in_hand : ℕ → ℕ → Place
  left_over : ℕ → ℕ → Place
  owed : ℕ → ℕ → Place

abbrev pub looper_of : Place → ℕ
looper_of (pending looper position) = looper
looper_of (in_hand looper position) = looper
looper_of (left_over looper position) = looper
looper_of (owed looper position) = looper

abbrev pub position_of : Place → ℕ
position_of (pending looper position) = position
position_of (in_hand looper position) = position
position_of (left_over looper position) = position
position_of (owed looper position) = position

-- the port of that looper accepted at that position an item that owes the slot
pub record Accepts (w : World) (n looper position : ℕ) : Type 0 where
  pub item : ItemData
  pub there : slice_get (w.objects.ports looper).written position ≡ Some item
  pub owes : item.duty ≡ duty.Slot n

-- it was not taken yet
pub record IsPending (w : World) (n looper position : ℕ) : Type 0 where
  pub accepts : Accepts w n looper position
  pub untaken : (w.objects.ports looper).taken ≤ position

-- one of these has that position, and the slot is still owed for it
pub record IsAmong (things : List Held) (n position : ℕ) : Type 0 where
  pub before : List Held
  pub one : Held
  pub behind : List Held
  pub there : things ≡ before ++ one ∷ behind
  pub position_is : one.taken.position ≡ position
  pub owes : one.owing ≡ duty.Slot n

-- the looper owes it for its last dispatch
pub record IsOwed (w : World) (n looper position : ℕ) : Type 0 where
  pub reply : Option MessageData
  pub owes : (w.works looper).owed ≡ Some (record { slot = n; reply = reply })
  pub last : (w.objects.desks looper).dispatched ≡ suc position

-- the slot is there
abbrev pub IsAt : World → ℕ → Place → Type 0
IsAt w n (pending looper position) = IsPending w n looper position
IsAt w n (in_hand looper position) = IsAmong (w.works looper).hand n position
IsAt w n (left_over looper position) = IsAmong (w.works looper).left n position
IsAt w n (owed looper position) = IsOwed w n looper position

-- ---- slots
-- some port accepted an item that owes it
pub record IsWritten (w : World) (n : ℕ) : Type 0 where
  pub looper : ℕ
  pub position : ℕ
  pub accepts : Accepts w n looper position

abbrev pub HasStage : World → ℕ → Stage → Type 0
HasStage w n stage = (opener : ℕ) × (slice_get w.objects.slots n ≡ Some (slot_of opener stage))

-- opened, and neither filled nor cancelled
abbrev pub IsOpen : World → ℕ → Type 0
IsOpen w n = HasStage w n open_stage

-- ---- items
abbrev pub taken_of : Held → Taken
taken_of one = one.taken

-- Of one looper: no more was dispatched than taken, and no more taken than written. What it has in hand, or what it left once it took the
-- rest, is what it took and did not dispatch, in order. What it owes, it owes for a dispatch
pub record HoldsInOrder (w : World) (looper : ℕ) : Type 0 where
  pub dispatched : (w.objects.desks looper).dispatched ≤ (w.objects.ports looper).taken
  pub taken : (w.objects.ports looper).taken ≤ length (w.objects.ports looper).written
  pub in_hand : (w.objects.ports looper).rested ≡ false
      → ((w.works looper).left ≡ []) × (map taken_of (w.works looper).hand ≡ drop (w.objects.desks looper).dispatched (taken_items (w.objects.ports looper)))
  pub left_over : (w.objects.ports looper).rested ≡ true
      → ((w.works looper).hand ≡ []) × (map taken_of (w.works looper).left ≡ drop (w.objects.desks looper).dispatched (taken_items (w.objects.ports looper)))
  pub shut : (w.objects.ports looper).rested ≡ true → ((w.objects.ports looper).shut ≡ true) × ((w.objects.ports looper).taken ≡ length (w.objects.ports looper).written)
  pub owing : (one : Owed) → (w.works looper).owed ≡ Some one → 1 ≤ (w.objects.desks looper).dispatched

-- ---- at each moment
-- Each slot that an accepted item owes is filled, or open and in exactly one place; none of them is cancelled. In each place there is an
-- item that owes the slot: the looper's port accepted it at that position; and the slot is open. Each slot that an accepted item owes was
-- opened, and each that was filled or taken from is owed by one. And each looper holds its items in order
pub record IsSound (w : World) : Type 0 where
  pub somewhere : (n : ℕ) → IsWritten w n → IsOpen w n → (place : Place) × IsAt w n place
  pub once : (n : ℕ) (place other : Place) → IsAt w n place → IsAt w n other → place ≡ other
  pub placed_open : (n : ℕ) (place : Place) → IsAt w n place → IsOpen w n
  pub placed : (n : ℕ) (place : Place) → IsAt w n place → Accepts w n (looper_of place) (position_of place)
  pub uncancelled : (n : ℕ) → IsWritten w n → ¬ (HasStage w n cancelled_stage)
  pub written_opened : (n : ℕ) → IsWritten w n → (stage : Stage) × HasStage w n stage
  pub filled_written : (n : ℕ) (text : List ℕ) → HasStage w n (filled_stage text) → IsWritten w n
  pub taken_written : (n : ℕ) → HasStage w n taken_stage → IsWritten w n
  pub holds : (looper : ℕ) → HoldsInOrder w looper
