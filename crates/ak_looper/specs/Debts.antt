-- What is owed for a message, made ready and paid.
use Rattle.std.specs.Prelude.{◌≡◌, ◌⊎◌, ℕ, Bool, true, false, if◌then◌else◌, List, [], Option, None, Some}
use Rattle.ak_message.specs.declared.address.Address.{Address}
use Rattle.ak_message.specs.Message.{MessageData}
use Rattle.ak_flatten.specs.declared.item.Duty.{Duty}
use Rattle.ak_flatten.specs.declared.item.Duty.TheVariants as duty
use Rattle.ak_flatten.specs.Item.{ItemData}
use Rattle.ak_flatten.specs.Spelling.{spelling}
use Rattle.ak_port.specs.Reply.{IsFlatText, none_text}
use Rattle.ak_looper.specs.declared.duty.Debt.{Debt}
use Rattle.ak_looper.specs.declared.duty.Debt.TheVariants as debt
use Rattle.ak_looper.specs.Heard.{RepliedSo}
use Rattle.ak_diary.specs.Looper.{LooperFacts}
use Rattle.ak_diary.specs.Step.{Step}
use Rattle.ak_diary.specs.Turns.{Fills, LacksWay, is_no_reply}
use Rattle.ak_diary.specs.Wants.{Through, sent_item}

-- ---- made ready, with memory for the text or without
-- to a slot: its text; none where the reply is none
abbrev pub slot_owed : ℕ → MessageData → Debt
slot_owed n m = if is_no_reply m then debt.NoReply n else debt.Text n (spelling m)

-- to an address: the item; nothing where the reply is none
abbrev pub back_owed : ℕ → Address → MessageData → Debt
back_owed team to m = if is_no_reply m then debt.Nothing else debt.Back to (sent_item team to duty.None m)

-- memory was there for the text, or it was wanting
abbrev pub IsSlotDebt : ℕ → MessageData → Bool → Debt → Type 0
IsSlotDebt n m false d = d ≡ slot_owed n m
IsSlotDebt n m true d = (is_no_reply m ≡ false) × (d ≡ debt.NoReply n)

abbrev pub IsBackDebt : ℕ → Address → MessageData → Bool → Debt → Type 0
IsBackDebt team to m false d = d ≡ back_owed team to m
IsBackDebt team to m true d = (is_no_reply m ≡ false) × (d ≡ debt.Nothing)

abbrev pub IsNothing : Bool → Debt → Type 0
IsNothing lacks d = (lacks ≡ false) × (d ≡ debt.Nothing)

abbrev pub IsDebt : ℕ → Duty → Option MessageData → Bool → Debt → Type 0
IsDebt team owed None lacks d = IsNothing lacks d
IsDebt team duty.None (Some m) lacks d = IsNothing lacks d
IsDebt team (duty.Slot n) (Some m) lacks d = IsSlotDebt n m lacks d
IsDebt team (duty.Back to) (Some m) lacks d = IsBackDebt team to m lacks d

-- a text is a flat text
abbrev pub IsPayable : Debt → Type 0
IsPayable (debt.Text n flat) = IsFlatText flat
IsPayable debt.Nothing = Unit {0}
IsPayable (debt.NoReply n) = Unit {0}
IsPayable (debt.Back to item) = Unit {0}

-- ---- paid
-- through the door to the looper of that address; or there was no memory for the door
abbrev pub PaysBack : LooperFacts → List Step → Address → ItemData → Bool → List Step → Type 0
PaysBack l so_far to item true steps = Through l so_far to.looper (RepliedSo to.looper item true) steps
PaysBack l so_far to item false steps = LacksWay l so_far to.looper steps ⊎ Through l so_far to.looper (RepliedSo to.looper item false) steps

-- by these steps; false where memory was wanting
abbrev pub PaysDebt : LooperFacts → List Step → Debt → Bool → List Step → Type 0
PaysDebt l so_far debt.Nothing paid steps = (paid ≡ true) × (steps ≡ [])
PaysDebt l so_far (debt.Text n flat) paid steps = (paid ≡ true) × Fills n flat steps
PaysDebt l so_far (debt.NoReply n) paid steps = (paid ≡ true) × Fills n none_text steps
PaysDebt l so_far (debt.Back to item) paid steps = PaysBack l so_far to item paid steps
