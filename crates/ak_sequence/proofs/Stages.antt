-- How far a slot is, is one of four; and a slot stays so far where the slots are the same.
use Rattle.std.proofs.Common.{◌≡◌, ◌∙◌, ℕ, List, Some, sym, ap}
use Rattle.std.specs.Prelude.{slice_get}
use Rattle.ak_port.specs.Reply.{SlotData, Stage, cancelled_stage, filled_stage, open_stage, slot_of, taken_stage}
use Rattle.ak_world.specs.World.{World}
use Rattle.ak_sequence.specs.Places.{HasStage}

-- ---- stages that differ
pub open_not_filled : (text : List ℕ) → open_stage ≡ filled_stage text → ⊥
open_not_filled text e = cc

pub open_not_taken : open_stage ≡ taken_stage → ⊥
open_not_taken e = cc

pub open_not_cancelled : open_stage ≡ cancelled_stage → ⊥
open_not_cancelled e = cc

pub filled_not_cancelled : (text : List ℕ) → filled_stage text ≡ cancelled_stage → ⊥
filled_not_cancelled text e = cc

pub filled_not_taken : (text : List ℕ) → filled_stage text ≡ taken_stage → ⊥
filled_not_taken text e = cc

pub taken_not_cancelled : taken_stage ≡ cancelled_stage → ⊥
taken_not_cancelled e = cc

-- ---- a slot has one stage
pub stages_same : (a b : ℕ) (s t : Stage) → slot_of a s ≡ slot_of b t → s ≡ t
stages_same a b s t e = ap (λ (slot : SlotData). slot.stage) e

pub one_stage : (w : World) (n : ℕ) (s t : Stage) → HasStage w n s → HasStage w n t → s ≡ t
one_stage w n s t a b = let e : Some (slot_of a.0 s) ≡ Some (slot_of b.0 t) = sym a.1 ∙ b.1 in let same : slot_of a.0 s ≡ slot_of b.0 t = cc in stages_same a.0 b.0 s t same

-- at no other object does a slot change
pub stage_on : (w w' : World) → w'.objects.slots ≡ w.objects.slots → (n : ℕ) (stage : Stage) → HasStage w n stage → HasStage w' n stage
stage_on w w' same n stage has = (has.0, ap (λ (slots : List SlotData). slice_get slots n) same ∙ has.1)
