-- What each entry at the reply book makes of the slots of a sound world.
use Rattle.std.proofs.Common.{◌≡◌, ◌≢◌, ◌⊎◌, ◌∙◌, ℕ, List, [], ◌∷◌, ◌++◌, length, Some, sym, ap, subst, inl, inr, ⊎_elim, arith}
use Rattle.std.specs.Prelude.{slice_get}
use Rattle.std.proofs.lemmas.Bool.{cases_eq}
use Rattle.std.proofs.lemmas.Option.{slice_get_within}
use Rattle.ak_port.specs.Reply.{SlotData, Stage, cancelled_stage, filled_stage, open_stage, slot_of, taken_stage, with_stage}
use Rattle.ak_world.specs.World.{World}
use Rattle.ak_sequence.specs.Places.{HasStage, IsAt, IsOpen, IsSound, IsWritten, Place}
use Rattle.ak_port.proofs.Surface.{get_left, get_other, get_push, get_same, get_staged}
use Rattle.ak_sequence.proofs.Stages.{open_not_cancelled, open_not_filled, open_not_taken, stage_on, stages_same}
use Rattle.ak_sequence.proofs.Keeping.{KeepsSlots}

module _ (w w' : World) (sound : IsSound w) where
  pub slots_same : w'.objects.slots ≡ w.objects.slots → KeepsSlots w w'
  slots_same same = record {
    was_open = λ n written opened. stage_on w' w (sym same) n open_stage opened;
    still_open = λ n place at opened. stage_on w w' same n open_stage opened;
    stage = λ n stage has. (stage, stage_on w w' same n stage has);
    filled = λ n text has. sound.filled_written n text (stage_on w' w (sym same) n (filled_stage text) has);
    taken = λ n has. sound.taken_written n (stage_on w' w (sym same) n taken_stage has);
    uncancelled = λ n written has. sound.uncancelled n written (stage_on w' w (sym same) n cancelled_stage has);
  }

  -- ---- a slot is opened
  module _ (by : ℕ) (more : w'.objects.slots ≡ w.objects.slots ++ slot_of by open_stage ∷ []) where
    opened_on : (n : ℕ) (stage : Stage) → HasStage w n stage → HasStage w' n stage
    opened_on n stage has = (
      has.0,
      ap (λ (slots : List SlotData). slice_get slots n) more
          ∙ get_left w.objects.slots (slot_of by open_stage ∷ []) n (slice_get_within w.objects.slots n (slot_of has.0 stage) has.1)
          ∙ has.1,
    )

    opened_back : (n : ℕ) (stage : Stage) → HasStage w' n stage → HasStage w n stage ⊎ ((n ≡ length w.objects.slots) × (open_stage ≡ stage))
    opened_back n stage has =
        ⊎_elim
        (λ (t : slice_get w.objects.slots n ≡ Some (slot_of has.0 stage)). inl (has.0, t))
        (λ (t : (n ≡ length w.objects.slots) × (slot_of by open_stage ≡ slot_of has.0 stage)). inr (t.0, stages_same by has.0 open_stage stage t.1))
        (get_push w.objects.slots (slot_of by open_stage) (slot_of has.0 stage) n (ap (λ (slots : List SlotData). slice_get slots n) (sym more) ∙ has.1))

    pub slots_opened : KeepsSlots w w'
    slots_opened = record {
      was_open = λ n written opened.
          ⊎_elim
          (λ (t : IsOpen w n). t)
          (λ (t : (n ≡ length w.objects.slots) × (open_stage ≡ open_stage)).
          let was = sound.written_opened n written in
          let within = slice_get_within w.objects.slots n (slot_of was.1.0 was.0) was.1.1 in
          let past = t.0 in
          absurd (omega arith))
          (opened_back n open_stage opened);
      still_open = λ n place at opened. opened_on n open_stage opened;
      stage = λ n stage has. (stage, opened_on n stage has);
      filled = λ n text has.
          ⊎_elim
          (λ (t : HasStage w n (filled_stage text)). sound.filled_written n text t)
          (λ (t : (n ≡ length w.objects.slots) × (open_stage ≡ filled_stage text)). absurd (open_not_filled text t.1))
          (opened_back n (filled_stage text) has);
      taken = λ n has.
          ⊎_elim
          (λ (t : HasStage w n taken_stage). sound.taken_written n t)
          (λ (t : (n ≡ length w.objects.slots) × (open_stage ≡ taken_stage)). absurd (open_not_taken t.1))
          (opened_back n taken_stage has);
      uncancelled = λ n written has.
          ⊎_elim
          (λ (t : HasStage w n cancelled_stage). sound.uncancelled n written t)
          (λ (t : (n ≡ length w.objects.slots) × (open_stage ≡ cancelled_stage)). open_not_cancelled t.1)
          (opened_back n cancelled_stage has);
    }

  -- ---- a slot is filled, cancelled or taken from
  module _ (number : ℕ) (now : Stage) (changed : w'.objects.slots ≡ with_stage w.objects.slots number now) where
    staged_back : (n : ℕ) (stage : Stage) → HasStage w' n stage → HasStage w n stage ⊎ ((number ≡ n) × (stage ≡ now))
    staged_back n stage has =
        ⊎_elim
        (λ (t : slice_get w.objects.slots n ≡ Some (slot_of has.0 stage)). inl (has.0, t))
        (λ (t : (number ≡ n) × (stage ≡ now)). inr t)
        (get_staged w.objects.slots number n now (slot_of has.0 stage) (ap (λ (slots : List SlotData). slice_get slots n) (sym changed) ∙ has.1))

    staged_other : (n : ℕ) (stage : Stage) → n ≢ number → HasStage w n stage → HasStage w' n stage
    staged_other n stage ne has = (has.0, ap (λ (slots : List SlotData). slice_get slots n) changed ∙ get_other w.objects.slots number n now ne ∙ has.1)

    staged_own : (n : ℕ) (stage : Stage) → n ≡ number → HasStage w n stage → HasStage w' n now
    staged_own n stage e has = (
      has.0,
      ap (λ (slots : List SlotData). slice_get slots n) (changed ∙ ap (λ (k : ℕ). with_stage w.objects.slots k now) (sym e))
          ∙ get_same w.objects.slots n has.0 stage now has.1,
    )

    pub slots_staged
        : (open_stage ≡ now → ⊥) → ((place : Place) → IsAt w' number place → ⊥) → ((text : List ℕ) → filled_stage text ≡ now → IsWritten w number) → (taken_stage ≡ now → IsWritten w number)
        → (cancelled_stage ≡ now → ¬ (IsWritten w number)) → KeepsSlots w w'
    slots_staged not_open emptied filled taken cancelled = record {
      was_open = λ n written opened.
          ⊎_elim (λ (t : IsOpen w n). t) (λ (t : (number ≡ n) × (open_stage ≡ now)). absurd (not_open t.1)) (staged_back n open_stage opened);
      still_open = λ n place at opened.
          ⊎_elim
          (λ (e : n ≡ number). absurd (emptied place (subst (λ (k : ℕ). IsAt w' k place) e at)))
          (λ (ne : n ≢ number). staged_other n open_stage ne opened)
          (cases_eq n number);
      stage = λ n stage has.
          ⊎_elim
          (λ (e : n ≡ number). (now, staged_own n stage e has))
          (λ (ne : n ≢ number). (stage, staged_other n stage ne has))
          (cases_eq n number);
      filled = λ n text has.
          ⊎_elim
          (λ (t : HasStage w n (filled_stage text)). sound.filled_written n text t)
          (λ (t : (number ≡ n) × (filled_stage text ≡ now)). subst (λ (k : ℕ). IsWritten w k) t.0 (filled text t.1))
          (staged_back n (filled_stage text) has);
      taken = λ n has.
          ⊎_elim
          (λ (t : HasStage w n taken_stage). sound.taken_written n t)
          (λ (t : (number ≡ n) × (taken_stage ≡ now)). subst (λ (k : ℕ). IsWritten w k) t.0 (taken t.1))
          (staged_back n taken_stage has);
      uncancelled = λ n written has.
          ⊎_elim
          (λ (t : HasStage w n cancelled_stage). sound.uncancelled n written t)
          (λ (t : (number ≡ n) × (cancelled_stage ≡ now)). cancelled t.1 (subst (λ (k : ℕ). IsWritten w k) (sym t.0) written))
          (staged_back n cancelled_stage has);
    }
