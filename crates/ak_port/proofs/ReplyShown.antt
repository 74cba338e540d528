-- What the slots show of the entries, and what holds of every history.
use Rattle.std.proofs.Common.{◌≡◌, ◌≢◌, ℕ, zero, suc, ◌+◌, ◌<◌, ◌≤◌, ◌⊎◌, Bool, true, false, cond, List, [], ◌∷◌, ◌++◌, length, Option, Some, None, sym, refl, ap, subst, inl, inr, ⊎_elim, arith, eq-eqb, ne_eqb, eqb}
use Rattle.std.specs.Prelude.{slice_get, Any, IsTrue, count_by}
use Rattle.std.proofs.lemmas.Bool.{cases_eq, cases_lt}
use Rattle.std.proofs.lemmas.List.Folds.{list_any-from_Any}
use Rattle.std.proofs.lemmas.List.Sums.{sum_by-cons}
use Rattle.std.proofs.lemmas.Option.{slice_get_past}
use Rattle.ak_port.specs.declared.reply_entry.ReplyEntry.{ReplyEntry}
use Rattle.ak_port.specs.declared.reply_entry.ReplyEvent.{ReplyEvent}
use Rattle.ak_port.specs.declared.reply_entry.ReplyEvent.TheVariants.{Opened, Filled, Cancelled, Taken}
use Rattle.ak_port.specs.Reply.{Stage, open_stage, filled_stage, cancelled_stage, taken_stage, SlotData, slot_of, with_stage, changed, slots_from, slots_after, BookStep, Replays, IsLegal, settles, fills, takes, IsSettled, IsFilled, FillsWith}
use Rattle.ak_port.specs.ReplyLaws.{SettledOnce, TakenOnce, TakenAfterFilled}
use Rattle.ak_port.proofs.ReplyHistory.{Replays-append}
use Rattle.ak_port.proofs.ReplySlots.{get_left, get_push, get_same, get_other, get_staged}

-- ---- what is true of the slots was brought about by an entry
module _ {X : Type 0} (p : X → Type 0) where
  any_here : (x : X) (xs : List X) → p x → Any p (x ∷ xs)
  any_here x xs h = (zero, x, omega arith, refl, h)

  any_there : (x : X) (xs : List X) → Any p xs → Any p (x ∷ xs)
  any_there x xs h = (suc h.0, h.1, omega (arith, h.2), h.3, h.4)

module _ (P : List SlotData → Type 0) (p : ReplyEntry → Type 0)
    (step : (slots : List SlotData) (entry : ReplyEntry) → BookStep slots entry.by.0 entry.event → P (changed slots entry.by.0 entry.event) → P slots ⊎ p entry) where
  shown_by : (slots : List SlotData) (entries : List ReplyEntry) → Replays slots entries → P (slots_from slots entries) → P slots ⊎ Any p entries
  shown_by slots [] replays holds = inl holds
  shown_by slots (x ∷ xs) replays holds =
      ⊎_elim
      (λ (then : P (changed slots x.by.0 x.event)). ⊎_elim (λ before. inl before) (λ (here : p x). inr (any_here p x xs here)) (step slots x replays.0 then))
      (λ (later : Any p xs). inr (any_there p x xs later)) (shown_by (changed slots x.by.0 x.event) xs replays.1 holds)

-- the slot is filled with that text
abbrev FilledAt : ℕ → List ℕ → List SlotData → Type 0
FilledAt n flat slots = (opener : ℕ) × (slice_get slots n ≡ Some (slot_of opener (filled_stage flat)))

filled_step : (n : ℕ) (flat : List ℕ) (slots : List SlotData) (by : ℕ) (event : ReplyEvent) → FilledAt n flat (changed slots by event) → FilledAt n flat slots ⊎ (event ≡ Filled n flat)
filled_step n flat slots by (Opened m) at =
    ⊎_elim (λ (t : slice_get slots n ≡ Some (slot_of at.0 (filled_stage flat))). inl (at.0, t))
    (λ (t : (n ≡ length slots) × (slot_of by open_stage ≡ slot_of at.0 (filled_stage flat))). absurd (let e = ap (λ (s : SlotData). s.stage) t.1 in cc))
    (get_push slots (slot_of by open_stage) (slot_of at.0 (filled_stage flat)) n at.1)
filled_step n flat slots by (Filled m f) at =
    ⊎_elim (λ (t : slice_get slots n ≡ Some (slot_of at.0 (filled_stage flat))). inl (at.0, t))
    (λ (t : (m ≡ n) × (filled_stage flat ≡ filled_stage f)). inr (cc))
    (get_staged slots m n (filled_stage f) (slot_of at.0 (filled_stage flat)) at.1)
filled_step n flat slots by (Cancelled m) at =
    ⊎_elim (λ (t : slice_get slots n ≡ Some (slot_of at.0 (filled_stage flat))). inl (at.0, t))
    (λ (t : (m ≡ n) × (filled_stage flat ≡ cancelled_stage)). absurd (cc))
    (get_staged slots m n cancelled_stage (slot_of at.0 (filled_stage flat)) at.1)
filled_step n flat slots by (Taken m) at =
    ⊎_elim (λ (t : slice_get slots n ≡ Some (slot_of at.0 (filled_stage flat))). inl (at.0, t))
    (λ (t : (m ≡ n) × (filled_stage flat ≡ taken_stage)). absurd (cc))
    (get_staged slots m n taken_stage (slot_of at.0 (filled_stage flat)) at.1)

-- what a slot is filled with, an entry filled it with
pub fills_with : (n : ℕ) (flat : List ℕ) (opener : ℕ) (entries : List ReplyEntry) → IsLegal entries → slice_get (slots_after entries) n ≡ Some (slot_of opener (filled_stage flat)) → FillsWith n flat entries
fills_with n flat opener entries legal there =
    ⊎_elim (λ (none : FilledAt n flat []). absurd (let e = none.1 in cc)) (λ h. h)
    (shown_by (FilledAt n flat) (λ entry. entry.event ≡ Filled n flat) (λ slots entry step at. filled_step n flat slots entry.by.0 entry.event at) [] entries legal.replays (opener, there))

-- ---- a slot that is no longer open was filled or cancelled
module _ (Q : Stage → Type 0) (no : Q open_stage → ⊥) (n : ℕ) where
  abbrev SlotIs : List SlotData → Type 0
  SlotIs slots = (slot : SlotData) × (slice_get slots n ≡ Some slot) × Q slot.stage

  still : (slots : List SlotData) (m : ℕ) (stage : Stage) (P : Type 0) → (m ≡ n → Q stage → SlotIs slots ⊎ P) → SlotIs (with_stage slots m stage) → SlotIs slots ⊎ P
  still slots m stage P here at =
      ⊎_elim (λ (t : slice_get slots n ≡ Some at.0). inl (at.0, t, at.2)) (λ (t : (m ≡ n) × (at.0.stage ≡ stage)). here t.0 (subst Q t.1 at.2)) (get_staged slots m n stage at.0 at.1)

  after_opening : (slots : List SlotData) (by : ℕ) (P : Type 0) → SlotIs (slots ++ slot_of by open_stage ∷ []) → SlotIs slots ⊎ P
  after_opening slots by P at =
      ⊎_elim (λ (t : slice_get slots n ≡ Some at.0). inl (at.0, t, at.2))
      (λ (t : (n ≡ length slots) × (slot_of by open_stage ≡ at.0)). absurd (no (subst (λ (s : SlotData). Q s.stage) (sym t.1) at.2)))
      (get_push slots (slot_of by open_stage) at.0 n at.1)

abbrev IsClosed : Stage → Type 0
IsClosed open_stage = ⊥
IsClosed (filled_stage flat) = Unit {0}
IsClosed cancelled_stage = Unit {0}
IsClosed taken_stage = Unit {0}

abbrev IsFull : Stage → Type 0
IsFull open_stage = ⊥
IsFull (filled_stage flat) = Unit {0}
IsFull cancelled_stage = ⊥
IsFull taken_stage = Unit {0}

closed_step : (n : ℕ) (slots : List SlotData) (by : ℕ) (event : ReplyEvent) → BookStep slots by event → SlotIs IsClosed (λ h. h) n (changed slots by event) → SlotIs IsClosed (λ h. h) n slots ⊎ (settles n event ≡ true)
closed_step n slots by (Opened m) step at = after_opening IsClosed (λ h. h) n slots by (settles n (Opened m) ≡ true) at
closed_step n slots by (Filled m f) step at = still IsClosed (λ h. h) n slots m (filled_stage f) (settles n (Filled m f) ≡ true) (λ e q. inr (eq-eqb m n e)) at
closed_step n slots by (Cancelled m) step at = still IsClosed (λ h. h) n slots m cancelled_stage (settles n (Cancelled m) ≡ true) (λ e q. inr (eq-eqb m n e)) at
closed_step n slots by (Taken m) step at =
    still IsClosed (λ h. h) n slots m taken_stage (settles n (Taken m) ≡ true)
    (λ e q. inl (slot_of by (filled_stage step.0), subst (λ (k : ℕ). slice_get slots k ≡ Some (slot_of by (filled_stage step.0))) e step.1, tt)) at

full_step : (n : ℕ) (slots : List SlotData) (by : ℕ) (event : ReplyEvent) → BookStep slots by event → SlotIs IsFull (λ h. h) n (changed slots by event) → SlotIs IsFull (λ h. h) n slots ⊎ (fills n event ≡ true)
full_step n slots by (Opened m) step at = after_opening IsFull (λ h. h) n slots by (fills n (Opened m) ≡ true) at
full_step n slots by (Filled m f) step at = still IsFull (λ h. h) n slots m (filled_stage f) (fills n (Filled m f) ≡ true) (λ e q. inr (eq-eqb m n e)) at
full_step n slots by (Cancelled m) step at = still IsFull (λ h. h) n slots m cancelled_stage (fills n (Cancelled m) ≡ true) (λ e q. absurd q) at
full_step n slots by (Taken m) step at =
    still IsFull (λ h. h) n slots m taken_stage (fills n (Taken m) ≡ true)
    (λ e q. inl (slot_of by (filled_stage step.0), subst (λ (k : ℕ). slice_get slots k ≡ Some (slot_of by (filled_stage step.0))) e step.1, tt)) at

closed_unless : (stage : Stage) → stage ≢ open_stage → IsClosed stage
closed_unless open_stage ne = ne refl
closed_unless (filled_stage flat) ne = tt
closed_unless cancelled_stage ne = tt
closed_unless taken_stage ne = tt

is_true : (b : Bool) → b ≡ true → IsTrue b
is_true true e = refl
is_true false e = absurd (cc)

-- a slot that is no longer open is settled by an entry
pub settled_by : (n opener : ℕ) (stage : Stage) (entries : List ReplyEntry) → IsLegal entries → slice_get (slots_after entries) n ≡ Some (slot_of opener stage) → stage ≢ open_stage → IsSettled n entries
settled_by n opener stage entries legal there ne =
    ⊎_elim (λ (none : SlotIs IsClosed (λ h. h) n []). absurd (let e = none.1 in cc))
    (λ any. is_true _ (list_any-from_Any (λ (entry : ReplyEntry). settles n entry.event) entries any))
    (shown_by (SlotIs IsClosed (λ h. h) n) (λ entry. settles n entry.event ≡ true) (λ slots entry step at. closed_step n slots entry.by.0 entry.event step at) [] entries legal.replays (slot_of opener stage, there, closed_unless stage ne))

full_unless : (stage : Stage) → stage ≢ open_stage → stage ≢ cancelled_stage → IsFull stage
full_unless open_stage ne nc = ne refl
full_unless (filled_stage flat) ne nc = tt
full_unless cancelled_stage ne nc = nc refl
full_unless taken_stage ne nc = tt

-- one that is neither open nor cancelled was filled by an entry
pub filled_by : (n opener : ℕ) (stage : Stage) (entries : List ReplyEntry) → IsLegal entries → slice_get (slots_after entries) n ≡ Some (slot_of opener stage) → stage ≢ open_stage → stage ≢ cancelled_stage → IsFilled n entries
filled_by n opener stage entries legal there ne nc =
    ⊎_elim (λ (none : SlotIs IsFull (λ h. h) n []). absurd (let e = none.1 in cc))
    (λ any. is_true _ (list_any-from_Any (λ (entry : ReplyEntry). fills n entry.event) entries any))
    (shown_by (SlotIs IsFull (λ h. h) n) (λ entry. fills n entry.event ≡ true) (λ slots entry step at. full_step n slots entry.by.0 entry.event step at) [] entries legal.replays (slot_of opener stage, there, full_unless stage ne nc))

-- ---- at most once
-- 1 where the slot is at a stage that counts
abbrev ranked : (Stage → ℕ) → Option SlotData → ℕ
ranked rank None = 0
ranked rank (Some slot) = rank slot.stage

module _ (rank : Stage → ℕ) (n : ℕ) where
  abbrev at_place : List SlotData → ℕ
  at_place slots = ranked rank (slice_get slots n)

  module _ (test : ReplyEvent → Bool)
      (step : (slots : List SlotData) (by : ℕ) (event : ReplyEvent) → BookStep slots by event → cond (test event) 1 0 + at_place slots ≤ at_place (changed slots by event)) where
    counted : (slots : List SlotData) (entries : List ReplyEntry) → Replays slots entries → count_by (λ (entry : ReplyEntry). test entry.event) entries + at_place slots ≤ at_place (slots_from slots entries)
    counted slots [] replays = omega arith
    counted slots (x ∷ xs) replays =
        omega (arith, sum_by-cons (λ (entry : ReplyEntry). cond (test entry.event) 1 0) x xs, step slots x.by.0 x.event replays.0, counted (changed slots x.by.0 x.event) xs replays.1)

  opening : rank open_stage ≡ 0 → (slots : List SlotData) (by : ℕ) → 0 + at_place slots ≤ at_place (slots ++ slot_of by open_stage ∷ [])
  opening zero_there slots by =
      ⊎_elim (λ (lt : n < length slots). let e = ap (ranked rank) (get_left slots (slot_of by open_stage ∷ []) n lt) in omega (arith, e))
      (λ (ge : length slots ≤ n). let e = ap (ranked rank) (slice_get_past slots n ge) in omega (arith, e)) (cases_lt n (length slots))

  staging : (slots : List SlotData) (m opener : ℕ) (old stage : Stage) (k : ℕ) → slice_get slots m ≡ Some (slot_of opener old) → k + rank old ≤ rank stage → (b : Bool) → (m ≡ n → cond {A = ℕ} b 1 0 ≡ k) → (m ≢ n → b ≡ false) → cond {A = ℕ} b 1 0 + at_place slots ≤ at_place (with_stage slots m stage)
  staging slots m opener old stage k there more b hit miss =
      ⊎_elim
      (λ (e : m ≡ n).
      let was : slice_get slots n ≡ Some (slot_of opener old) = subst (λ (i : ℕ). slice_get slots i ≡ Some (slot_of opener old)) e there in
      let is : slice_get (with_stage slots m stage) n ≡ Some (slot_of opener stage) = subst (λ (i : ℕ). slice_get (with_stage slots m stage) i ≡ Some (slot_of opener stage)) e (get_same slots m opener old stage there) in
      let a = ap (ranked rank) was in let b' = ap (ranked rank) is in omega (arith, a, b', hit e))
      (λ (ne : m ≢ n).
      let same = ap (ranked rank) (get_other slots m n stage (λ e. ne (sym e))) in let zero' : cond {A = ℕ} b 1 0 ≡ 0 = ap (λ (x : Bool). cond {A = ℕ} x 1 0) (miss ne) in omega (arith, same, zero'))
      (cases_eq m n)

hit_one : (m n : ℕ) → m ≡ n → cond {A = ℕ} (eqb m n) 1 0 ≡ 1
hit_one m n e = ap (λ (b : Bool). cond {A = ℕ} b 1 0) (eq-eqb m n e)

abbrev closed_rank : Stage → ℕ
closed_rank open_stage = 0
closed_rank (filled_stage flat) = 1
closed_rank cancelled_stage = 1
closed_rank taken_stage = 1

settle_counts : (n : ℕ) (slots : List SlotData) (by : ℕ) (event : ReplyEvent) → BookStep slots by event → cond (settles n event) 1 0 + at_place closed_rank n slots ≤ at_place closed_rank n (changed slots by event)
settle_counts n slots by (Opened m) step = opening closed_rank n refl slots by
settle_counts n slots by (Filled m f) step = staging closed_rank n slots m step.0 open_stage (filled_stage f) 1 step.1 (omega arith) (eqb m n) (hit_one m n) (ne_eqb m n)
settle_counts n slots by (Cancelled m) step = staging closed_rank n slots m by open_stage cancelled_stage 1 step (omega arith) (eqb m n) (hit_one m n) (ne_eqb m n)
settle_counts n slots by (Taken m) step = staging closed_rank n slots m by (filled_stage step.0) taken_stage 0 step.1 (omega arith) false (λ e. refl) (λ e. refl)

abbrev taken_rank : Stage → ℕ
taken_rank open_stage = 0
taken_rank (filled_stage flat) = 0
taken_rank cancelled_stage = 0
taken_rank taken_stage = 1

take_counts : (n : ℕ) (slots : List SlotData) (by : ℕ) (event : ReplyEvent) → BookStep slots by event → cond (takes n event) 1 0 + at_place taken_rank n slots ≤ at_place taken_rank n (changed slots by event)
take_counts n slots by (Opened m) step = opening taken_rank n refl slots by
take_counts n slots by (Filled m f) step = staging taken_rank n slots m step.0 open_stage (filled_stage f) 0 step.1 (omega arith) false (λ e. refl) (λ e. refl)
take_counts n slots by (Cancelled m) step = staging taken_rank n slots m by open_stage cancelled_stage 0 step (omega arith) false (λ e. refl) (λ e. refl)
take_counts n slots by (Taken m) step = staging taken_rank n slots m by (filled_stage step.0) taken_stage 1 step.1 (omega arith) (eqb m n) (hit_one m n) (ne_eqb m n)

at_most_one : (rank : Stage → ℕ) → ((stage : Stage) → rank stage ≤ 1) → (slot : Option SlotData) → ranked rank slot ≤ 1
at_most_one rank most None = omega arith
at_most_one rank most (Some slot) = most slot.stage

closed_most : (stage : Stage) → closed_rank stage ≤ 1
closed_most open_stage = omega arith
closed_most (filled_stage flat) = omega arith
closed_most cancelled_stage = omega arith
closed_most taken_stage = omega arith

taken_most : (stage : Stage) → taken_rank stage ≤ 1
taken_most open_stage = omega arith
taken_most (filled_stage flat) = omega arith
taken_most cancelled_stage = omega arith
taken_most taken_stage = omega arith

-- ---- the laws
pub settled_once : SettledOnce
settled_once entries n legal =
    omega (arith, counted closed_rank n (settles n) (settle_counts n) [] entries legal.replays, at_most_one closed_rank closed_most (slice_get (slots_after entries) n))

pub taken_once : TakenOnce
taken_once entries n legal =
    omega (arith, counted taken_rank n (takes n) (take_counts n) [] entries legal.replays, at_most_one taken_rank taken_most (slice_get (slots_after entries) n))

pub taken_after_filled : TakenAfterFilled
taken_after_filled before after entry n legal is =
    let parts = Replays-append [] before (entry ∷ after) legal.replays in
    let taking : BookStep (slots_after before) entry.by.0 (Taken n) = subst (λ (e : ReplyEvent). BookStep (slots_after before) entry.by.0 e) is (parts.1).0 in (
      taking.0,
      ⊎_elim (λ (none : FilledAt n taking.0 []). absurd (let e = none.1 in cc)) (λ h. h)
          (shown_by (FilledAt n taking.0) (λ entry. entry.event ≡ Filled n taking.0) (λ slots entry step at. filled_step n taking.0 slots entry.by.0 entry.event at) [] before parts.0 (entry.by.0, taking.1)),
    )
