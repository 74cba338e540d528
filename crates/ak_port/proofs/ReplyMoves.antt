-- What each event makes of a reply book's entries and slots.
use Rattle.std.proofs.Common.{◌≡◌, ◌≢◌, ℕ, zero, suc, ◌+◌, ◌-◌, ◌^◌, ◌<◌, ◌≤◌, Bool, true, false, cond, List, [], ◌∷◌, ◌++◌, length, set, get_or, All, Option, Some, None, sym, refl, ap, ◌∙◌, subst, arith, leb, length-append}
use Rattle.std.specs.Prelude.{slice_get, option_map, unwrap_or, max, IfSome, Result, Err}
use Rattle.std.specs.Result.{result_err}
use Rattle.std.proofs.lemmas.Bool.{leb-true}
use Rattle.std.proofs.lemmas.List.{get_or_append_left, get_or-set_same}
use Rattle.std.proofs.lemmas.Option.{slice_get-map, slice_get_within, get_or_from_slice_get}
use Rattle.ak_message.specs.Message.{MessageData}
use Rattle.ak_flatten.specs.declared.fault.FlatFault.{FlatFault}
use Rattle.ak_flatten.specs.Reading.{read_message, message_from, opening_at, magic_at, bytes_at, number_at, field_count_at, fields_at}
use Rattle.ak_turn.specs.Entries.{last_stamp_of}
use Rattle.ak_base.specs.declared.thread.ThreadId.{ThreadId}
use Rattle.ak_port.specs.declared.reply_entry.ReplyEntry.{ReplyEntry}
use Rattle.ak_port.specs.declared.reply_entry.ReplyEvent.TheVariants as event
use Rattle.ak_port.specs.declared.reply_kept.Kept.{Kept}
use Rattle.ak_port.specs.declared.reply_kept.KeptEvent.{KeptEvent}
use Rattle.ak_port.specs.declared.reply_kept.KeptEvent.TheVariants as kept
use Rattle.ak_port.specs.declared.reply_slot.Progress.{Progress}
use Rattle.ak_port.specs.declared.reply_slot.Progress.TheVariants as progress
use Rattle.ak_port.specs.declared.reply_slot.Slot.{Slot}
use Rattle.ak_port.specs.Reply.{Stage, open_stage, filled_stage, cancelled_stage, taken_stage, SlotData, slot_of, slots_after, IsFlatText, HasFlatText, FillsWith, IsSettled, IsFilled, none_text}
use Rattle.ak_port.specs.ReplySeats.{stamp_of, IsUncancelled}
use Rattle.ak_port.specs.ReplyKept.{event_seen, entry_seen, entries_seen, stage_seen, slot_seen, Tallies, Told}
use Rattle.ak_port.proofs.ReplyKeeping.{last-seen, told_at, told_grown, told_entered, text-here, entries-push, entries-grown, tallies_filled, tallies_cancelled, tallies_taken, tallies_opened, slots-counted}
use Rattle.ak_port.proofs.ReplyShown.{settled_by, filled_by, fills_with}

-- ---- texts
flat_length : (short : Bool) (r : Result MessageData FlatFault) (f : FlatFault) → result_err (cond short r (Err f)) ≡ None → short ≡ true
flat_length true r f none = refl
flat_length false r f none = absurd (cc)

-- a flat text has at most 4,096 bytes
pub flat_within : (bytes : List ℕ) → IsFlatText bytes → length bytes ≤ 4096
unfolding read_message
flat_within bytes flat = leb-true (length bytes) 4096 (flat_length (leb (length bytes) 4096) _ _ flat)

pub none_is_flat : IsFlatText none_text
unfolding read_message message_from opening_at magic_at bytes_at number_at field_count_at fields_at
none_is_flat = refl

pub flat_or_none : (flat : Option (List ℕ)) → IfSome flat IsFlatText → IsFlatText (unwrap_or flat none_text)
flat_or_none None text = none_is_flat
flat_or_none (Some flat) text = text

-- ---- stamps
-- the bound on the last stamp, for the entries as they are kept
pub last_below : (store : List ℕ) (entries : List Kept) (now : List ReplyEntry) → entries_seen store entries ≡ now → last_stamp_of stamp_of now < 2 ^ 63 → last_stamp_of (λ (k : Kept). k.stamp) entries < 2 ^ 63
last_below store entries now view below = subst (λ (t : ℕ). t < 2 ^ 63) (ap (last_stamp_of stamp_of) (sym view) ∙ last-seen store entries) below

pub last-now : (store : List ℕ) (entries : List Kept) (now : List ReplyEntry) → entries_seen store entries ≡ now → last_stamp_of (λ (k : Kept). k.stamp) entries ≡ last_stamp_of stamp_of now
last-now store entries now view = sym (last-seen store entries) ∙ ap (last_stamp_of stamp_of) view

-- ---- slots
slot-some : (o : Option Slot) (seen : SlotData) → option_map slot_seen o ≡ Some seen → (slot : Slot) × (o ≡ Some slot) × (slot_seen slot ≡ seen)
slot-some None seen e = absurd (cc)
slot-some (Some slot) seen e = (slot, refl, cc)

-- the slot as it is kept that the entries tell of
kept_at : (entries : List ReplyEntry) (slots : List Slot) (waiting filled n : ℕ) (seen : SlotData) → Tallies entries slots waiting filled → slice_get (slots_after entries) n ≡ Some seen → (slot : Slot) × (slice_get slots n ≡ Some slot) × (slot_seen slot ≡ seen)
kept_at entries slots waiting filled n seen tallies there =
    slot-some (slice_get slots n) seen (sym (slice_get-map slot_seen slots n) ∙ ap (λ (all : List SlotData). slice_get all n) tallies.same ∙ there)

is_open_kept : (p : Progress) (flat : List ℕ) → stage_seen p flat ≡ open_stage → p ≡ progress.Open
is_open_kept progress.Open flat e = refl
is_open_kept progress.Filled flat e = absurd (cc)
is_open_kept progress.Cancelled flat e = absurd (cc)
is_open_kept progress.Taken flat e = absurd (cc)

-- a slot that is not kept as open is not told as open
not_open
    : (entries : List ReplyEntry) (slots : List Slot) (waiting filled n opener : ℕ) (stage : Stage) → Tallies entries slots waiting filled → slice_get (slots_after entries) n ≡ Some (slot_of opener stage)
    → (option_map (λ (slot : Slot). slot.progress) (slice_get slots n) ≡ Some progress.Open → ⊥) → stage ≢ open_stage
not_open entries slots waiting filled n opener stage tallies there unless e =
    let found = kept_at entries slots waiting filled n (slot_of opener stage) tallies there in
    let is = is_open_kept found.0.progress found.0.flat (ap (λ (s : SlotData). s.stage) found.2 ∙ e) in
    unless (ap (option_map (λ (slot : Slot). slot.progress)) found.1 ∙ ap (λ (p : Progress). Some p) is)

not_cancelled : (stage : Stage) → IsUncancelled stage → stage ≢ cancelled_stage
not_cancelled open_stage is e = absurd (cc)
not_cancelled (filled_stage flat) is e = absurd (cc)
not_cancelled cancelled_stage is e = is
not_cancelled taken_stage is e = absurd (cc)

-- a slot that its thread has not cancelled, and that is no longer open, was filled
pub found_filled
    : (store : List ℕ) (entries : List Kept) (slots : List Slot) (waiting filled n thread : ℕ) (stage : Stage) → Told store entries slots waiting filled → slice_get (slots_after (entries_seen store entries)) n ≡ Some (slot_of thread stage) → IsUncancelled stage
    → (option_map (λ (slot : Slot). slot.progress) (slice_get slots n) ≡ Some progress.Open → ⊥) → IsFilled n (entries_seen store entries)
found_filled store entries slots waiting filled n thread stage told there uncancelled unless =
    filled_by n thread stage (entries_seen store entries) told.legal there (not_open (entries_seen store entries) slots waiting filled n thread stage told.tallies there unless) (not_cancelled stage uncancelled)

some_slot : {X : Type 0} (xs : List X) (n : ℕ) → n < length xs → (x : X) × (slice_get xs n ≡ Some x)
some_slot [] n lt = absurd (omega arith)
some_slot (x ∷ xs) zero lt = (x, refl)
some_slot (x ∷ xs) (suc n) lt = some_slot xs n (omega arith)

-- a slot that is there and is no longer open is settled
pub found_settled
    : (store : List ℕ) (entries : List Kept) (slots : List Slot) (waiting filled n : ℕ) → Told store entries slots waiting filled → n < length slots
    → (option_map (λ (slot : Slot). slot.progress) (slice_get slots n) ≡ Some progress.Open → ⊥) → IsSettled n (entries_seen store entries)
found_settled store entries slots waiting filled n told lt unless =
    let slot = some_slot slots n lt in
    let there = told_at (entries_seen store entries) slots waiting filled n slot.0 told.tallies slot.1 in
    settled_by n slot.0.opener.0 (stage_seen slot.0.progress slot.0.flat) (entries_seen store entries) told.legal there
    (not_open (entries_seen store entries) slots waiting filled n slot.0.opener.0 (stage_seen slot.0.progress slot.0.flat) told.tallies there unless)

-- ---- the events
module _ (store : List ℕ) (entries entries' : List Kept) (slots slots' : List Slot) (waiting filled : ℕ) (stamp : ℕ) (by : ThreadId) (time : ℕ) (told : Told store entries slots waiting filled)
    (stamped : stamp ≡ 1 + max time (last_stamp_of (λ (k : Kept). k.stamp) entries)) where
  abbrev now_at : KeptEvent → Kept
  now_at event = record { stamp = stamp; by = by; event = event }

  abbrev seen_so_far : List ReplyEntry
  seen_so_far = entries_seen store entries

  -- the slot is the thread's, by both ways to it
  own_slot
      : (n : ℕ) (slot : Slot) (p : Progress) (stage : Stage) → slice_get slots n ≡ Some slot → slot.progress ≡ p → slice_get (slots_after seen_so_far) n ≡ Some (slot_of by.0 stage)
      → slice_get (slots_after seen_so_far) n ≡ Some (slot_of by.0 (stage_seen p slot.flat))
  own_slot n slot p stage there is own =
      let seen = told_at seen_so_far slots waiting filled n slot told.tallies there in
      let both : Some (slot_seen slot) ≡ Some (slot_of by.0 stage) = sym seen ∙ own in
      let same : slot_seen slot ≡ slot_of by.0 stage = cc in
      seen ∙ ap (λ (q : Progress). Some (slot_of slot.opener.0 (stage_seen q slot.flat))) is ∙ ap (λ (s : SlotData). Some (slot_of s.opener (stage_seen p slot.flat))) same

  pub told_cancelled
      : (n : ℕ) (slot : Slot) (stage : Stage) → slice_get slots n ≡ Some slot → slot.progress ≡ progress.Open → slice_get (slots_after seen_so_far) n ≡ Some (slot_of by.0 stage)
      → entries' ≡ entries ++ now_at (kept.Cancelled n) ∷ [] → slots' ≡ set slots n (record { opener = slot.opener; progress = progress.Cancelled; flat = [] })
      → Told store entries' slots' (waiting - 1) filled
  told_cancelled n slot stage there was own more moved =
      subst (λ (all : List Kept × List Slot). Told store all.0 all.1 (waiting - 1) filled) (λ k. (sym more k, sym moved k))
      (told_entered store entries slots waiting filled (now_at (kept.Cancelled n)) (set slots n (record { opener = slot.opener; progress = progress.Cancelled; flat = [] })) (waiting - 1) filled time told
      (own_slot n slot progress.Open stage there was own) stamped tt tt
      (tallies_cancelled seen_so_far slots waiting filled told.tallies n slot (record { opener = slot.opener; progress = progress.Cancelled; flat = [] }) (entry_seen store (now_at (kept.Cancelled n))) there was refl refl))

  pub told_taken
      : (n : ℕ) (slot : Slot) (stage : Stage) → slice_get slots n ≡ Some slot → slot.progress ≡ progress.Filled → slice_get (slots_after seen_so_far) n ≡ Some (slot_of by.0 stage)
      → entries' ≡ entries ++ now_at (kept.Taken n) ∷ [] → slots' ≡ set slots n (record { opener = slot.opener; progress = progress.Taken; flat = [] })
      → Told store entries' slots' waiting (filled - 1)
  told_taken n slot stage there was own more moved =
      subst (λ (all : List Kept × List Slot). Told store all.0 all.1 waiting (filled - 1)) (λ k. (sym more k, sym moved k))
      (told_entered store entries slots waiting filled (now_at (kept.Taken n)) (set slots n (record { opener = slot.opener; progress = progress.Taken; flat = [] })) waiting (filled - 1) time told
      (slot.flat, own_slot n slot progress.Filled stage there was own) stamped tt tt
      (tallies_taken seen_so_far slots waiting filled told.tallies n slot (record { opener = slot.opener; progress = progress.Taken; flat = [] }) (entry_seen store (now_at (kept.Taken n))) there was refl refl))

  pub told_opened
      : (slot : Slot) → slot.progress ≡ progress.Open → slot.flat ≡ none_text → by ≡ slot.opener
      → entries' ≡ entries ++ now_at (kept.Opened (length slots)) ∷ [] → slots' ≡ slots ++ slot ∷ []
      → Told store entries' slots' (waiting + 1) filled
  told_opened slot is flat by' more moved =
      subst (λ (all : List Kept × List Slot). Told store all.0 all.1 (waiting + 1) filled) (λ k. (sym more k, sym moved k))
      (told_entered store entries slots waiting filled (now_at (kept.Opened (length slots))) (slots ++ slot ∷ []) (waiting + 1) filled time told
      (sym (slots-counted seen_so_far slots waiting filled told.tallies)) stamped tt tt
      (tallies_opened seen_so_far slots waiting filled told.tallies slot (entry_seen store (now_at (kept.Opened (length slots)))) is flat by' refl))

-- the text of a fill stands behind the store
pub told_filled
    : (store store' text : List ℕ) (entries entries' : List Kept) (slots slots' : List Slot) (waiting filled stamp : ℕ) (by : ThreadId) (time : ℕ) → Told store entries slots waiting filled
    → stamp ≡ 1 + max time (last_stamp_of (λ (k : Kept). k.stamp) entries)
    → (n : ℕ) (slot : Slot) → slice_get slots n ≡ Some slot → slot.progress ≡ progress.Open → IsFlatText text → store' ≡ store ++ text
    → entries' ≡ entries ++ (record { stamp = stamp; by = by; event = kept.Filled n (record { from = length store; len = length text }) }) ∷ []
    → slots' ≡ set slots n (record { opener = slot.opener; progress = progress.Filled; flat = text })
    → Told store' entries' slots' (waiting - 1) (filled + 1)
told_filled store store' text entries entries' slots slots' waiting filled stamp by time told stamped n slot there was flat grown more moved =
    let k : Kept = record { stamp = stamp; by = by; event = kept.Filled n (record { from = length store; len = length text }) } in
    let new : Slot = record { opener = slot.opener; progress = progress.Filled; flat = text } in
    let told' = told_grown store text entries slots waiting filled told in
    let here = text-here store text in
    let seen = told_at (entries_seen (store ++ text) entries) slots waiting filled n slot told'.tallies there in
    let event' : event_seen (store ++ text) (kept.Filled n (record { from = length store; len = length text })) ≡ event.Filled n text = ap (event.Filled n) here in
    subst (λ (all : List ℕ × List Kept × List Slot). Told all.0 all.1 all.2 (waiting - 1) (filled + 1)) (λ i. (sym grown i, sym more i, sym moved i))
    (told_entered (store ++ text) entries slots waiting filled k (set slots n new) (waiting - 1) (filled + 1) time told'
    (slot.opener.0, seen ∙ ap (λ (q : Progress). Some (slot_of slot.opener.0 (stage_seen q slot.flat))) was) stamped (subst IsFlatText (sym here) flat) (omega (arith, length-append store text))
    (tallies_filled (entries_seen (store ++ text) entries) slots waiting filled told'.tallies n slot new (entry_seen (store ++ text) k) there was refl event'))

-- ---- what a taken slot was filled with
any_left : (n : ℕ) (flat : List ℕ) (xs ys : List ReplyEntry) → FillsWith n flat xs → FillsWith n flat (xs ++ ys)
any_left n flat xs ys any = (any.0, any.1, omega (arith, any.2, length-append xs ys), get_or_append_left xs ys any.1 any.0 any.2 ∙ any.3, any.4)

text_of : (n : ℕ) (flat : List ℕ) (xs : List ReplyEntry) → All (λ entry. HasFlatText entry.event) xs → FillsWith n flat xs → IsFlatText flat
text_of n flat xs texts any =
    let at : HasFlatText (get_or xs any.0 any.1).event = texts any.0 any.1 any.2 in
    subst HasFlatText (ap (λ (e : ReplyEntry). e.event) any.3 ∙ any.4) at

module _ (store : List ℕ) (entries : List Kept) (slots : List Slot) (waiting filled n : ℕ) (slot : Slot) (told : Told store entries slots waiting filled) (there : slice_get slots n ≡ Some slot) (is : slot.progress ≡ progress.Filled) where
  filled_before : FillsWith n slot.flat (entries_seen store entries)
  filled_before =
      fills_with n slot.flat slot.opener.0 (entries_seen store entries) told.legal
      (told_at (entries_seen store entries) slots waiting filled n slot told.tallies there ∙ ap (λ (q : Progress). Some (slot_of slot.opener.0 (stage_seen q slot.flat))) is)

  pub taken_filled : (more : List ReplyEntry) → FillsWith n slot.flat (entries_seen store entries ++ more)
  taken_filled more = any_left n slot.flat (entries_seen store entries) more filled_before

  pub taken_text : IsFlatText slot.flat
  taken_text = text_of n slot.flat (entries_seen store entries) told.texts filled_before

  -- what is given out is what the slot had
  same_bytes : (flat : List ℕ) → option_map (λ (slot : Slot). slot.flat) (slice_get slots n) ≡ Some flat → slot.flat ≡ flat
  same_bytes flat bytes = let e : Some slot.flat ≡ Some flat = sym (ap (option_map (λ (slot : Slot). slot.flat)) there) ∙ bytes in cc

  pub taken_shown : (flat : List ℕ) (entry : Kept) (entries' : List Kept) → option_map (λ (slot : Slot). slot.flat) (slice_get slots n) ≡ Some flat → entries' ≡ entries ++ entry ∷ [] → FillsWith n flat (entries_seen store entries')
  taken_shown flat entry entries' bytes more =
      subst (λ (x : List ℕ × List ReplyEntry). FillsWith n x.0 x.1) (λ k. (same_bytes flat bytes k, sym (ap (entries_seen store) more ∙ entries-push store entries entry) k)) (taken_filled (entry_seen store entry ∷ []))

  pub taken_is_text : (flat : List ℕ) → option_map (λ (slot : Slot). slot.flat) (slice_get slots n) ≡ Some flat → IsFlatText flat
  taken_is_text flat bytes = subst IsFlatText (same_bytes flat bytes) taken_text

-- ---- the text of a fill
module _ (store : List ℕ) (entries : List Kept) (slots slots' : List Slot) (waiting filled n : ℕ) (slot : Slot) (told : Told store entries slots waiting filled) (there : slice_get slots n ≡ Some slot) (was : slot.progress ≡ progress.Open) where
  -- an open slot has the text for no reply
  spare_text : slot.flat ≡ none_text
  spare_text =
      let at : slot.progress ≡ progress.Open → slot.flat ≡ none_text =
      subst (λ (s : Slot). s.progress ≡ progress.Open → s.flat ≡ none_text) (get_or_from_slice_get slots n slot slot there) (told.tallies.spare n slot (slice_get_within slots n slot there)) in
      at was

  pub filled_text
      : (flat : Option (List ℕ)) (read : Slot) (text : List ℕ) → slots' ≡ set slots n (record { opener = slot.opener; progress = progress.Filled; flat = unwrap_or flat slot.flat }) → read ≡ get_or slots' n read → text ≡ read.flat
      → text ≡ unwrap_or flat none_text
  filled_text flat read text moved is said =
      let new : Slot = record { opener = slot.opener; progress = progress.Filled; flat = unwrap_or flat slot.flat } in
      let e : read ≡ new = is ∙ ap (λ (l : List Slot). get_or l n read) moved ∙ get_or-set_same slots n new read (slice_get_within slots n slot there) in
      said ∙ ap (λ (s : Slot). s.flat) e ∙ ap (unwrap_or flat) spare_text

  pub filled_slots
      : (flat : Option (List ℕ)) (text : List ℕ) → slots' ≡ set slots n (record { opener = slot.opener; progress = progress.Filled; flat = unwrap_or flat slot.flat }) → text ≡ unwrap_or flat none_text
      → slots' ≡ set slots n (record { opener = slot.opener; progress = progress.Filled; flat = text })
  filled_slots flat text moved said =
      let new_slot : List ℕ → Slot = λ t. record { opener = slot.opener; progress = progress.Filled; flat = t } in
      moved ∙ ap (λ (t : List ℕ). set slots n (new_slot t)) (ap (unwrap_or flat) spare_text ∙ sym said)

-- what the entries show once the slot was filled
pub filled-seen
    : (store store' text : List ℕ) (entries entries' : List Kept) (slots : List Slot) (waiting filled stamp : ℕ) (by by' : ThreadId) (n : ℕ) (now : List ReplyEntry) (flat : List ℕ) → Told store entries slots waiting filled
    → store' ≡ store ++ text → entries' ≡ entries ++ (record { stamp = stamp; by = by; event = kept.Filled n (record { from = length store; len = length text }) }) ∷ []
    → entries_seen store entries ≡ now → by ≡ by' → text ≡ flat → entries_seen store' entries' ≡ now ++ (record { stamp = stamp; by = by'; event = event.Filled n flat }) ∷ []
filled-seen store store' text entries entries' slots waiting filled stamp by by' n now flat told grown more view same said =
    let k : Kept = record { stamp = stamp; by = by; event = kept.Filled n (record { from = length store; len = length text }) } in
    let entry : ThreadId → List ℕ → ReplyEntry = λ b t. record { stamp = stamp; by = b; event = event.Filled n t } in
    (λ i. entries_seen (grown i) (more i)) ∙ entries-push (store ++ text) entries k
    ∙ (λ i. (entries-grown store text entries told.ranges ∙ view) i ++ entry (same i) ((text-here store text ∙ said) i) ∷ [])
