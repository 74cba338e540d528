-- What a reply book keeps when it goes on by one entry.
use Rattle.std.proofs.Common.{◌≡◌, ℕ, zero, suc, ◌+◌, ◌-◌, ◌≤◌, Bool, true, false, List, [], ◌∷◌, ◌++◌, length, take, drop, set, get_or, map, All, Option, Some, None, sym, refl, ap, ◌∙◌, subst, arith, length-append, length-drop, cond}
use Rattle.std.specs.Prelude.{slice_get, option_map, unwrap_or, count_by, max, IsTrue, ◌↔◌}
use Rattle.std.proofs.lemmas.List.{map-append, length-map, take_all, take-append-le, drop-append-le}
use Rattle.std.proofs.lemmas.List.Elements.{All-head, All-tail, All-push, All-set}
use Rattle.std.proofs.lemmas.List.Sums.{sum_by_push, sum_by-set, get_or-le-sum_by}
use Rattle.std.proofs.lemmas.Option.{slice_get-map, slice_get_within, get_or_from_slice_get}
use Rattle.std.proofs.Math.Seq.{drop-append_seam}
use Rattle.ak_turn.specs.Entries.{last_stamp_of}
use Rattle.ak_port.specs.declared.reply_entry.ReplyEntry.{ReplyEntry}
use Rattle.ak_port.specs.declared.reply_entry.ReplyEvent.{ReplyEvent}
use Rattle.ak_port.specs.declared.reply_entry.ReplyEvent.TheVariants as event
use Rattle.ak_port.specs.declared.reply_kept.Kept.{Kept}
use Rattle.ak_port.specs.declared.reply_kept.KeptEvent.{KeptEvent}
use Rattle.ak_port.specs.declared.reply_kept.KeptEvent.TheVariants as kept
use Rattle.ak_port.specs.declared.reply_slot.Progress.{Progress}
use Rattle.ak_port.specs.declared.reply_slot.Progress.TheVariants as progress
use Rattle.ak_port.specs.declared.reply_slot.Slot.{Slot}
use Rattle.ak_port.specs.Reply.{open_stage, SlotData, slot_of, with_stage, changed, slots_after, BookStep, IsLegal, HasFlatText, none_text}
use Rattle.ak_port.specs.ReplySeats.{stamp_of}
use Rattle.ak_port.specs.ReplyKept.{text_in, event_seen, entry_seen, entries_seen, IsWithin, stage_seen, slot_seen, is_open, is_filled, open_progress, filled_progress, Tallies, Told}
use Rattle.ak_port.proofs.ReplyHistory.{slots_push, legal_push}

-- ---- entries, and the bytes that they stand on
within_reads : (store more : List ℕ) (from len : ℕ) → from + len ≤ length store → take len (drop from (store ++ more)) ≡ take len (drop from store)
within_reads store more from len within =
    let in_from : from ≤ length store = omega arith in
    let rest : len ≤ length (drop from store) = omega (arith, length-drop from store) in
    ap (take len) (drop-append-le from store more in_from) ∙ take-append-le len (drop from store) more rest

event-grown : (store more : List ℕ) (e : KeptEvent) → IsWithin (length store) e → event_seen (store ++ more) e ≡ event_seen store e
event-grown store more (kept.Opened n) within = refl
event-grown store more (kept.Filled n range) within = ap (event.Filled n) (within_reads store more range.from range.len within)
event-grown store more (kept.Cancelled n) within = refl
event-grown store more (kept.Taken n) within = refl

pub entries-grown : (store more : List ℕ) (entries : List Kept) → All (λ entry. IsWithin (length store) entry.event) entries → entries_seen (store ++ more) entries ≡ entries_seen store entries
entries-grown store more [] within = refl
entries-grown store more (x ∷ xs) within =
    let first : entry_seen (store ++ more) x ≡ entry_seen store x =
    ap (λ (e : ReplyEvent). record { stamp = x.stamp; by = x.by; event = e }) (event-grown store more x.event (All-head (λ entry. IsWithin (length store) entry.event) x xs within)) in
    let rest = entries-grown store more xs (All-tail (λ entry. IsWithin (length store) entry.event) x xs within) in
    cc

still_within : (store more : List ℕ) (e : KeptEvent) → IsWithin (length store) e → IsWithin (length (store ++ more)) e
still_within store more (kept.Opened n) within = tt
still_within store more (kept.Filled n range) within = omega (arith, within, length-append store more)
still_within store more (kept.Cancelled n) within = tt
still_within store more (kept.Taken n) within = tt

-- ---- one entry more
pub entries-push : (store : List ℕ) (entries : List Kept) (entry : Kept) → entries_seen store (entries ++ entry ∷ []) ≡ entries_seen store entries ++ entry_seen store entry ∷ []
entries-push store entries entry = map-append (entry_seen store) entries (entry ∷ [])

-- the text behind the bytes that stood there
pub text-here : (store text : List ℕ) → text_in (store ++ text) (record { from = length store; len = length text }) ≡ text
text-here store text = ap (take (length text)) (drop-append_seam store text) ∙ take_all (length text) text (omega arith)

-- the last stamp is that of the entries as they are kept
option-stamp : (store : List ℕ) (entry : Option Kept) → option_map stamp_of (option_map (entry_seen store) entry) ≡ option_map (λ (k : Kept). k.stamp) entry
option-stamp store None = refl
option-stamp store (Some entry) = refl

pub last-seen : (store : List ℕ) (entries : List Kept) → last_stamp_of stamp_of (entries_seen store entries) ≡ last_stamp_of (λ (k : Kept). k.stamp) entries
last-seen store entries =
    ap (λ (i : ℕ). unwrap_or (option_map stamp_of (slice_get (entries_seen store entries) (i - 1))) 0) (length-map entries (entry_seen store))
    ∙ ap (λ (o : Option ReplyEntry). unwrap_or (option_map stamp_of o) 0) (slice_get-map (entry_seen store) entries (length entries - 1))
    ∙ ap (λ (o : Option ℕ). unwrap_or o 0) (option-stamp store (slice_get entries (length entries - 1)))

-- ---- slots
progress-some : (o : Option Slot) (p : Progress) → option_map (λ (slot : Slot). slot.progress) o ≡ Some p → (slot : Slot) × (o ≡ Some slot) × (slot.progress ≡ p)
progress-some None p e = absurd (cc)
progress-some (Some slot) p e = (slot, refl, cc)

-- the slot that is so far
pub slot_at : (slots : List Slot) (n : ℕ) (p : Progress) → option_map (λ (slot : Slot). slot.progress) (slice_get slots n) ≡ Some p → (slot : Slot) × (slice_get slots n ≡ Some slot) × (slot.progress ≡ p)
slot_at slots n p e = progress-some (slice_get slots n) p e

true_is : (b : Bool) → b ≡ true → IsTrue b
true_is true e = refl
true_is false e = absurd (cc)

false_is : (b : Bool) → b ≡ false → IsTrue b → ⊥
false_is true e t = absurd (cc)
false_is false e t = absurd (cc)

module _ (items now : List Slot) (n : ℕ) (p : Progress) (result : Bool)
    (test : IsTrue result ↔ (option_map (λ (slot : Slot). slot.progress) (slice_get now n) ≡ Some p)) (same : now ≡ items) where
  -- the slot that a test found to be so far
  pub found_at : result ≡ true → (slot : Slot) × (slice_get items n ≡ Some slot) × (slot.progress ≡ p)
  found_at is = slot_at items n p (subst (λ (l : List Slot). option_map (λ (slot : Slot). slot.progress) (slice_get l n) ≡ Some p) same (test.0 (true_is result is)))

  -- and one that it found not to be
  pub not_at : result ≡ false → option_map (λ (slot : Slot). slot.progress) (slice_get items n) ≡ Some p → ⊥
  not_at is e = false_is result is (test.1 (subst (λ (l : List Slot). option_map (λ (slot : Slot). slot.progress) (slice_get l n) ≡ Some p) (sym same) e))

seen_at : (slots : List Slot) (n : ℕ) (slot : Slot) → slice_get slots n ≡ Some slot → slice_get (map slot_seen slots) n ≡ Some (slot_seen slot)
seen_at slots n slot there = slice_get-map slot_seen slots n ∙ ap (option_map slot_seen) there

-- the same slot as the entries tell it
pub told_at : (entries : List ReplyEntry) (slots : List Slot) (waiting filled n : ℕ) (slot : Slot) → Tallies entries slots waiting filled → slice_get slots n ≡ Some slot → slice_get (slots_after entries) n ≡ Some (slot_seen slot)
told_at entries slots waiting filled n slot tallies there = subst (λ (all : List SlotData). slice_get all n ≡ Some (slot_seen slot)) tallies.same (seen_at slots n slot there)

moved-seen : (slots : List Slot) (n : ℕ) (slot new : Slot) → slice_get slots n ≡ Some slot → new.opener ≡ slot.opener → map slot_seen (set slots n new) ≡ with_stage (map slot_seen slots) n (stage_seen new.progress new.flat)
moved-seen [] n slot new there same = absurd (cc)
moved-seen (s ∷ ss) zero slot new there same =
    let e : s ≡ slot = cc in
    ap (λ (o : ℕ). slot_of o (stage_seen new.progress new.flat) ∷ map slot_seen ss) (ap (λ t. t.0) same ∙ ap (λ (x : Slot). x.opener.0) (sym e))
moved-seen (s ∷ ss) (suc n) slot new there same = ap (λ l. slot_seen s ∷ l) (moved-seen ss n slot new there same)

counts_one : (p : Slot → Bool) (slots : List Slot) (n : ℕ) (slot : Slot) → slice_get slots n ≡ Some slot → p slot ≡ true → 1 ≤ count_by p slots
counts_one p slots n slot there holds =
    let at : cond {A = ℕ} (p (get_or slots n slot)) 1 0 ≡ 1 = ap (λ (x : Slot). cond {A = ℕ} (p x) 1 0) (get_or_from_slice_get slots n slot slot there) ∙ ap (λ (b : Bool). cond {A = ℕ} b 1 0) holds in
    let least = get_or-le-sum_by (λ (x : Slot). cond {A = ℕ} (p x) 1 0) slots n slot (slice_get_within slots n slot there) in
    omega (arith, at, least)

-- an open slot is counted, and so is a filled one
pub some_waiting : (entries : List ReplyEntry) (slots : List Slot) (waiting filled n : ℕ) (slot : Slot) → Tallies entries slots waiting filled → slice_get slots n ≡ Some slot → slot.progress ≡ progress.Open → 1 ≤ waiting
some_waiting entries slots waiting filled n slot tallies there is = omega (arith, tallies.opened, counts_one is_open slots n slot there (ap open_progress is))

pub some_filled : (entries : List ReplyEntry) (slots : List Slot) (waiting filled n : ℕ) (slot : Slot) → Tallies entries slots waiting filled → slice_get slots n ≡ Some slot → slot.progress ≡ progress.Filled → 1 ≤ filled
some_filled entries slots waiting filled n slot tallies there is = omega (arith, tallies.full, counts_one is_filled slots n slot there (ap filled_progress is))

count-moved : (p : Slot → Bool) (slots : List Slot) (n : ℕ) (slot new : Slot) (a b : Bool) → slice_get slots n ≡ Some slot → p slot ≡ a → p new ≡ b → count_by p (set slots n new) + cond {A = ℕ} a 1 0 ≡ count_by p slots + cond {A = ℕ} b 1 0
count-moved p slots n slot new a b there was is =
    let f : Slot → ℕ = λ x. cond {A = ℕ} (p x) 1 0 in
    let at : cond {A = ℕ} (p (get_or slots n slot)) 1 0 ≡ cond {A = ℕ} a 1 0 = ap (λ (x : Slot). cond {A = ℕ} (p x) 1 0) (get_or_from_slice_get slots n slot slot there) ∙ ap (λ (b : Bool). cond {A = ℕ} b 1 0) was in
    let new_is : cond {A = ℕ} (p new) 1 0 ≡ cond {A = ℕ} b 1 0 = ap (λ (b : Bool). cond {A = ℕ} b 1 0) is in
    let all = sum_by-set (λ (x : Slot). cond {A = ℕ} (p x) 1 0) slots n new slot (slice_get_within slots n slot there) in
    omega (arith, at, new_is, all)

module _ (entries : List ReplyEntry) (slots : List Slot) (waiting filled : ℕ) (tallies : Tallies entries slots waiting filled) where
  -- one slot is closed or filled
  tallies_moved
      : (n : ℕ) (slot new : Slot) (entry : ReplyEntry) → slice_get slots n ≡ Some slot → new.opener ≡ slot.opener
      → changed (slots_after entries) entry.by.0 entry.event ≡ with_stage (slots_after entries) n (stage_seen new.progress new.flat) → open_progress new.progress ≡ false
      → (waiting' filled' : ℕ) → waiting' ≡ count_by is_open (set slots n new) → filled' ≡ count_by is_filled (set slots n new) → Tallies (entries ++ entry ∷ []) (set slots n new) waiting' filled'
  tallies_moved n slot new entry there opener event not_open waiting' filled' open_count full_count = record {
    same = moved-seen slots n slot new there opener ∙ ap (λ (all : List SlotData). with_stage all n (stage_seen new.progress new.flat)) tallies.same ∙ sym event ∙ sym (slots_push entries entry);
    spare = All-set (λ (slot : Slot). slot.progress ≡ progress.Open → slot.flat ≡ none_text) slots n new (λ is. absurd (let e = ap open_progress is in cc)) tallies.spare;
    opened = open_count;
    full = full_count;
  }

  pub tallies_filled
      : (n : ℕ) (slot new : Slot) (entry : ReplyEntry) → slice_get slots n ≡ Some slot → slot.progress ≡ progress.Open → new ≡ record { opener = slot.opener; progress = progress.Filled; flat = new.flat } → entry.event ≡ event.Filled n new.flat
      → Tallies (entries ++ entry ∷ []) (set slots n new) (waiting - 1) (filled + 1)
  tallies_filled n slot new entry there was is event =
      let now : new.progress ≡ progress.Filled = ap (λ (x : Slot). x.progress) is in
      tallies_moved n slot new entry there (ap (λ (x : Slot). x.opener) is)
      (ap (changed (slots_after entries) entry.by.0) event ∙ ap (λ (p : Progress). with_stage (slots_after entries) n (stage_seen p new.flat)) (sym now)) (ap open_progress now) (waiting - 1) (filled + 1)
      (omega (arith, tallies.opened, count-moved is_open slots n slot new true false there (ap open_progress was) (ap open_progress now)))
      (omega (arith, tallies.full, count-moved is_filled slots n slot new false true there (ap filled_progress was) (ap filled_progress now)))

  pub tallies_cancelled
      : (n : ℕ) (slot new : Slot) (entry : ReplyEntry) → slice_get slots n ≡ Some slot → slot.progress ≡ progress.Open → new ≡ record { opener = slot.opener; progress = progress.Cancelled; flat = new.flat } → entry.event ≡ event.Cancelled n
      → Tallies (entries ++ entry ∷ []) (set slots n new) (waiting - 1) filled
  tallies_cancelled n slot new entry there was is event =
      let now : new.progress ≡ progress.Cancelled = ap (λ (x : Slot). x.progress) is in
      tallies_moved n slot new entry there (ap (λ (x : Slot). x.opener) is)
      (ap (changed (slots_after entries) entry.by.0) event ∙ ap (λ (p : Progress). with_stage (slots_after entries) n (stage_seen p new.flat)) (sym now)) (ap open_progress now) (waiting - 1) filled
      (omega (arith, tallies.opened, count-moved is_open slots n slot new true false there (ap open_progress was) (ap open_progress now)))
      (omega (arith, tallies.full, count-moved is_filled slots n slot new false false there (ap filled_progress was) (ap filled_progress now)))

  pub tallies_taken
      : (n : ℕ) (slot new : Slot) (entry : ReplyEntry) → slice_get slots n ≡ Some slot → slot.progress ≡ progress.Filled → new ≡ record { opener = slot.opener; progress = progress.Taken; flat = new.flat } → entry.event ≡ event.Taken n
      → Tallies (entries ++ entry ∷ []) (set slots n new) waiting (filled - 1)
  tallies_taken n slot new entry there was is event =
      let now : new.progress ≡ progress.Taken = ap (λ (x : Slot). x.progress) is in
      tallies_moved n slot new entry there (ap (λ (x : Slot). x.opener) is)
      (ap (changed (slots_after entries) entry.by.0) event ∙ ap (λ (p : Progress). with_stage (slots_after entries) n (stage_seen p new.flat)) (sym now)) (ap open_progress now) waiting (filled - 1)
      (omega (arith, tallies.opened, count-moved is_open slots n slot new false false there (ap open_progress was) (ap open_progress now)))
      (omega (arith, tallies.full, count-moved is_filled slots n slot new true false there (ap filled_progress was) (ap filled_progress now)))

  -- one slot more is open
  pub tallies_opened
      : (slot : Slot) (entry : ReplyEntry) → slot.progress ≡ progress.Open → slot.flat ≡ none_text → entry.by ≡ slot.opener → entry.event ≡ event.Opened (length slots)
      → Tallies (entries ++ entry ∷ []) (slots ++ slot ∷ []) (waiting + 1) filled
  tallies_opened slot entry is flat by event = record {
    same = map-append slot_seen slots (slot ∷ [])
        ∙ ap (λ (all : List SlotData). all ++ slot_seen slot ∷ []) tallies.same
        ∙ ap (λ (s : SlotData). slots_after entries ++ s ∷ []) (ap (λ (p : Progress). slot_of slot.opener.0 (stage_seen p slot.flat)) is ∙ ap (λ t. slot_of t.0 open_stage) (sym by))
        ∙ ap (λ (e : ReplyEvent). changed (slots_after entries) entry.by.0 e) (sym event) ∙ sym (slots_push entries entry);
    spare = All-push (λ (slot : Slot). slot.progress ≡ progress.Open → slot.flat ≡ none_text) slots slot tallies.spare (λ _. flat);
    opened = omega (arith, tallies.opened, sum_by_push (λ (x : Slot). cond {A = ℕ} (is_open x) 1 0) slots slot, ap (λ (p : Progress). cond {A = ℕ} (open_progress p) 1 0) is);
    full = omega (arith, tallies.full, sum_by_push (λ (x : Slot). cond {A = ℕ} (is_filled x) 1 0) slots slot, ap (λ (p : Progress). cond {A = ℕ} (filled_progress p) 1 0) is);
  }

  pub slots-counted : length (slots_after entries) ≡ length slots
  slots-counted = ap length (sym tallies.same) ∙ length-map slots slot_seen

-- ---- both
-- more bytes stand behind the store
pub told_grown : (store more : List ℕ) (entries : List Kept) (slots : List Slot) (waiting filled : ℕ) → Told store entries slots waiting filled → Told (store ++ more) entries slots waiting filled
told_grown store more entries slots waiting filled told =
    let same = sym (entries-grown store more entries told.ranges) in
    record {
      legal = subst IsLegal same told.legal;
      texts = subst (λ (all : List ReplyEntry). All (λ entry. HasFlatText entry.event) all) same told.texts;
      ranges = λ k d lt. still_within store more (get_or entries k d).event (told.ranges k d lt);
      tallies = subst (λ (all : List ReplyEntry). Tallies all slots waiting filled) same told.tallies;
    }

-- an entry that may come next
pub told_entered
    : (store : List ℕ) (entries : List Kept) (slots : List Slot) (waiting filled : ℕ) (entry : Kept) (slots' : List Slot) (waiting' filled' time : ℕ) → Told store entries slots waiting filled
    → BookStep (slots_after (entries_seen store entries)) entry.by.0 (event_seen store entry.event) → entry.stamp ≡ 1 + max time (last_stamp_of (λ (k : Kept). k.stamp) entries)
    → HasFlatText (event_seen store entry.event) → IsWithin (length store) entry.event → Tallies (entries_seen store entries ++ entry_seen store entry ∷ []) slots' waiting' filled'
    → Told store (entries ++ entry ∷ []) slots' waiting' filled'
told_entered store entries slots waiting filled entry slots' waiting' filled' time told step stamp text range tallies =
    let same = sym (entries-push store entries entry) in
    let stamp' : entry.stamp ≡ 1 + max time (last_stamp_of stamp_of (entries_seen store entries)) = stamp ∙ ap (λ (t : ℕ). 1 + max time t) (sym (last-seen store entries)) in
    record {
      legal = subst IsLegal same (legal_push (entries_seen store entries) (entry_seen store entry) time told.legal step stamp');
      texts = subst (λ (all : List ReplyEntry). All (λ entry. HasFlatText entry.event) all) same (All-push (λ (entry : ReplyEntry). HasFlatText entry.event) (entries_seen store entries) (entry_seen store entry) told.texts text);
      ranges = All-push (λ (entry : Kept). IsWithin (length store) entry.event) entries entry told.ranges range;
      tallies = subst (λ (all : List ReplyEntry). Tallies all slots' waiting' filled') same tallies;
    }
