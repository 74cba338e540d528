-- A slot is opened at most once, and is settled where an entry filled or cancelled it.
use Rattle.std.proofs.Common.{◌≡◌, ◌≢◌, ◌⊎◌, ℕ, zero, suc, ◌+◌, ◌<◌, ◌≤◌, ◌||◌, Bool, true, false, IsTrue, List, [], ◌∷◌, ◌++◌, length, length-append, refl, ap, inl, inr, ⊎_elim, arith, eq-eqb, ne_eqb}
use Rattle.std.proofs.lemmas.Bool.{cases_eq}
use Rattle.std.specs.List.{list_any}
use Rattle.ak_turn.specs.Entries.{StartsWith}
use Rattle.ak_port.specs.declared.reply_entry.ReplyEntry.{ReplyEntry}
use Rattle.ak_port.specs.declared.reply_entry.ReplyEvent.{ReplyEvent}
use Rattle.ak_port.specs.declared.reply_entry.ReplyEvent.TheVariants.{Opened, Filled, Cancelled, Taken}
use Rattle.ak_port.specs.Reply.{BookStep, IsLegal, IsSettled, Replays, SlotData, Stage, changed, fills, settles, with_stage, open_stage, filled_stage, cancelled_stage, taken_stage}
use Rattle.ak_headline.specs.Answers.{cancels, opens}
use Rattle.ak_headline.specs.Tally.{how_many}
use Rattle.ak_headline.proofs.Counts.{how_many-append, how_many-cons, how_many_parts, one_if}

-- ---- slots do not get fewer
length-with_stage : (slots : List SlotData) (n : ℕ) (stage : Stage) → length (with_stage slots n stage) ≡ length slots
length-with_stage [] n stage = refl
length-with_stage (slot ∷ slots) zero stage = refl
length-with_stage (slot ∷ slots) (suc n) stage = ap suc (length-with_stage slots n stage)

more_slots : (slots : List SlotData) (by : ℕ) (e : ReplyEvent) → length slots ≤ length (changed slots by e)
more_slots slots by (Opened m) = omega (arith, length-append slots (record { opener = by; stage = open_stage } ∷ []))
more_slots slots by (Filled m flat) = omega (arith, length-with_stage slots m (filled_stage flat))
more_slots slots by (Cancelled m) = omega (arith, length-with_stage slots m cancelled_stage)
more_slots slots by (Taken m) = omega (arith, length-with_stage slots m taken_stage)

-- ---- one entry
module _ (n : ℕ) where
  -- it does not open the slot; or it does, and the slot is there behind it, and was not before it
  not_opening : (slots : List SlotData) (by : ℕ) (e : ReplyEvent) → BookStep slots by e → one_if (opens n e) ≡ 0 ⊎ ((one_if (opens n e) ≡ 1) × (length slots ≤ n) × (n < length (changed slots by e)))
  not_opening slots by (Opened m) step =
      ⊎_elim
      (λ (same : m ≡ n).
      inr (ap one_if (eq-eqb m n same), omega (arith, step, same), omega (arith, step, same, length-append slots (record { opener = by; stage = open_stage } ∷ []))))
      (λ (other : m ≢ n). inl (ap one_if (ne_eqb m n other))) (cases_eq m n)
  not_opening slots by (Filled m flat) step = inl refl
  not_opening slots by (Cancelled m) step = inl refl
  not_opening slots by (Taken m) step = inl refl

  abbrev opens_it : ReplyEntry → Bool
  opens_it entry = opens n entry.event

  opened_no_more : (slots : List SlotData) (entries : List ReplyEntry) → Replays slots entries → n < length slots → how_many opens_it entries ≡ 0
  opened_no_more slots [] replays there = refl
  opened_no_more slots (x ∷ entries) replays there =
      let later = opened_no_more (changed slots x.by.0 x.event) entries replays.1 (omega (arith, there, more_slots slots x.by.0 x.event)) in
      ⊎_elim (λ (none : one_if (opens_it x) ≡ 0). omega (arith, how_many-cons opens_it x entries, none, later))
      (λ (one : (one_if (opens_it x) ≡ 1) × (length slots ≤ n) × (n < length (changed slots x.by.0 x.event))). absurd (omega (arith, one.1, there)))
      (not_opening slots x.by.0 x.event replays.0)

  opened_few : (slots : List SlotData) (entries : List ReplyEntry) → Replays slots entries → how_many opens_it entries ≤ 1
  opened_few slots [] replays = omega arith
  opened_few slots (x ∷ entries) replays =
      ⊎_elim (λ (none : one_if (opens_it x) ≡ 0). omega (arith, how_many-cons opens_it x entries, none, opened_few (changed slots x.by.0 x.event) entries replays.1))
      (λ (one : (one_if (opens_it x) ≡ 1) × (length slots ≤ n) × (n < length (changed slots x.by.0 x.event))).
      omega (arith, how_many-cons opens_it x entries, one.0, opened_no_more (changed slots x.by.0 x.event) entries replays.1 one.2))
      (not_opening slots x.by.0 x.event replays.0)

  pub opened_once : (book : List ReplyEntry) → IsLegal book → how_many opens_it book ≤ 1
  opened_once book legal = opened_few [] book legal.replays

  -- ---- what settles it
  some_or : (a b : Bool) (k : ℕ) → (a || b) ≡ true → (b ≡ true → 1 ≤ k) → 1 ≤ one_if a + k
  some_or true b k is later = omega arith
  some_or false b k is later = omega (arith, later is)

  any_counts : {X : Type 0} (test : X → Bool) (xs : List X) → IsTrue (list_any test xs) → 1 ≤ how_many test xs
  any_counts test [] is = absurd (cc is)
  any_counts test (x ∷ xs) is = omega (arith, how_many-cons test x xs, some_or (test x) (list_any test xs) (how_many test xs) is (any_counts test xs))

  fills_or_cancels : (e : ReplyEvent) → one_if (settles n e) ≡ one_if (fills n e) + one_if (cancels n e)
  fills_or_cancels (Opened m) = omega arith
  fills_or_cancels (Filled m flat) = omega arith
  fills_or_cancels (Cancelled m) = omega arith
  fills_or_cancels (Taken m) = omega arith

  -- where a beginning of the book shows that the slot is settled, an entry of the book filled or cancelled it
  pub settled_counts : (book seen : List ReplyEntry) → StartsWith book seen → IsSettled n seen
      → 1 ≤ how_many (λ (entry : ReplyEntry). fills n entry.event) book + how_many (λ (entry : ReplyEntry). cancels n entry.event) book
  settled_counts book seen starts settled =
      let test : ReplyEntry → Bool = λ entry. settles n entry.event in
      let whole : how_many test book ≡ how_many test (seen ++ starts.0) = ap (how_many test) starts.1 in
      omega (
        arith,
        any_counts test seen settled,
        whole,
        how_many-append test seen starts.0,
        how_many_parts test (λ (entry : ReplyEntry). fills n entry.event) (λ (entry : ReplyEntry). cancels n entry.event) (λ entry. fills_or_cancels entry.event) book,
      )
