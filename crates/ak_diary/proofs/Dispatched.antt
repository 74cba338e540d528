-- The messages that a desk's list dispatched are those at the positions that its entries tell; and one of the entries in its place.
use Rattle.std.proofs.Common.{◌≡◌, ◌⊎◌, ℕ, ◌+◌, ◌<◌, ◌≤◌, Bool, List, [], ◌∷◌, ◌++◌, length, take, get_or, Option, None, Some, refl, sym, ap, ◌∙◌, subst, inl, inr, arith, append_assoc, append-nil, ⊎_elim}
use Rattle.std.specs.Prelude.{slice_get}
use Rattle.std.proofs.lemmas.List.{take_more}
use Rattle.std.proofs.lemmas.Option.{slice_get_cases}
use Rattle.ak_base.specs.Thread.{looper_thread}
use Rattle.ak_turn.proofs.Surface.{rise_before}
use Rattle.ak_flatten.specs.Item.{ItemData}
use Rattle.ak_flatten.specs.declared.item.Taken.{Taken}
use Rattle.ak_action.specs.declared.answer.AnswerWord.{AnswerWord}
use Rattle.ak_action.specs.declared.state.DeskState.{DeskState}
use Rattle.ak_desk.specs.declared.entry.DeskEvent.{DeskEvent}
use Rattle.ak_desk.specs.declared.entry.DeskEvent.TheVariants as event
use Rattle.ak_desk.specs.declared.entry.EntryRoute.{EntryRoute}
use Rattle.ak_desk.specs.declared.entry.EntryRoute.TheVariants as went
use Rattle.ak_desk.specs.Desk.{stamp_number}
use Rattle.ak_desk.specs.Entry.{EntryData}
use Rattle.ak_desk.specs.Laws.{EachEntryFollows, HasOneReply}
use Rattle.ak_desk.specs.Machine.{DeskStep, DispatchStep, EventStep, IsBy, IsHistory, Replays, StampsRise, counted, counted_all, dispatches, paired}
use Rattle.ak_diary.specs.Laws.{WasGivenUp, WentByRule, dispatched_item, dispatched_items, listed}

-- ---- where a port accepted these
module _ (accepted : List Taken) where
  -- the first n, and the one at n, are one more
  one_more : (n : ℕ) → n < length accepted → take n accepted ++ listed (slice_get accepted n) ≡ take (n + 1) accepted
  one_more n within =
      ⊎_elim
      (λ (has : (x : Taken) × (n < length accepted) × (slice_get accepted n ≡ Some x) × (get_or accepted n x ≡ x)).
      ap (λ (o : Option Taken). take n accepted ++ listed o) has.2 ∙ ap (λ (k : Taken). take n accepted ++ k ∷ []) (sym has.3) ∙ sym (take_more accepted n has.0 has.1))
      (λ (past : (length accepted ≤ n) × (slice_get accepted n ≡ None)). absurd (omega (arith, within, past.0))) (slice_get_cases accepted n).1

  one_listed : (n : ℕ) (s : DeskState) (e : DeskEvent) (item : Option ItemData) (t : DeskState) → EventStep n s e item t → counted n e ≤ length accepted
      → take n accepted ++ dispatched_item accepted e ≡ take (counted n e) accepted
  one_listed n s (event.Dispatched position r words quit) item t (at, d) most =
      ap (λ (k : ℕ). take n accepted ++ listed (slice_get accepted k)) at ∙ one_more n (omega (arith, most))
  one_listed n s (event.Edited edit answer) item t step most = append-nil (take n accepted)

  no_fewer : (n : ℕ) (e : DeskEvent) → n ≤ counted n e
  no_fewer n (event.Dispatched position r words quit) = omega arith
  no_fewer n (event.Edited edit answer) = omega arith

  none_fewer : (n : ℕ) (entries : List EntryData) → n ≤ counted_all n entries
  none_fewer n [] = omega arith
  none_fewer n (x ∷ entries) = omega (arith, no_fewer n x.plain.event, none_fewer (counted n x.plain.event) entries)

  -- behind the first n of them, the list's messages lead to as many as were dispatched then
  pub listed_items : (looper n : ℕ) (s : DeskState) (entries : List EntryData) (t : DeskState) → Replays looper n s entries t → counted_all n entries ≤ length accepted
      → take n accepted ++ dispatched_items accepted entries ≡ take (counted_all n entries) accepted
  listed_items looper n s [] t e most = append-nil (take n accepted)
  listed_items looper n s (x ∷ entries) t (u, (step, rest)) most =
      let few : counted n x.plain.event ≤ length accepted = omega (arith, most, none_fewer (counted n x.plain.event) entries) in
      sym (append_assoc (take n accepted) (dispatched_item accepted x.plain.event) (dispatched_items accepted entries))
      ∙ ap (λ k. k ++ dispatched_items accepted entries) (one_listed n s x.plain.event x.item u step.event few)
      ∙ listed_items looper (counted n x.plain.event) u entries t rest most

-- ---- one of them
replays_on : (looper n : ℕ) (s : DeskState) (entries : List EntryData) (u : DeskState) (entry : EntryData) (t : DeskState) → Replays looper n s entries u → DeskStep looper (counted_all n entries) u entry t → Replays looper n s (entries ++ entry ∷ []) t
replays_on looper n s [] u entry t e step = (t, (subst (λ (x : DeskState). DeskStep looper n x entry t) e step, refl))
replays_on looper n s (x ∷ entries) u entry t (m, (first, rest)) step = (m, (first, replays_on looper (counted n x.plain.event) m entries u entry t rest step))

-- where it went
pub goes_so : (s : DeskState) (r : EntryRoute) (item : ItemData) (words : List AnswerWord) (quit : Bool) (t : DeskState) → DispatchStep s r (paired r item) words quit t
    → WentByRule s item r words quit t ⊎ WasGivenUp s r words quit t
goes_so s went.NoMemory item words quit t d = inr (record { route = refl; wordless = d.0; goes_on = d.1.0; unchanged = d.1.1 })
goes_so s (went.To token) item words quit t d = inl (record { route = d.0; comes = d.1 })
goes_so s went.Skipped item words quit t d = inl (record { route = d.0; comes = d.1 })
goes_so s went.Dropped item words quit t d = inl (record { route = d.0; comes = d.1 })
goes_so s went.NotUnderstood item words quit t d = inl (record { route = d.0; comes = d.1 })
goes_so s (went.Forward looper) item words quit t d = inl (record { route = d.0; comes = d.1 })

-- the one reply of its entry is that of its message
pub replies_so : (s : DeskState) (r : EntryRoute) (item : ItemData) (words : List AnswerWord) → HasOneReply s r (paired r item) words → HasOneReply s r (Some item) words
replies_so s went.NoMemory item words h = record { reply = h.reply; replies = h.replies; alone = h.alone }
replies_so s (went.To token) item words h = h
replies_so s went.Skipped item words h = h
replies_so s went.Dropped item words h = h
replies_so s went.NotUnderstood item words h = h
replies_so s (went.Forward looper) item words h = h

-- by its own thread, at its place, between two states
pub record IsAtItsPlace (opening : DeskState) (before : List EntryData) (entry : EntryData) (position : ℕ) (r : EntryRoute) (words : List AnswerWord) (quit : Bool) : Type 0 where
  pub by : entry.plain.by.0 ≡ looper_thread opening.looper
  pub position_is : position ≡ dispatches before
  pub meets : DeskState
  pub leaves : DeskState
  pub leads_there : IsHistory opening before meets
  pub leads_on : IsHistory opening (before ++ entry ∷ []) leaves
  pub step : DispatchStep meets r entry.item words quit leaves

module _ (follows : EachEntryFollows) where
  pub at_its_place : (opening : DeskState) (before : List EntryData) (entry : EntryData) (behind : List EntryData) (t : DeskState) (position : ℕ) (r : EntryRoute) (words : List AnswerWord) (quit : Bool)
      → IsHistory opening (before ++ entry ∷ behind) t → entry.plain.event ≡ event.Dispatched position r words quit → IsAtItsPlace opening before entry position r words quit
  at_its_place opening before entry behind t position r words quit history is =
      let looper = opening.looper in
      let at = follows looper opening before entry behind t history.replays in
      let step : EventStep (dispatches before) at.meets (event.Dispatched position r words quit) entry.item at.leaves =
      subst (λ (e : DeskEvent). EventStep (dispatches before) at.meets e entry.item at.leaves) is at.step.event in
      let own : IsBy looper entry.plain.by.0 (event.Dispatched position r words quit) = subst (IsBy looper entry.plain.by.0) is at.step.by in
      record {
        by = own;
        position_is = step.0;
        meets = at.meets;
        leaves = at.leaves;
        leads_there = record { replays = at.before_it; stamps = rise_before stamp_number 0 before (entry ∷ behind) history.stamps };
        leads_on = record {
          replays = replays_on looper 0 opening before at.meets entry at.leaves at.before_it at.step;
          stamps = rise_before stamp_number 0 (before ++ entry ∷ []) behind (subst (StampsRise 0) (sym (append_assoc before (entry ∷ []) behind)) history.stamps);
        };
        step = step.1;
      }
