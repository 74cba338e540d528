-- Behind a turn that found no memory there is no other one: no dispatch stands behind its entry.
use Rattle.std.proofs.Common.{◌≡◌, ◌≢◌, ◌⊎◌, ℕ, suc, ◌+◌, ◌==◌, Bool, true, false, List, [], ◌∷◌, ◌++◌, length, length-append, All, refl, sym, ap, ◌∙◌, inl, inr, ⊎_elim, append_assoc, arith, ne_eqb}
use Rattle.std.specs.Prelude.{◌||◌}
use Rattle.std.proofs.lemmas.Bool.{false≢true}
use Rattle.std.proofs.lemmas.List.Elements.{All-cons, All-head, All-nil, All-tail}
use mathlib.Core.Logic.{dite}
use native.Mathlib.Decide.{ℕ_discrete}
use Rattle.ak_base.specs.Thread.{looper_thread}
use Rattle.ak_turn.specs.Entries.{AreByOthers}
use Rattle.ak_turn.specs.Noted.{Noted, note, noted}
use Rattle.ak_turn.proofs.Surface.{noted-others, noted-own, same_before}
use Rattle.ak_action.specs.declared.answer.AnswerWord.{AnswerWord}
use Rattle.ak_desk.specs.declared.entry.DeskEvent.{DeskEvent}
use Rattle.ak_desk.specs.declared.entry.DeskEvent.TheVariants as event
use Rattle.ak_desk.specs.declared.entry.EntryRoute.{EntryRoute}
use Rattle.ak_desk.specs.Entry.{EntryData}
use Rattle.ak_desk.specs.Machine.{counted, counted_all, dispatches}
use Rattle.ak_desk.specs.Shared.{by_number}
use Rattle.ak_diary.specs.Looper.{calls_for_closing, is_closing}
use Rattle.ak_diary.specs.Step.{Step, at_book, at_desk, at_port, at_roster, is_lack, lacked, ran_short, saw_book, saw_port, saw_roster}
use Rattle.ak_headline.proofs.Lists.{same_last}
use Rattle.ak_headline.proofs.LoopersTold.{IsOwn}
use Rattle.ak_headline.proofs.SendsTold.{IsOwnEntry}

-- ---- want of memory calls for the closing
pub or_true : (b : Bool) → (b || true) ≡ true
or_true true = refl
or_true false = refl

either_of : (a b c d : Bool) → (a ≡ true → c ≡ true) → (b ≡ true → d ≡ true) → (a || b) ≡ true → (c || d) ≡ true
either_of true b c d first others e = ap (λ k. k || d) (first refl)
either_of false b c d first others e = ap (λ k. c || k) (others e) ∙ or_true c

lack_calls : (step : Step) → is_lack step ≡ true → calls_for_closing step ≡ true
lack_calls (at_roster x) e = absurd (false≢true e)
lack_calls (at_book x) e = absurd (false≢true e)
lack_calls (at_port looper x) e = absurd (false≢true e)
lack_calls (at_desk looper x) e = absurd (false≢true e)
lack_calls (saw_roster seen) e = absurd (false≢true e)
lack_calls (saw_book seen) e = absurd (false≢true e)
lack_calls (saw_port looper seen) e = absurd (false≢true e)
lack_calls lacked e = refl

pub short_closes : (steps : List Step) → ran_short steps ≡ true → is_closing steps ≡ true
short_closes [] e = absurd (false≢true e)
short_closes (step ∷ steps) e = either_of (is_lack step) (ran_short steps) (calls_for_closing step) (is_closing steps) (lack_calls step) (short_closes steps) e

-- ---- behind the last that a thread noted, the entries are of others
module _ {L : Type 0} (by : L → ℕ) (thread : ℕ) where
  -- its last one of a list
  record HasOwn (xs : List L) : Type 0 where
    front : List L
    entry : L
    behind : List L
    is : xs ≡ front ++ entry ∷ behind
    own : by entry ≡ thread
    others : AreByOthers by thread behind

  last_own : (xs : List L) → AreByOthers by thread xs ⊎ HasOwn xs
  last_own [] = inl (All-nil (λ entry. by entry ≢ thread))
  last_own (x ∷ xs) =
      ⊎_elim
      (λ (others : AreByOthers by thread xs).
      dite (ℕ_discrete (by x) thread) (λ own. inr (record { front = []; entry = x; behind = xs; is = refl; own = own; others = others }))
      (λ other. inl (All-cons (λ entry. by entry ≢ thread) x xs other others)))
      (λ (o : HasOwn xs). inr (record { front = x ∷ o.front; entry = o.entry; behind = o.behind; is = ap (λ k. x ∷ k) o.is; own = o.own; others = o.others })) (last_own xs)

  same_noted : (n m : Noted L) (xs ys : List (Noted L)) → xs ++ n ∷ [] ≡ ys ++ m ∷ [] → n ≡ m
  same_noted n m xs ys e = same_last ys n m (ap (λ k. k ++ n ∷ []) (sym (same_before xs ys n m e)) ∙ e)

  pub others_behind : (entries : List L) (mine : List (Noted L)) (n : Noted L) (behind : List L) → entries ≡ (n.before ++ n.entry ∷ []) ++ behind → noted by thread entries ≡ mine ++ n ∷ []
      → AreByOthers by thread behind
  others_behind entries mine n behind is told =
      ⊎_elim (λ (others : AreByOthers by thread behind). others)
      (λ (o : HasOwn behind).
      let upto : List L = n.before ++ n.entry ∷ [] in
      let front : List L = upto ++ o.front in
      let whole : entries ≡ (front ++ o.entry ∷ []) ++ o.behind =
      is ∙ ap (λ k. upto ++ k) o.is ∙ sym (append_assoc upto o.front (o.entry ∷ o.behind)) ∙ sym (append_assoc front (o.entry ∷ []) o.behind) in
      let last : mine ++ n ∷ [] ≡ noted by thread front ++ note front o.entry ∷ [] =
      sym told ∙ ap (noted by thread) whole ∙ noted-others by thread (front ++ o.entry ∷ []) o.behind o.others ∙ noted-own by thread front o.entry o.own in
      let same : n ≡ note front o.entry = same_noted n (note front o.entry) mine (noted by thread front) last in
      let long : length n.before ≡ length front = ap (λ (k : Noted L). length k.before) same in
      absurd (omega (arith, long, length-append upto o.front, length-append n.before (n.entry ∷ []))))
      (last_own behind)

-- ---- so none of them is a dispatch
All-rest : {X : Type 0} (P : X → Type 0) (xs ys : List X) → All P (xs ++ ys) → All P ys
All-rest P [] ys all = all
All-rest P (x ∷ xs) ys all = All-rest P xs ys (All-tail P x (xs ++ ys) all)

not_counted : (k : ℕ) (e : DeskEvent) (b : Bool) → IsOwn e b → b ≡ false → counted k e ≡ k
not_counted k (event.Dispatched position r words quit) b own other = absurd (false≢true (sym other ∙ own))
not_counted k (event.Edited edit answer) b own other = refl

none_of_others : (looper k : ℕ) (xs : List EntryData) → All (IsOwnEntry looper) xs → AreByOthers by_number (looper_thread looper) xs → counted_all k xs ≡ k
none_of_others looper k [] own others = refl
none_of_others looper k (x ∷ xs) own others =
    none_of_others looper (counted k x.plain.event) xs (All-tail (IsOwnEntry looper) x xs own) (All-tail (λ (entry : EntryData). by_number entry ≢ looper_thread looper) x xs others)
    ∙ not_counted k x.plain.event (by_number x == looper_thread looper) (All-head (IsOwnEntry looper) x xs own)
    (ne_eqb (by_number x) (looper_thread looper) (All-head (λ (entry : EntryData). by_number entry ≢ looper_thread looper) x xs others))

pub none_dispatched : (looper : ℕ) (front behind : List EntryData) → All (IsOwnEntry looper) (front ++ behind) → AreByOthers by_number (looper_thread looper) behind → dispatches behind ≡ 0
none_dispatched looper front behind own others = none_of_others looper 0 behind (All-rest (IsOwnEntry looper) front behind own) others

-- ---- and it is the last one
counted_parts : (k : ℕ) (xs ys : List EntryData) → counted_all k (xs ++ ys) ≡ counted_all (counted_all k xs) ys
counted_parts k [] ys = refl
counted_parts k (x ∷ xs) ys = counted_parts (counted k x.plain.event) xs ys

counted_more : (k : ℕ) (e : DeskEvent) → counted k e ≡ counted 0 e + k
counted_more k (event.Dispatched position r words quit) = omega arith
counted_more k (event.Edited edit answer) = omega arith

counted_from : (k : ℕ) (xs : List EntryData) → counted_all k xs ≡ dispatches xs + k
counted_from k [] = omega arith
counted_from k (x ∷ xs) = omega (arith, counted_from (counted k x.plain.event) xs, counted_from (counted 0 x.plain.event) xs, counted_more k x.plain.event)

-- a list with a dispatch at that position has as many as stand up to it, and those behind it
pub dispatches_behind : (before : List EntryData) (entry : EntryData) (behind : List EntryData) (position : ℕ) (route : EntryRoute) (words : List AnswerWord) (quit : Bool)
    → entry.plain.event ≡ event.Dispatched position route words quit → position ≡ dispatches before → dispatches (before ++ entry ∷ behind) ≡ suc position + dispatches behind
dispatches_behind before entry behind position route words quit is at =
    let one : counted (dispatches before) entry.plain.event ≡ dispatches before + 1 = ap (counted (dispatches before)) is in
    omega (arith, counted_parts 0 before (entry ∷ behind), counted_from (counted (dispatches before) entry.plain.event) behind, one, at)

pub last_dispatch : (before : List EntryData) (entry : EntryData) (behind : List EntryData) (position : ℕ) (route : EntryRoute) (words : List AnswerWord) (quit : Bool)
    → entry.plain.event ≡ event.Dispatched position route words quit → position ≡ dispatches before → dispatches behind ≡ 0 → dispatches (before ++ entry ∷ behind) ≡ suc position
last_dispatch before entry behind position route words quit is at none = omega (arith, dispatches_behind before entry behind position route words quit is at, none)
