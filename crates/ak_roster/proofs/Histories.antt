-- Histories of the roster that go on.
use Rattle.std.proofs.Common.{◌≡◌, ◌<◌, ℕ, zero, suc, ◌+◌, ◌⊎◌, inl, inr, List, [], ◌∷◌, ◌++◌, length, refl, ap, ◌∙◌, subst, arith}
use Rattle.std.proofs.lemmas.List.{length-append, length-replicate}
use Rattle.ak_turn.specs.Entries.{last_stamp_of}
use Rattle.ak_roster.specs.declared.head.AppHead.{AppHead}
use Rattle.ak_roster.specs.declared.entry.RosterEntry.{RosterEntry}
use Rattle.ak_roster.specs.declared.entry.RosterEvent.{RosterEvent}
use Rattle.ak_roster.specs.declared.entry.RosterEvent.TheVariants as event
use Rattle.ak_roster.specs.declared.entry.LaunchOutcome.{LaunchOutcome}
use Rattle.ak_roster.specs.declared.entry.LaunchOutcome.TheVariants as launch
use Rattle.ak_roster.specs.Machine.{LooperData, RosterState, IsLegal, IsHistory, after, loopers_at, loopers_of, state_from, state_of, start, with_given}
use Rattle.ak_roster.specs.Kept.{count_of, count_launched}
use Rattle.ak_roster.proofs.Entries.{count_all}

module _ (heads : List AppHead) where
  pub state_from-append : (s : RosterState) (es : List RosterEntry) (e : RosterEntry)
      → state_from heads s (es ++ e ∷ []) ≡ after heads (state_from heads s es) e.by.0 e.event
  state_from-append s [] e = refl
  state_from-append s (x ∷ xs) e = state_from-append (after heads s x.by.0 x.event) xs e

  pub state_of-append : (es : List RosterEntry) (e : RosterEntry) → state_of heads (es ++ e ∷ []) ≡ after heads (state_of heads es) e.by.0 e.event
  state_of-append es e = state_from-append start es e

cons_same : {A : Type 0} (a b : A) (xs ys : List A) → a ≡ b → xs ≡ ys → a ∷ xs ≡ b ∷ ys
cons_same a b xs ys first others = ap (λ x. x ∷ xs) first ∙ ap (λ zs. b ∷ zs) others

pub length-with_given : (thread number : ℕ) (loopers : List LooperData) → length (with_given thread number loopers) ≡ length loopers
length-with_given thread number [] = refl
length-with_given thread zero (l ∷ ls) = refl
length-with_given thread (suc number) (l ∷ ls) = ap suc (length-with_given thread number ls)

module _ (heads : List AppHead) where
  pub count_started : (by : ℕ) (result : LaunchOutcome) → length (loopers_of heads by result) ≡ count_launched heads result
  count_started by (launch.Started place team first) = length-replicate (loopers_at heads place) (record { own = first; starter = by; given = [] })
  count_started by (launch.AlreadyRunning team) = refl
  count_started by launch.NotFound = refl
  count_started by launch.Limit = refl

  -- an event adds as many loopers as it starts
  pub loopers-after : (s : RosterState) (by : ℕ) (what : RosterEvent) → length (after heads s by what).loopers ≡ length s.loopers + count_of heads what
  loopers-after s by (event.Launch word result) = length-append s.loopers (loopers_of heads by result) ∙ ap (λ n. length s.loopers + n) (count_started by result)
  loopers-after s by (event.Find word result) = omega arith
  loopers-after s by (event.Gone team) = omega arith
  loopers-after s by (event.Door looper) = length-with_given by looper s.loopers ∙ omega arith

  loopers_from : (s : RosterState) (es : List RosterEntry) → length (state_from heads s es).loopers ≡ length s.loopers + count_all heads es
  loopers_from s [] = omega arith
  loopers_from s (x ∷ xs) = omega (arith, loopers_from (after heads s x.by.0 x.event) xs, loopers-after s x.by.0 x.event)

  pub length-loopers : (es : List RosterEntry) → length (state_of heads es).loopers ≡ count_all heads es
  length-loopers es = omega (arith, loopers_from start es)

-- where a list with one more at its end is parted before an element, that is the last one, or stands in the list
pub parts_of-push : {A : Type 0} (xs : List A) (x : A) (before : List A) (y : A) (rest : List A) → xs ++ x ∷ [] ≡ before ++ y ∷ rest
    → ((xs ≡ before) × (x ≡ y)) ⊎ ((more : List A) × (xs ≡ before ++ y ∷ more))
parts_of-push [] x [] y rest e = inl (refl, cc)
parts_of-push [] x (b ∷ bs) y rest e = absurd (omega (arith, ap length e, length-append bs (y ∷ rest)))
parts_of-push (a ∷ xs) x [] y rest e = inr (xs, cc)
parts_of-push (a ∷ xs) x (b ∷ bs) y rest e =
    let first : a ≡ b = cc in
    let others : xs ++ x ∷ [] ≡ bs ++ y ∷ rest = cc in
    elim (parts_of-push xs x bs y rest others) [ inl h ↦ inl (cons_same a b xs bs first h.0, h.1) | inr h ↦ inr (h.0, cons_same a b xs (bs ++ y ∷ h.0) first h.1) ]

module _ (heads : List AppHead) (es : List RosterEntry) (e : RosterEntry) where
  -- a history goes on by a step
  pub history_goes_on : IsHistory heads es → IsLegal heads (state_of heads es) e.by.0 e.event → last_stamp_of (λ x. x.stamp) es < e.stamp → IsHistory heads (es ++ e ∷ [])
  history_goes_on history legal past = record {
    steps = λ before entry rest parted. elim (parts_of-push es e before entry rest parted) [
      | inl h ↦ record {
        legal = subst (λ (b : List RosterEntry). IsLegal heads (state_of heads b) entry.by.0 entry.event) h.0
            (subst (λ (x : RosterEntry). IsLegal heads (state_of heads es) x.by.0 x.event) h.1 legal);
        effect = state_of-append heads before entry;
      }
      | inr h ↦ history.steps before entry h.0 h.1
    ];
    stamps = λ before entry rest parted. elim (parts_of-push es e before entry rest parted) [
      | inl h ↦ subst (λ (b : List RosterEntry). last_stamp_of (λ x. x.stamp) b < entry.stamp) h.0
          (subst (λ (x : RosterEntry). last_stamp_of (λ y. y.stamp) es < x.stamp) h.1 past)
      | inr h ↦ history.stamps before entry h.0 h.1
    ];
  }
