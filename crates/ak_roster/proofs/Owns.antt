-- A looper has a looper of its own team as its team's own one.
use Rattle.std.proofs.Common.{◌≡◌, ◌<◌, ◌≤◌, ◌+◌, ◌⊎◌, inl, inr, ℕ, zero, suc, List, [], ◌∷◌, ◌++◌, length, Some, refl, sym, arith, All}
use Rattle.std.specs.Prelude.{replicate, slice_get}
use Rattle.std.proofs.lemmas.List.{length-append, length-replicate}
use Rattle.std.proofs.lemmas.List.Elements.{All-nil, All-push, All-weaker}
use Rattle.ak_roster.specs.declared.head.AppHead.{AppHead}
use Rattle.ak_roster.specs.declared.entry.RosterEntry.{RosterEntry}
use Rattle.ak_roster.specs.declared.entry.RosterEvent.{RosterEvent}
use Rattle.ak_roster.specs.declared.entry.RosterEvent.TheVariants as event
use Rattle.ak_roster.specs.declared.entry.LaunchOutcome.{LaunchOutcome}
use Rattle.ak_roster.specs.declared.entry.LaunchOutcome.TheVariants as launch
use Rattle.ak_roster.specs.Machine.{IsLegal, LooperData, RosterState, after, given_to, loopers_at, loopers_of, with_given}
use Rattle.ak_roster.specs.Laws.{KeepsOwnsIn, OwnsStayInTeams}
use Rattle.ak_roster.proofs.Carried.{carried}
use Rattle.ak_roster.proofs.Histories.{length-with_given}
use Rattle.ak_roster.proofs.Launching.{started_facts}

below_length : (xs : List LooperData) (n : ℕ) (l : LooperData) → slice_get xs n ≡ Some l → n < length xs
below_length [] n l is = absurd cc
below_length (x ∷ xs) zero l is = omega arith
below_length (x ∷ xs) (suc n) l is = omega (arith, below_length xs n l is)

-- ---- the loopers after a step: each was there with the same own one, or is new and has the first new one as its own
abbrev Was : List LooperData → ℕ → LooperData → Type 0
Was old n l = (o : LooperData) × (slice_get old n ≡ Some o) × (o.own ≡ l.own)

abbrev IsNew : List LooperData → ℕ → LooperData → Type 0
IsNew old n l = (l.own ≡ length old) × (length old ≤ n)

abbrev Comes : List LooperData → List LooperData → Type 0
Comes old new = (n : ℕ) (l : LooperData) → slice_get new n ≡ Some l → Was old n l ⊎ IsNew old n l

-- of those that were just started
of_new : (xs : List LooperData) (x : LooperData) (count n : ℕ) (l : LooperData) → slice_get (xs ++ replicate count x) n ≡ Some l → (slice_get xs n ≡ Some l) ⊎ ((l.own ≡ x.own) × (length xs ≤ n))
of_new [] x zero n l is = absurd cc
of_new [] x (suc count) zero l is = let e : l ≡ x = cc in inr (cc, omega arith)
of_new [] x (suc count) (suc n) l is = elim (of_new [] x count n l is) [ inl h ↦ absurd cc | inr h ↦ inr (h.0, omega arith) ]
of_new (y ∷ xs) x count zero l is = inl is
of_new (y ∷ xs) x count (suc n) l is = elim (of_new xs x count n l is) [ inl h ↦ inl h | inr h ↦ inr (h.0, omega (arith, h.1)) ]

of_given : (thread number : ℕ) (xs : List LooperData) (n : ℕ) (l : LooperData) → slice_get (with_given thread number xs) n ≡ Some l → Was xs n l
of_given thread number [] n l is = absurd cc
of_given thread zero (x ∷ xs) zero l is = let e : given_to thread x ≡ l = cc in (x, refl, cc)
of_given thread zero (x ∷ xs) (suc n) l is = (l, is, refl)
of_given thread (suc number) (x ∷ xs) zero l is = (l, is, refl)
of_given thread (suc number) (x ∷ xs) (suc n) l is = of_given thread number xs n l is

-- nothing started
of_none : (xs : List LooperData) (n : ℕ) (l : LooperData) → slice_get (xs ++ []) n ≡ Some l → slice_get xs n ≡ Some l
of_none [] n l is = is
of_none (x ∷ xs) zero l is = is
of_none (x ∷ xs) (suc n) l is = of_none xs n l is

none_come : (xs : List LooperData) → Comes xs (xs ++ [])
none_come xs n l is = inl (l, of_none xs n l is, refl)

module _ (heads : List AppHead) (s : RosterState) (by : ℕ) where
  event_comes : (what : RosterEvent) → IsLegal heads s by what → Comes s.loopers (after heads s by what).loopers
  event_comes (event.Launch word (launch.Started place t first)) legal n l is =
      let f = started_facts heads s word place t first (sym legal) in
      let looper : LooperData = record { own = first; starter = by; given = [] } in
      elim (of_new s.loopers looper (loopers_at heads place) n l is) [ inl h ↦ inl (l, h, refl) | inr h ↦ let e : first ≡ length s.loopers = f.first_is in inr (cc, h.1) ]
  event_comes (event.Launch word (launch.AlreadyRunning t)) legal n l is = none_come s.loopers n l is
  event_comes (event.Launch word launch.NotFound) legal n l is = none_come s.loopers n l is
  event_comes (event.Launch word launch.Limit) legal n l is = none_come s.loopers n l is
  event_comes (event.Find word o) legal n l is = inl (l, is, refl)
  event_comes (event.Gone t) legal n l is = inl (l, is, refl)
  event_comes (event.Door looper) legal n l is = inl (of_given by looper s.loopers n l is)

  event_grows : (what : RosterEvent) → length s.loopers ≤ length (after heads s by what).loopers
  event_grows (event.Launch word o) = omega (arith, length-append s.loopers (loopers_of heads by o))
  event_grows (event.Find word o) = omega arith
  event_grows (event.Gone t) = omega arith
  event_grows (event.Door looper) = omega (arith, length-with_given by looper s.loopers)

-- ---- what is kept
-- no looper's own one comes after it
abbrev AreEarly : List LooperData → Type 0
AreEarly loopers = (n : ℕ) (l : LooperData) → slice_get loopers n ≡ Some l → l.own ≤ n

abbrev Owns : List LooperData → ℕ → ℕ → Type 0
Owns loopers first count =
    (n : ℕ) (l : LooperData) → slice_get loopers n ≡ Some l → first ≤ l.own → l.own < first + count → (l.own ≡ first) × (first ≤ n) × (n < first + count)

module _ (old new : List LooperData) (comes : Comes old new) where
  early : AreEarly old → AreEarly new
  early h n l is = elim (comes n l is) [ inl was ↦ omega (arith, h n was.0 was.1, was.2) | inr now ↦ omega (arith, now.0, now.1) ]

  -- a launch before
  still : (first count : ℕ) → first + count ≤ length old → Owns old first count → Owns new first count
  still first count low h n l is from to =
      elim (comes n l is) [
        | inl was ↦ let k = h n was.0 was.1 (omega (arith, was.2)) (omega (arith, was.2)) in (omega (arith, k.0, was.2), k.1, k.2)
        | inr now ↦ absurd (omega (arith, now.0))
      ]

  -- the launch of the step itself
  own_new : AreEarly old → (first count : ℕ) → first ≡ length old → length new ≡ length old + count → Owns new first count
  own_new h first count at many n l is from to =
      let high = below_length new n l is in
      elim (comes n l is) [
        | inl was ↦ let low = below_length old n was.0 was.1 in let k = h n was.0 was.1 in absurd (omega (arith, was.2))
        | inr now ↦ (omega (arith, now.0), omega (arith, now.1), omega arith)
      ]

abbrev Stays : List AppHead → List LooperData → LaunchOutcome → Type 0
Stays heads loopers (launch.Started place team first) = (first + loopers_at heads place ≤ length loopers) × Owns loopers first (loopers_at heads place)
Stays heads loopers (launch.AlreadyRunning team) = Unit {0}
Stays heads loopers launch.NotFound = Unit {0}
Stays heads loopers launch.Limit = Unit {0}

abbrev StaysIn : List AppHead → List LooperData → RosterEvent → Type 0
StaysIn heads loopers (event.Launch word result) = Stays heads loopers result
StaysIn heads loopers (event.Find word result) = Unit {0}
StaysIn heads loopers (event.Gone team) = Unit {0}
StaysIn heads loopers (event.Door looper) = Unit {0}

module _ (heads : List AppHead) where
  still_stays : (old new : List LooperData) → Comes old new → length old ≤ length new → (what : RosterEvent) → StaysIn heads old what → StaysIn heads new what
  still_stays old new comes more (event.Launch word (launch.Started place t first)) h = (omega (arith, h.0), still old new comes first (loopers_at heads place) h.0 h.1)
  still_stays old new comes more (event.Launch word (launch.AlreadyRunning t)) h = tt
  still_stays old new comes more (event.Launch word launch.NotFound) h = tt
  still_stays old new comes more (event.Launch word launch.Limit) h = tt
  still_stays old new comes more (event.Find word o) h = tt
  still_stays old new comes more (event.Gone t) h = tt
  still_stays old new comes more (event.Door looper) h = tt

  new_stays : (s : RosterState) (by : ℕ) (what : RosterEvent) → IsLegal heads s by what → AreEarly s.loopers → StaysIn heads (after heads s by what).loopers what
  new_stays s by (event.Launch word (launch.Started place t first)) legal h =
      let f = started_facts heads s word place t first (sym legal) in
      let o : LaunchOutcome = launch.Started place t first in
      let looper : LooperData = record { own = first; starter = by; given = [] } in
      let many : length (s.loopers ++ loopers_of heads by o) ≡ length s.loopers + loopers_at heads place =
      omega (arith, length-append s.loopers (loopers_of heads by o), length-replicate (loopers_at heads place) looper) in (
        omega (arith, f.first_is),
        own_new s.loopers (s.loopers ++ loopers_of heads by o) (event_comes heads s by (event.Launch word o) legal) h first (loopers_at heads place) f.first_is many,
      )
  new_stays s by (event.Launch word (launch.AlreadyRunning t)) legal h = tt
  new_stays s by (event.Launch word launch.NotFound) legal h = tt
  new_stays s by (event.Launch word launch.Limit) legal h = tt
  new_stays s by (event.Find word o) legal h = tt
  new_stays s by (event.Gone t) legal h = tt
  new_stays s by (event.Door looper) legal h = tt

  keeps_owns : (loopers : List LooperData) (what : RosterEvent) → StaysIn heads loopers what → KeepsOwnsIn heads loopers what
  keeps_owns loopers (event.Launch word (launch.Started place t first)) h = h.1
  keeps_owns loopers (event.Launch word (launch.AlreadyRunning t)) h = tt
  keeps_owns loopers (event.Launch word launch.NotFound) h = tt
  keeps_owns loopers (event.Launch word launch.Limit) h = tt
  keeps_owns loopers (event.Find word o) h = tt
  keeps_owns loopers (event.Gone t) h = tt
  keeps_owns loopers (event.Door looper) h = tt

  abbrev OfEntry : List LooperData → RosterEntry → Type 0
  OfEntry loopers entry = StaysIn heads loopers entry.event

  abbrev Held : List RosterEntry → RosterState → Type 0
  Held entries s = AreEarly s.loopers × All (OfEntry s.loopers) entries

  held_on : (before : List RosterEntry) (s : RosterState) (e : RosterEntry) → Held before s → IsLegal heads s e.by.0 e.event → Held (before ++ e ∷ []) (after heads s e.by.0 e.event)
  held_on before s e held legal =
      let new : List LooperData = (after heads s e.by.0 e.event).loopers in
      let comes : Comes s.loopers new = event_comes heads s e.by.0 e.event legal in (
        early s.loopers new comes held.0,
        All-push (OfEntry new) before e
            (All-weaker (OfEntry s.loopers) (OfEntry new) (λ entry h. still_stays s.loopers new comes (event_grows heads s e.by.0 e.event) entry.event h) before held.1)
            (new_stays s e.by.0 e.event legal held.0),
      )

pub owns_stay_in_teams : OwnsStayInTeams
owns_stay_in_teams heads entries h =
    let held = carried heads (Held heads) (held_on heads) [] entries h ((λ n l is. absurd cc), All-nil (OfEntry heads [])) in
    All-weaker (OfEntry heads _) (λ (entry : RosterEntry). KeepsOwnsIn heads _ entry.event) (λ entry k. keeps_owns heads _ entry.event k) entries held.1
