-- The threads that got a looper's door are those with an entry of it.
use Rattle.std.proofs.Common.{◌≡◌, ◌≢◌, ◌<◌, ◌≤◌, ◌+◌, ◌⊎◌, ℕ, zero, suc, Bool, true, false, List, [], ◌∷◌, ◌++◌, length, get_or, Option, Some, None, inl, inr, ⊎_elim, refl, sym, ap, ◌∙◌, subst, arith, All, Any, Contains, eq-eqb}
use Rattle.std.specs.Prelude.{IfSome, if◌then◌else◌, replicate, slice_get, ◌==◌}
use Rattle.std.proofs.lemmas.Bool.{cases_eq}
use Rattle.std.proofs.lemmas.List.{length-append}
use Rattle.std.proofs.lemmas.List.Elements.{All-head, All-tail}
use Rattle.std.proofs.lemmas.Option.{slice_get_within}
use Rattle.ak_turn.specs.Entries.{made_by}
use Rattle.ak_roster.specs.declared.head.AppHead.{AppHead}
use Rattle.ak_roster.specs.declared.entry.RosterEntry.{RosterEntry}
use Rattle.ak_roster.specs.declared.entry.RosterEvent.{RosterEvent}
use Rattle.ak_roster.specs.declared.entry.RosterEvent.TheVariants as event
use Rattle.ak_roster.specs.declared.entry.LaunchOutcome.{LaunchOutcome}
use Rattle.ak_roster.specs.declared.entry.LaunchOutcome.TheVariants as launch
use Rattle.ak_roster.specs.Machine.{HasNoDoor, IsHistory, IsLegal, LooperData, RosterState, after, given_to, holders, loopers_at, loopers_of, state_of, with_given}
use Rattle.ak_roster.specs.Roster.{IsStranger}
use Rattle.ak_roster.specs.Laws.{HoldersAreTold, IsHolder, IsNoneOfFour, StrangersAreTold, TookDoor}
use Rattle.ak_roster.proofs.Carried.{carried}
use Rattle.ak_roster.proofs.Histories.{length-with_given}

-- ---- of lists
module _ {A : Type 0} (P : A → Type 0) where
  any_first : (x : A) (xs : List A) → P x → Any P (x ∷ xs)
  any_first x xs p = (0, x, omega arith, refl, p)

  any_later : (x : A) (xs : List A) → Any P xs → Any P (x ∷ xs)
  any_later x xs h = (suc h.0, h.1, omega (arith, h.2), h.3, h.4)

  any_by : (x : A) (xs : List A) (k : ℕ) (y : A) → k < length (x ∷ xs) → get_or (x ∷ xs) k y ≡ y → P y → P x ⊎ Any P xs
  any_by x xs zero y lt at p = inl (subst P (sym at) p)
  any_by x xs (suc k) y lt at p = inr (k, y, omega (arith, lt), at, p)

  any_cases : (x : A) (xs : List A) → Any P (x ∷ xs) → P x ⊎ Any P xs
  any_cases x xs h = any_by x xs h.0 h.1 h.2 h.3 h.4

  any_front : (xs : List A) (y : A) → Any P xs → Any P (xs ++ y ∷ [])
  any_front [] y h = absurd (omega (arith, h.2))
  any_front (x ∷ xs) y h = ⊎_elim (λ (p : P x). any_first x (xs ++ y ∷ []) p) (λ (r : Any P xs). any_later x (xs ++ y ∷ []) (any_front xs y r)) (any_cases x xs h)

  any_last : (xs : List A) (y : A) → P y → Any P (xs ++ y ∷ [])
  any_last [] y p = any_first y [] p
  any_last (x ∷ xs) y p = any_later x (xs ++ y ∷ []) (any_last xs y p)

  any_parts : (xs : List A) (y : A) → Any P (xs ++ y ∷ []) → Any P xs ⊎ P y
  any_parts [] y h = ⊎_elim (λ (p : P y). inr p) (λ (r : Any P []). inl r) (any_cases y [] h)
  any_parts (x ∷ xs) y h =
      ⊎_elim (λ (p : P x). inl (any_first x xs p)) (λ (r : Any P (xs ++ y ∷ [])). more (any_parts xs y r)) (any_cases x (xs ++ y ∷ []) h) where
        more : Any P xs ⊎ P y → Any P (x ∷ xs) ⊎ P y
        more (inl r) = inl (any_later x xs r)
        more (inr p) = inr p

-- an element, as one that is equal
there_any : (xs : List ℕ) (t : ℕ) → Contains xs t → Any (λ (x : ℕ). x ≡ t) xs
there_any xs t h = (h.0, t, h.1, h.2, refl)

any_there : (xs : List ℕ) (t : ℕ) → Any (λ (x : ℕ). x ≡ t) xs → Contains xs t
any_there xs t h = (h.0, h.2, subst (λ (x : ℕ). get_or xs h.0 x ≡ x) h.4 h.3)

none_there : (t : ℕ) → Contains [] t → ⊥
none_there t h = omega (arith, h.1)

get_append : {A : Type 0} (xs ys : List A) (n : ℕ) (x : A) → slice_get (xs ++ ys) n ≡ Some x → (slice_get xs n ≡ Some x) ⊎ ((length xs ≤ n) × (m : ℕ) × (slice_get ys m ≡ Some x))
get_append [] ys n x at = inr (omega arith, n, at)
get_append (z ∷ xs) ys zero x at = inl at
get_append (z ∷ xs) ys (suc n) x at = further (get_append xs ys n x at) where
  further : (slice_get xs n ≡ Some x) ⊎ ((length xs ≤ n) × (m : ℕ) × (slice_get ys m ≡ Some x)) → (slice_get xs n ≡ Some x) ⊎ ((length (z ∷ xs) ≤ suc n) × (m : ℕ) × (slice_get ys m ≡ Some x))
  further (inl old) = inl old
  further (inr new) = inr (omega (arith, new.0), new.1, new.2)

-- what stands in a list of equal elements is one of them
get_replicate : {A : Type 0} (x : A) (n m : ℕ) (y : A) → slice_get (replicate n x) m ≡ Some y → x ≡ y
get_replicate x zero m y at = absurd cc
get_replicate x (suc n) zero y at = cc
get_replicate x (suc n) (suc m) y at = get_replicate x n m y at

get_given_same : (thread number : ℕ) (loopers : List LooperData) (old l : LooperData) → slice_get loopers number ≡ Some old → slice_get (with_given thread number loopers) number ≡ Some l → given_to thread old ≡ l
get_given_same thread number [] old l at new = absurd cc
get_given_same thread zero (x ∷ xs) old l at new = let same : x ≡ old = cc in ap (given_to thread) (sym same) ∙ cc
get_given_same thread (suc number) (x ∷ xs) old l at new = get_given_same thread number xs old l at new

get_given_other : (thread number n : ℕ) (loopers : List LooperData) → n ≢ number → slice_get (with_given thread number loopers) n ≡ slice_get loopers n
get_given_other thread number n [] other = refl
get_given_other thread zero zero (x ∷ xs) other = absurd (other refl)
get_given_other thread zero (suc n) (x ∷ xs) other = refl
get_given_other thread (suc number) zero (x ∷ xs) other = refl
get_given_other thread (suc number) (suc n) (x ∷ xs) other = get_given_other thread number n xs (λ e. other (ap suc e))

-- ---- the loopers have given their doors to just those that took them, as H tells
record Told (H : ℕ → ℕ → Type 0) (loopers : List LooperData) : Type 0 where
  given : (n t : ℕ) (l : LooperData) → slice_get loopers n ≡ Some l → Contains l.given t → H n t
  took : (n t : ℕ) (l : LooperData) → slice_get loopers n ≡ Some l → H n t → Contains l.given t
  none : (n t : ℕ) → length loopers ≤ n → H n t → ⊥

abbrev Takes : ℕ → RosterEvent → ℕ → ℕ → Type 0
Takes by what n t = (by ≡ t) × (what ≡ event.Door n)

module _ (H : ℕ → ℕ → Type 0) (by : ℕ) where
  abbrev Or : RosterEvent → ℕ → ℕ → Type 0
  Or what n t = H n t ⊎ Takes by what n t

  -- an event that takes no door, and adds loopers that gave none
  more_told : (what : RosterEvent) (loopers more : List LooperData) → ((n : ℕ) → what ≢ event.Door n) → ((m : ℕ) (l : LooperData) → slice_get more m ≡ Some l → l.given ≡ []) → Told H loopers → Told (Or what) (loopers ++ more)
  more_told what loopers more no_door fresh h =
      record {
        given = λ n t l at there. by_place n t l there (get_append loopers more n l at);
        took = λ n t l at took. by_taking n t l (get_append loopers more n l at) took;
        none = λ n t le took. ⊎_elim (λ (old : H n t). h.none n t (omega (arith, le, length-append loopers more)) old) (λ (new : Takes by what n t). no_door n new.1) took;
      } where
        by_place : (n t : ℕ) (l : LooperData) → Contains l.given t → (slice_get loopers n ≡ Some l) ⊎ ((length loopers ≤ n) × (m : ℕ) × (slice_get more m ≡ Some l)) → Or what n t
        by_place n t l there (inl old) = inl (h.given n t l old there)
        by_place n t l there (inr new) = absurd (none_there t (subst (λ (ts : List ℕ). Contains ts t) (fresh new.1 l new.2) there))

        by_taking : (n t : ℕ) (l : LooperData) → (slice_get loopers n ≡ Some l) ⊎ ((length loopers ≤ n) × (m : ℕ) × (slice_get more m ≡ Some l)) → Or what n t → Contains l.given t
        by_taking n t l (inl old) (inl took) = h.took n t l old took
        by_taking n t l (inr new) (inl took) = absurd (h.none n t new.0 took)
        by_taking n t l at (inr takes) = absurd (no_door n takes.1)

  same_told : (what : RosterEvent) (loopers : List LooperData) → ((n : ℕ) → what ≢ event.Door n) → Told H loopers → Told (Or what) loopers
  same_told what loopers no_door h =
      record {
        given = λ n t l at there. inl (h.given n t l at there);
        took = λ n t l at took. ⊎_elim (λ (old : H n t). h.took n t l at old) (λ (new : Takes by what n t). absurd (no_door n new.1)) took;
        none = λ n t le took. ⊎_elim (λ (old : H n t). h.none n t le old) (λ (new : Takes by what n t). no_door n new.1) took;
      }

  -- the loopers that a launch starts have given none
  fresh_of : (heads : List AppHead) (starter : ℕ) (o : LaunchOutcome) (m : ℕ) (l : LooperData) → slice_get (loopers_of heads starter o) m ≡ Some l → l.given ≡ []
  fresh_of heads starter (launch.Started place team first) m l at =
      ap (λ (x : LooperData). x.given) (sym (get_replicate (record { own = first; starter = starter; given = [] }) (loopers_at heads place) m l at))
  fresh_of heads starter (launch.AlreadyRunning team) m l at = absurd cc
  fresh_of heads starter launch.NotFound m l at = absurd cc
  fresh_of heads starter launch.Limit m l at = absurd cc

  same_door : (a b : ℕ) → event.Door a ≡ event.Door b → a ≡ b
  same_door a b e = cc

  -- a looper that was started gives its door to one thread more
  door_told : (number : ℕ) (loopers : List LooperData) (old : LooperData) → slice_get loopers number ≡ Some old → Told H loopers → Told (Or (event.Door number)) (with_given by number loopers)
  door_told number loopers old there h =
      record {
        given = λ n t l at gave. ⊎_elim (λ (e : n ≡ number). given_here n t l e at gave) (λ (ne : n ≢ number). inl (h.given n t l (sym (get_given_other by number n loopers ne) ∙ at) gave)) (cases_eq n number);
        took = λ n t l at took. ⊎_elim (λ (e : n ≡ number). took_here n t l e at took) (λ (ne : n ≢ number). took_other n t l ne at took) (cases_eq n number);
        none = λ n t le took. none_past n t (omega (arith, le, length-with_given by number loopers)) took;
      } where
        here : (n : ℕ) (l : LooperData) → n ≡ number → slice_get (with_given by number loopers) n ≡ Some l → given_to by old ≡ l
        here n l e at = get_given_same by number loopers old l there (subst (λ (k : ℕ). slice_get (with_given by number loopers) k ≡ Some l) e at)

        given_here : (n t : ℕ) (l : LooperData) → n ≡ number → slice_get (with_given by number loopers) n ≡ Some l → Contains l.given t → Or (event.Door number) n t
        given_here n t l e at gave =
            let grown : Contains (old.given ++ by ∷ []) t = subst (λ (x : LooperData). Contains x.given t) (sym (here n l e at)) gave in
            ⊎_elim
            (λ (r : Any (λ (x : ℕ). x ≡ t) old.given). inl (subst (λ (k : ℕ). H k t) (sym e) (h.given number t old there (any_there old.given t r))))
            (λ (same : by ≡ t). inr (same, ap event.Door (sym e)))
            (any_parts (λ (x : ℕ). x ≡ t) old.given by (there_any (old.given ++ by ∷ []) t grown))

        took_here : (n t : ℕ) (l : LooperData) → n ≡ number → slice_get (with_given by number loopers) n ≡ Some l → Or (event.Door number) n t → Contains l.given t
        took_here n t l e at took =
            subst (λ (x : LooperData). Contains x.given t) (here n l e at)
            (⊎_elim
            (λ (before : H n t). any_there (old.given ++ by ∷ []) t (any_front (λ (x : ℕ). x ≡ t) old.given by (there_any old.given t (h.took number t old there (subst (λ (k : ℕ). H k t) e before)))))
            (λ (new : Takes by (event.Door number) n t). any_there (old.given ++ by ∷ []) t (any_last (λ (x : ℕ). x ≡ t) old.given by new.0))
            took)

        took_other : (n t : ℕ) (l : LooperData) → n ≢ number → slice_get (with_given by number loopers) n ≡ Some l → Or (event.Door number) n t → Contains l.given t
        took_other n t l ne at took =
            ⊎_elim
            (λ (before : H n t). h.took n t l (sym (get_given_other by number n loopers ne) ∙ at) before)
            (λ (new : Takes by (event.Door number) n t). absurd (ne (sym (same_door number n new.1))))
            took

        none_past : (n t : ℕ) → length loopers ≤ n → Or (event.Door number) n t → ⊥
        none_past n t le took =
            ⊎_elim
            (λ (before : H n t). h.none n t le before)
            (λ (new : Takes by (event.Door number) n t). let within = slice_get_within loopers number old there in let same = same_door number n new.1 in omega (arith, within, same, le))
            took

  legal_told : (number : ℕ) (loopers : List LooperData) (o : Option LooperData) → slice_get loopers number ≡ o → HasNoDoor by o → Told H loopers → Told (Or (event.Door number)) (with_given by number loopers)
  legal_told number loopers None at legal h = absurd legal
  legal_told number loopers (Some old) at legal h = door_told number loopers old at h

  event_told : (heads : List AppHead) (s : RosterState) (what : RosterEvent) → IsLegal heads s by what → Told H s.loopers → Told (Or what) (after heads s by what).loopers
  event_told heads s (event.Launch word o) legal h = more_told (event.Launch word o) s.loopers (loopers_of heads by o) (λ n. λ e. cc) (fresh_of heads by o) h
  event_told heads s (event.Find word o) legal h = same_told (event.Find word o) s.loopers (λ n. λ e. cc) h
  event_told heads s (event.Gone team) legal h = same_told (event.Gone team) s.loopers (λ n. λ e. cc) h
  event_told heads s (event.Door number) legal h = legal_told number s.loopers (slice_get s.loopers number) refl legal h

-- ---- by the entries
abbrev Took : ℕ → ℕ → RosterEntry → Type 0
Took n t entry = (entry.by.0 ≡ t) × (entry.event ≡ event.Door n)

told_on : (es : List RosterEntry) (e : RosterEntry) (loopers : List LooperData) → Told (λ n t. TookDoor es n t ⊎ Takes e.by.0 e.event n t) loopers → Told (TookDoor (es ++ e ∷ [])) loopers
told_on es e loopers h =
    record {
      given = λ n t l at there. ⊎_elim (λ (old : TookDoor es n t). any_front (Took n t) es e old) (λ (new : Took n t e). any_last (Took n t) es e new) (h.given n t l at there);
      took = λ n t l at took. h.took n t l at (any_parts (Took n t) es e took);
      none = λ n t le took. h.none n t le (any_parts (Took n t) es e took);
    }

nothing_told : Told (TookDoor []) []
nothing_told = record { given = λ n t l at there. absurd cc; took = λ n t l at took. absurd cc; none = λ n t le took. omega (arith, took.2) }

doors_told : (heads : List AppHead) (entries : List RosterEntry) → IsHistory heads entries → Told (TookDoor entries) (state_of heads entries).loopers
doors_told heads entries h =
    carried heads (λ es s. Told (TookDoor es) s.loopers)
    (λ before s e p legal. told_on before e (after heads s e.by.0 e.event).loopers (event_told (TookDoor before) e.by.0 heads s e.event legal p)) [] entries h nothing_told

-- ---- the holders
module _ (entries : List RosterEntry) (number : ℕ) (looper : LooperData) (t : ℕ) where
  among : Contains (holders number looper) t → (Contains looper.given t → TookDoor entries number t) → IsHolder entries number looper t
  among h given = by_main (any_cases (λ (x : ℕ). x ≡ t) 0 ((10000 + number) ∷ (10000 + looper.own) ∷ 20000 ∷ looper.given) (there_any (holders number looper) t h)) where
    by_given : Any (λ (x : ℕ). x ≡ t) looper.given → IsHolder entries number looper t
    by_given r = inr (inr (inr (inr (given (any_there looper.given t r)))))

    by_keeper : (20000 ≡ t) ⊎ Any (λ (x : ℕ). x ≡ t) looper.given → IsHolder entries number looper t
    by_keeper (inl e) = inr (inr (inr (inl (sym e))))
    by_keeper (inr r) = by_given r

    by_own : (10000 + looper.own ≡ t) ⊎ Any (λ (x : ℕ). x ≡ t) (20000 ∷ looper.given) → IsHolder entries number looper t
    by_own (inl e) = inr (inr (inl (sym e)))
    by_own (inr r) = by_keeper (any_cases (λ (x : ℕ). x ≡ t) 20000 looper.given r)

    by_looper : (10000 + number ≡ t) ⊎ Any (λ (x : ℕ). x ≡ t) ((10000 + looper.own) ∷ 20000 ∷ looper.given) → IsHolder entries number looper t
    by_looper (inl e) = inr (inl (sym e))
    by_looper (inr r) = by_own (any_cases (λ (x : ℕ). x ≡ t) (10000 + looper.own) (20000 ∷ looper.given) r)

    by_main : (0 ≡ t) ⊎ Any (λ (x : ℕ). x ≡ t) ((10000 + number) ∷ (10000 + looper.own) ∷ 20000 ∷ looper.given) → IsHolder entries number looper t
    by_main (inl e) = inl (sym e)
    by_main (inr r) = by_looper (any_cases (λ (x : ℕ). x ≡ t) (10000 + number) ((10000 + looper.own) ∷ 20000 ∷ looper.given) r)

  among_any : IsHolder entries number looper t → (TookDoor entries number t → Contains looper.given t) → Any (λ (x : ℕ). x ≡ t) (holders number looper)
  among_any (inl e) took = any_first (λ (x : ℕ). x ≡ t) 0 ((10000 + number) ∷ (10000 + looper.own) ∷ 20000 ∷ looper.given) (sym e)
  among_any (inr (inl e)) took = any_later (λ (x : ℕ). x ≡ t) 0 ((10000 + number) ∷ (10000 + looper.own) ∷ 20000 ∷ looper.given) (any_first (λ (x : ℕ). x ≡ t) (10000 + number) ((10000 + looper.own) ∷ 20000 ∷ looper.given) (sym e))
  among_any (inr (inr (inl e))) took = any_later (λ (x : ℕ). x ≡ t) 0 ((10000 + number) ∷ (10000 + looper.own) ∷ 20000 ∷ looper.given) (any_later (λ (x : ℕ). x ≡ t) (10000 + number) ((10000 + looper.own) ∷ 20000 ∷ looper.given) (any_first (λ (x : ℕ). x ≡ t) (10000 + looper.own) (20000 ∷ looper.given) (sym e)))
  among_any (inr (inr (inr (inl e)))) took =
      any_later (λ (x : ℕ). x ≡ t) 0 ((10000 + number) ∷ (10000 + looper.own) ∷ 20000 ∷ looper.given) (any_later (λ (x : ℕ). x ≡ t) (10000 + number) ((10000 + looper.own) ∷ 20000 ∷ looper.given) (any_later (λ (x : ℕ). x ≡ t) (10000 + looper.own) (20000 ∷ looper.given) (any_first (λ (x : ℕ). x ≡ t) 20000 looper.given (sym e))))
  among_any (inr (inr (inr (inr r)))) took =
      any_later (λ (x : ℕ). x ≡ t) 0 ((10000 + number) ∷ (10000 + looper.own) ∷ 20000 ∷ looper.given) (any_later (λ (x : ℕ). x ≡ t) (10000 + number) ((10000 + looper.own) ∷ 20000 ∷ looper.given) (any_later (λ (x : ℕ). x ≡ t) (10000 + looper.own) (20000 ∷ looper.given)
      (any_later (λ (x : ℕ). x ≡ t) 20000 looper.given (there_any looper.given t (took r)))))

pub holders_are_told : HoldersAreTold
holders_are_told heads entries number looper h at thread =
    let told = doors_told heads entries h in (
      λ there. among entries number looper thread there (told.given number thread looper at),
      λ holder. any_there (holders number looper) thread (among_any entries number looper thread holder (told.took number thread looper at)),
    )

-- ---- strangers
-- an entry that is among those of the thread
none_took : (thread number : ℕ) (es : List RosterEntry) → All (λ (e : RosterEntry). e.event ≢ event.Door number) (made_by (λ (e : RosterEntry). e.by.0) thread es) → TookDoor es number thread → ⊥
none_took thread number [] all took = omega (arith, took.2)
none_took thread number (e ∷ es) all took = by_maker (none_took thread number es) (e.by.0 == thread) refl where
  by_maker : (All (λ (x : RosterEntry). x.event ≢ event.Door number) (made_by (λ (x : RosterEntry). x.by.0) thread es) → TookDoor es number thread → ⊥) → (mine : Bool) → (e.by.0 == thread) ≡ mine → ⊥
  by_maker others true is =
      let all_mine : All (λ (x : RosterEntry). x.event ≢ event.Door number) (e ∷ made_by (λ (x : RosterEntry). x.by.0) thread es) =
      subst (λ (b : Bool). All (λ (x : RosterEntry). x.event ≢ event.Door number) (if b then e ∷ made_by (λ (x : RosterEntry). x.by.0) thread es else made_by (λ (x : RosterEntry). x.by.0) thread es)) is all in
      ⊎_elim
      (λ (here : Took number thread e). All-head (λ (x : RosterEntry). x.event ≢ event.Door number) e (made_by (λ (x : RosterEntry). x.by.0) thread es) all_mine here.1)
      (λ (later : TookDoor es number thread). others (All-tail (λ (x : RosterEntry). x.event ≢ event.Door number) e (made_by (λ (x : RosterEntry). x.by.0) thread es) all_mine) later)
      (any_cases (Took number thread) e es took)
  by_maker others false is =
      let rest : All (λ (x : RosterEntry). x.event ≢ event.Door number) (made_by (λ (x : RosterEntry). x.by.0) thread es) =
      subst (λ (b : Bool). All (λ (x : RosterEntry). x.event ≢ event.Door number) (if b then e ∷ made_by (λ (x : RosterEntry). x.by.0) thread es else made_by (λ (x : RosterEntry). x.by.0) thread es)) is all in
      ⊎_elim
      (λ (here : Took number thread e). let mine : (e.by.0 == thread) ≡ true = eq-eqb e.by.0 thread here.0 in absurd (cc (mine, is)))
      (λ (later : TookDoor es number thread). others rest later)
      (any_cases (Took number thread) e es took)

none_of : (entries : List RosterEntry) (thread number : ℕ) (looper : LooperData) → IsNoneOfFour thread number looper → (TookDoor entries number thread → ⊥) → IsHolder entries number looper thread → ⊥
none_of entries thread number looper h none (inl e) = h.not_main e
none_of entries thread number looper h none (inr (inl e)) = h.not_looper e
none_of entries thread number looper h none (inr (inr (inl e))) = h.not_own e
none_of entries thread number looper h none (inr (inr (inr (inl e)))) = h.not_keeper e
none_of entries thread number looper h none (inr (inr (inr (inr took)))) = none took

stranger_by : (heads : List AppHead) (entries : List RosterEntry) (thread number : ℕ) (o : Option LooperData) → slice_get (state_of heads entries).loopers number ≡ o → IsHistory heads entries → IfSome o (IsNoneOfFour thread number)
    → (TookDoor entries number thread → ⊥) → IsStranger thread number o
stranger_by heads entries thread number None at h four none = tt
stranger_by heads entries thread number (Some looper) at h four none =
    λ there. none_of entries thread number looper four none ((holders_are_told heads entries number looper h at thread).0 there)

pub strangers_are_told : StrangersAreTold
strangers_are_told heads entries thread number h four all =
    stranger_by heads entries thread number (slice_get (state_of heads entries).loopers number) refl h four (none_took thread number entries all)
