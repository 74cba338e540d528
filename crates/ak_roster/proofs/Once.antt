-- No thread gets a door twice; and what a name is compared with.
use Rattle.std.proofs.Common.{◌≡◌, ◌≢◌, ◌<◌, ℕ, zero, suc, ◌⊎◌, inl, inr, Bool, true, false, List, [], ◌∷◌, length, get_or, refl, sym, ap, ◌∙◌, subst, arith, All, AllPairs, Contains, eq-eqb}
use Rattle.std.specs.Prelude.{slice_get, if◌then◌else◌, ◌||◌}
use Rattle.std.specs.List.{list_any}
use Rattle.std.proofs.lemmas.Bool.{false≢true}
use Rattle.std.proofs.lemmas.Bool.Decides.{nat_tests}
use Rattle.std.proofs.lemmas.List.Elements.{All-append, All-cons, All-head, All-nil, All-replicate, All-tail, Contains-get_or}
use Rattle.std.proofs.lemmas.List.Quantifiers.{all_pairs_push}
use Rattle.ak_roster.specs.declared.head.AppHead.{AppHead}
use Rattle.ak_roster.specs.declared.entry.RosterEvent.{RosterEvent}
use Rattle.ak_roster.specs.declared.entry.RosterEvent.TheVariants as event
use Rattle.ak_roster.specs.declared.entry.LaunchOutcome.{LaunchOutcome}
use Rattle.ak_roster.specs.declared.entry.LaunchOutcome.TheVariants as launch
use Rattle.ak_base.specs.AppName.{is_slash, last_part}
use Rattle.ak_roster.specs.Machine.{HasNoDoor, LooperData, RosterState, IsLegal, after, given_to, loopers_at, loopers_of, with_given}
use Rattle.ak_roster.specs.Laws.{DoorsAreGivenOnce, IsLastPart, LastPartIsSo}
use Rattle.ak_roster.proofs.Carried.{carried}

abbrev pub HasOnce : LooperData → Type 0
HasOnce looper = AllPairs (λ a b. a ≢ b) looper.given

none_once : AllPairs (λ (a b : ℕ). a ≢ b) []
none_once i j d low high = absurd (omega arith)

once_of : (heads : List AppHead) (by : ℕ) (o : LaunchOutcome) → All HasOnce (loopers_of heads by o)
once_of heads by (launch.Started place team first) =
    All-replicate HasOnce (loopers_at heads place) (let l : LooperData = record { own = first; starter = by; given = [] } in l) none_once
once_of heads by (launch.AlreadyRunning team) = All-nil HasOnce
once_of heads by launch.NotFound = All-nil HasOnce
once_of heads by launch.Limit = All-nil HasOnce

once_given : (thread : ℕ) (looper : LooperData) → HasOnce looper → ¬ (Contains looper.given thread) → HasOnce (given_to thread looper)
once_given thread looper once new =
    all_pairs_push (λ a b. a ≢ b) looper.given thread once
    (λ k d low same. new (subst (λ (t : ℕ). Contains looper.given t) same (Contains-get_or looper.given k d low)))

once_with : (thread number : ℕ) (loopers : List LooperData) → All HasOnce loopers → HasNoDoor thread (slice_get loopers number) → All HasOnce (with_given thread number loopers)
once_with thread number [] once new = All-nil HasOnce
once_with thread zero (l ∷ ls) once new = All-cons HasOnce (given_to thread l) ls (once_given thread l (All-head HasOnce l ls once) new) (All-tail HasOnce l ls once)
once_with thread (suc number) (l ∷ ls) once new =
    All-cons HasOnce l (with_given thread number ls) (All-head HasOnce l ls once) (once_with thread number ls (All-tail HasOnce l ls once) new)

event_once : (heads : List AppHead) (s : RosterState) (by : ℕ) (what : RosterEvent) → All HasOnce s.loopers → IsLegal heads s by what → All HasOnce (after heads s by what).loopers
event_once heads s by (event.Launch word o) once legal = All-append HasOnce s.loopers (loopers_of heads by o) once (once_of heads by o)
event_once heads s by (event.Find word o) once legal = once
event_once heads s by (event.Gone team) once legal = once
event_once heads s by (event.Door looper) once legal = once_with by looper s.loopers once legal

pub doors_are_given_once : DoorsAreGivenOnce
doors_are_given_once heads entries h =
    carried heads (λ es s. All HasOnce s.loopers) (λ before s e p legal. event_once heads s e.by.0 e.event p legal) [] entries h (All-nil HasOnce)

-- ---- the last part
or_left : (a b : Bool) → a ≡ true → (a || b) ≡ true
or_left true b h = refl
or_left false b h = absurd (false≢true h)

or_right : (a b : Bool) → b ≡ true → (a || b) ≡ true
or_right true b h = refl
or_right false b h = h

or_either : (a b : Bool) → (a || b) ≡ true → (a ≡ true) ⊎ (b ≡ true)
or_either true b h = inl refl
or_either false b h = inr h

neither : (a b : Bool) → a ≡ false → b ≡ false → (a || b) ≡ false
neither a b e f = ap (λ (x : Bool). x || b) e ∙ f

slash_is : (b : ℕ) → is_slash b ≡ true → b ≡ 47
slash_is b h = grind (arith, nat_tests)

-- there is a slash where the test finds one, and nowhere else
slash_there : (xs : List ℕ) (k : ℕ) → k < length xs → get_or xs k 47 ≡ 47 → list_any is_slash xs ≡ true
slash_there [] k low at = absurd (omega arith)
slash_there (x ∷ xs) zero low at = or_left (is_slash x) (list_any is_slash xs) (eq-eqb x 47 at)
slash_there (x ∷ xs) (suc k) low at = or_right (is_slash x) (list_any is_slash xs) (slash_there xs k (omega arith) at)

later : (x : ℕ) (xs : List ℕ) → Contains xs 47 → Contains (x ∷ xs) 47
later x xs there = (suc there.0, omega (arith, there.1), there.2)

there_slash : (xs : List ℕ) → list_any is_slash xs ≡ true → Contains xs 47
there_slash [] h = absurd (false≢true h)
there_slash (x ∷ xs) h = elim (or_either (is_slash x) (list_any is_slash xs) h) [ inl first ↦ (0, omega arith, slash_is x first) | inr others ↦ later x xs (there_slash xs others) ]

no_slash : (xs : List ℕ) → list_any is_slash xs ≡ false → ¬ (Contains xs 47)
no_slash xs none = λ there. false≢true (sym none ∙ slash_there xs there.0 there.1 there.2)

last_of : (b : ℕ) (rest : List ℕ) (others first : Bool) → others ≡ list_any is_slash rest → first ≡ is_slash b → IsLastPart rest (last_part rest)
    → IsLastPart (b ∷ rest) (if others then last_part rest else if first then rest else b ∷ rest)
last_of b rest true first has is h = record {
  no_slash = h.no_slash;
  at_end = elim h.at_end [
    | inl same ↦ absurd (h.no_slash (subst (λ (xs : List ℕ). Contains xs 47) same (there_slash rest (sym has))))
    | inr parts ↦ inr (b ∷ parts.0, ap (λ (xs : List ℕ). b ∷ xs) parts.1)
  ];
}
last_of b rest false true has is h = record {
  no_slash = no_slash rest (sym has);
  at_end = inr ([], ap (λ (x : ℕ). x ∷ rest) (slash_is b (sym is)));
}
last_of b rest false false has is h = record {
  no_slash = no_slash (b ∷ rest) (neither (is_slash b) (list_any is_slash rest) (sym is) (sym has));
  at_end = inl refl;
}

pub last_part_is_so : LastPartIsSo
last_part_is_so [] = record { no_slash = λ there. omega (arith, there.1); at_end = inl refl }
last_part_is_so (b ∷ rest) = last_of b rest (list_any is_slash rest) (is_slash b) refl refl (last_part_is_so rest)
