-- An application's own looper has a way to each looper of its team.
use Rattle.std.proofs.Common.{◌≡◌, ◌≢◌, ℕ, ◌+◌, ◌-◌, ◌<◌, ◌≤◌, ◌==◌, Bool, true, false, cond, List, [], ◌++◌, length, map, get_or, position, slice_get, option_map, None, Some, refl, sym, ap, ◌∙◌, subst, eq-eqb, eqb-true, ltb-false, nat_lt, length-append, true≢false, arith}
use Rattle.std.specs.List.{position_or_len, range_with_len}
use Rattle.std.proofs.lemmas.List.{get_or_append_left, length-map}
use Rattle.std.proofs.lemmas.List.FromFn.{get_or-range_with_len, length-range_with_len}
use Rattle.std.proofs.lemmas.List.Quantifiers.{position-Some}
use Rattle.std.proofs.lemmas.List.Sums.{fails_before_first}
use Rattle.std.proofs.lemmas.Option.{slice_get-get_or, slice_get-map}
use Rattle.ak_base.proofs.Surface.{position-map}
use Rattle.ak_looper.specs.declared.door.Door.{Door}
use Rattle.ak_looper.specs.declared.reach.Reach.{Reach}
use Rattle.ak_looper.specs.Closing.{IsOfItsTeam}
use Rattle.ak_looper.specs.Stands.{IsStanding, doors_kept, numbers_of}
use Rattle.ak_diary.specs.Looper.{LooperFacts, doors_got}

-- ---- a place in a list of numbers
no_place : (b : Bool) (n : ℕ) → cond b (Some n) None ≡ None → b ≡ false
no_place true n e = absurd cc
no_place false n e = refl

-- what is looked for and not found stands nowhere
not_there : (p : ℕ → Bool) (xs : List ℕ) (k d : ℕ) → position p xs ≡ None → k < length xs → p (get_or xs k d) ≡ false
not_there p xs k d none within =
    let past = ltb-false (position_or_len p xs) (length xs) (no_place (nat_lt (position_or_len p xs) (length xs)) (position_or_len p xs) none) in
    let before : k < position_or_len p xs = omega arith in
    fails_before_first p xs k d before

-- what is found stands there
found_at : (looper : ℕ) (xs : List ℕ) (place : ℕ) → position (λ (n : ℕ). n == looper) xs ≡ Some place → (place < length xs) × (slice_get xs place ≡ Some looper)
found_at looper xs place found =
    let at = position-Some (λ (n : ℕ). n == looper) xs place 0 found in
    (at.0, slice_get-get_or xs place 0 at.0 ∙ ap (λ (n : ℕ). Some n) (eqb-true (get_or xs place 0) looper at.1))

-- ---- the numbers of the doors
abbrev number_of : ℕ × Door → ℕ
number_of door = door.0

by_numbers : (looper : ℕ) (doors : List (ℕ × Door)) → position (λ (n : ℕ). n == looper) (map number_of doors) ≡ position (λ (door : ℕ × Door). door.0 == looper) doors
by_numbers looper doors = position-map number_of (λ (n : ℕ). n == looper) doors

-- the door that is found is that looper's
pub way_through : (looper place count : ℕ) (doors : List (ℕ × Door)) → count ≡ length doors → position (λ (door : ℕ × Door). door.0 == looper) doors ≡ Some place
    → (place < count) × (option_map (λ (door : ℕ × Door). door.0) (slice_get doors place) ≡ Some looper)
way_through looper place count doors len found =
    let at = found_at looper (map number_of doors) place (by_numbers looper doors ∙ found) in
    let within : place < length (map number_of doors) = at.0 in
    (omega (arith, length-map doors number_of), sym (slice_get-map number_of doors place) ∙ at.1)

-- ---- the loopers of the team
own_kept : (l : LooperFacts) → l.number ≡ l.first → doors_kept l ≡ range_with_len (l.first + 1) (l.loopers - 1)
own_kept l own = ap (λ (b : Bool). cond b (range_with_len (l.first + 1) (l.loopers - 1)) []) (eq-eqb l.number l.first own)

-- each other one of the team stands among the doors that are kept
kept_at : (l : LooperFacts) (others : List ℕ) (looper k : ℕ) → l.number ≡ l.first → k < l.loopers - 1 → l.first + 1 + k ≡ looper
    → (k < length (doors_kept l ++ others)) × (get_or (doors_kept l ++ others) k 0 ≡ looper)
kept_at l others looper k own within sum =
    let range : List ℕ = range_with_len (l.first + 1) (l.loopers - 1) in
    let len : length range ≡ l.loopers - 1 = length-range_with_len (l.first + 1) (l.loopers - 1) in
    let here : k < length range = omega arith in
    let there = get_or_append_left range others 0 k here ∙ get_or-range_with_len (l.first + 1) (l.loopers - 1) k 0 within ∙ sum in
    let more : k < length (range ++ others) = omega (arith, length-append range others) in
    subst (λ (xs : List ℕ). (k < length (xs ++ others)) × (get_or (xs ++ others) k 0 ≡ looper)) (sym (own_kept l own)) (more, there)

record IsKept (looper : ℕ) (numbers : List ℕ) : Type 0 where
  place : ℕ
  within : place < length numbers
  is : get_or numbers place 0 ≡ looper

kept_there : (l : LooperFacts) (others : List ℕ) (looper : ℕ) → l.number ≡ l.first → l.first ≤ looper → looper < l.first + l.loopers → looper ≢ l.number → IsKept looper (doors_kept l ++ others)
kept_there l others looper own from below other =
    let apart : looper ≢ l.first = λ same. other (same ∙ sym own) in
    let within : looper - (l.first + 1) < l.loopers - 1 = omega arith in
    let sum : l.first + 1 + (looper - (l.first + 1)) ≡ looper = omega arith in
    let at = kept_at l others looper (looper - (l.first + 1)) own within sum in
    record { place = looper - (l.first + 1); within = at.0; is = at.1 }

pub has_way : (looper : ℕ) (r : Reach) → IsStanding r → IsOfItsTeam looper r → (looper ≡ r.number → ⊥) → position (λ (door : ℕ × Door). door.0 == looper) r.doors.items ≡ None → ⊥
has_way looper r is of other none =
    let l = is.facts in
    let s = is.stands in
    let number : r.number ≡ l.number = s.number in
    let first : r.first ≡ l.first = s.first in
    let loopers : r.loopers ≡ l.loopers = s.loopers in
    let own : l.number ≡ l.first = sym number ∙ of.own ∙ first in
    let from : l.first ≤ looper = omega (arith, of.from) in
    let below : looper < l.first + l.loopers = omega (arith, of.below) in
    let apart : looper ≢ l.number = λ same. other (same ∙ sym number) in
    let kept = kept_there l (doors_got is.steps) looper own from below apart in
    let there = subst (IsKept looper) (sym s.ways) kept in
    let failed = not_there (λ (n : ℕ). n == looper) (numbers_of r) there.place 0 (by_numbers looper r.doors.items ∙ none) there.within in
    let passed = eq-eqb (get_or (numbers_of r) there.place 0) looper there.is in
    true≢false (sym passed ∙ failed)
