-- What stands at a place: loopers in the order of their numbers, their ports and desks, and the doors that the roster kept.
use Rattle.std.proofs.Common.{◌≡◌, ◌≢◌, ◌⊎◌, ◌<◌, ◌==◌, ◌||◌, ℕ, zero, suc, ◌+◌, Bool, true, false, cond, List, [], ◌∷◌, length, map, All, AllPairs, Contains, Option, Some, inl, inr, refl, sym, ap, ◌∙◌, subst, eq-eqb, eqb-true, ne_eqb, true≢false, arith}
use Rattle.std.specs.Prelude.{IsSomeAnd, filter, get_or, slice_get}
use Rattle.std.specs.List.{list_any, range_with_len}
use Rattle.std.proofs.lemmas.List.{get_or-map, length-map}
use Rattle.std.proofs.lemmas.List.Elements.{All-cons, All-filter, All-map, All-nil}
use Rattle.std.proofs.lemmas.List.FromFn.{get_or-range_with_len}
use Rattle.std.proofs.lemmas.List.Kept.{AllPairs-filter}
use Rattle.std.proofs.lemmas.Option.{get_or_from_slice_get, slice_get_within}
use Rattle.ak_roster.specs.Machine.{LooperData}
use Rattle.ak_roster.specs.Roster.{AreKept, IsKept}
use Rattle.ak_port.specs.PortCalls.{PortData}
use Rattle.ak_desk.specs.Desk.{DeskData}
use Rattle.ak_headline.specs.Headline.{Each}
use Rattle.ak_looper.specs.declared.door.Door.{Door}
use Rattle.ak_looper.specs.declared.kept_door.KeptDoor.{KeptDoor}
use Rattle.ak_gather.specs.declared.gathering.Joined.{Joined}
use Rattle.ak_gather.proofs.Taking.{some_same}
use Rattle.ak_gather.specs.Gathering.{AreBooksOf, AreHeadsIn, AreKeptIn, IsAt, IsDeskOf, IsHeadFor, IsPortOf, is_short, short_of}

-- ---- numbers in order
from_zero : (n : ℕ) → 0 + n ≡ n
from_zero n = omega arith

pub number_at : (js : List Joined) (place : ℕ) (j : Joined) → map (λ (x : Joined). x.number) js ≡ range_with_len 0 (length js) → slice_get js place ≡ Some j → j.number ≡ place
number_at js place j numbers there =
    let number : Joined → ℕ = λ (x : Joined). x.number in
    let within : place < length js = slice_get_within js place j there in
    ap number (sym (get_or_from_slice_get js place j j there)) ∙ sym (get_or-map number js place j 0 within) ∙ ap (λ (ns : List ℕ). get_or ns place 0) numbers ∙ get_or-range_with_len 0 (length js) place 0 within ∙ from_zero place

later_differs : (n a m : ℕ) → n ≡ a → m < a → n ≢ m
later_differs n a m is before same = omega (arith, is, before, same)

later_below : (m a : ℕ) → m < a → m < a + 1
later_below m a before = omega (arith, before)

at_zero : (a : ℕ) → a ≡ a + 0
at_zero a = omega arith

zero_below : (a : ℕ) → a + 0 < a + 1
zero_below a = omega arith

at_next : (a k : ℕ) → a + suc k ≡ (a + 1) + k
at_next a k = omega arith

first_differs : (n a k : ℕ) → n ≡ a → n ≢ a + suc k
first_differs n a k is same = omega (arith, is, same)

-- ---- those that found no memory, by their numbers
module _ (test : Joined → Bool) where
  abbrev tested : List Joined → List ℕ
  tested js = map (λ (j : Joined). j.number) (filter test js)

  one_first : (m : ℕ) (b : Bool) (j : Joined) (rest : List Joined) → list_any (λ n. n == m) (map (λ (x : Joined). x.number) (cond b (j ∷ rest) rest)) ≡ (cond b (j.number == m) false || list_any (λ n. n == m) (map (λ (x : Joined). x.number) rest))
  one_first m true j rest = refl
  one_first m false j rest = refl

  test_other : (b c : Bool) → (cond b false false || c) ≡ c
  test_other true c = refl
  test_other false c = refl

  test_same : (b : Bool) → (cond b true false || false) ≡ b
  test_same true = refl
  test_same false = refl

  -- one that has another number
  one_other : (m : ℕ) (j : Joined) (js : List Joined) → j.number ≢ m → list_any (λ n. n == m) (tested (j ∷ js)) ≡ list_any (λ n. n == m) (tested js)
  one_other m j js other =
      one_first m (test j) j (filter test js)
      ∙ ap (λ (b : Bool). cond (test j) b false || list_any (λ n. n == m) (tested js)) (ne_eqb j.number m other)
      ∙ test_other (test j) (list_any (λ n. n == m) (tested js))

  -- none of those behind has a number before theirs
  none_behind : (a m : ℕ) (js : List Joined) → m < a → map (λ (j : Joined). j.number) js ≡ range_with_len a (length js) → list_any (λ n. n == m) (tested js) ≡ false
  none_behind a m [] before numbers = refl
  none_behind a m (j ∷ js) before numbers =
      one_other m j js (later_differs j.number a m (cc numbers) before) ∙ none_behind (a + 1) m js (later_below m a before) (cc numbers)

  any_tested : (a k : ℕ) (js : List Joined) (j : Joined) → map (λ (x : Joined). x.number) js ≡ range_with_len a (length js) → slice_get js k ≡ Some j → list_any (λ n. n == a + k) (tested js) ≡ test j
  any_tested a k [] j numbers there = absurd cc
  any_tested a zero (x ∷ js) j numbers there =
      one_first (a + 0) (test x) x (filter test js)
      ∙ ap (λ (b : Bool). cond (test x) b false || list_any (λ n. n == a + 0) (tested js)) (eq-eqb x.number (a + 0) (cc numbers ∙ at_zero a))
      ∙ ap (λ (b : Bool). cond (test x) true false || b) (none_behind (a + 1) (a + 0) js (zero_below a) (cc numbers))
      ∙ test_same (test x) ∙ ap test (some_same x j there)
  any_tested a (suc k) (x ∷ js) j numbers there =
      one_other (a + suc k) x js (first_differs x.number a k (cc numbers))
      ∙ ap (λ (m : ℕ). list_any (λ n. n == m) (tested js)) (at_next a k) ∙ any_tested (a + 1) k js j (cc numbers) there

pub short_at : (js : List Joined) (k : ℕ) (j : Joined) → map (λ (x : Joined). x.number) js ≡ range_with_len 0 (length js) → slice_get js k ≡ Some j → list_any (λ n. n == k) (short_of js) ≡ is_short j.kind
short_at js k j numbers there =
    let from_none : 0 + k ≡ k = omega arith in
    ap (λ (m : ℕ). list_any (λ n. n == m) (short_of js)) (sym from_none) ∙ any_tested (λ (x : Joined). is_short x.kind) 0 k js j numbers there

-- a list that rises
rise_mapped : {X : Type 0} (f : X → ℕ) (xs : List X) → AllPairs (λ (x y : X). f x < f y) xs → AllPairs (λ (a b : ℕ). a < b) (map f xs)
rise_mapped f [] rise i j d before within = absurd (omega (arith, within))
rise_mapped f (x ∷ xs) rise i j d before within =
    let low : j < length (x ∷ xs) = omega (arith, within, length-map (x ∷ xs) f) in
    let first : i < length (x ∷ xs) = omega (arith, before, low) in
    subst (λ (n : ℕ). n < get_or (map f (x ∷ xs)) j d) (sym (get_or-map f (x ∷ xs) i x d first)) (subst (λ (n : ℕ). f (get_or (x ∷ xs) i x) < n) (sym (get_or-map f (x ∷ xs) j x d low)) (rise i j x before low))

-- they are of those loopers, in order and each once
module _ (js : List Joined) (numbers : map (λ (x : Joined). x.number) js ≡ range_with_len 0 (length js)) where
  number_there : (i : ℕ) (d : Joined) → i < length js → (get_or js i d).number ≡ i
  number_there i d within = sym (get_or-map (λ (x : Joined). x.number) js i d 0 within) ∙ ap (λ (ns : List ℕ). get_or ns i 0) numbers ∙ get_or-range_with_len 0 (length js) i 0 within ∙ from_zero i

  pub short_below : All (λ (n : ℕ). n < length js) (short_of js)
  short_below =
      All-map (λ (n : ℕ). n < length js) (λ (x : Joined). x.number) (filter (λ (x : Joined). is_short x.kind) js)
      (All-filter (λ (x : Joined). is_short x.kind) (λ (x : Joined). x.number < length js) js (λ i d within. subst (λ (n : ℕ). n < length js) (sym (number_there i d within)) within))

  pub short_rise : AllPairs (λ (a b : ℕ). a < b) (short_of js)
  short_rise = rise_mapped (λ (x : Joined). x.number) (filter (λ (x : Joined). is_short x.kind) js) (AllPairs-filter (λ (x y : Joined). x.number < y.number) (λ (x : Joined). is_short x.kind) js rise)
    where
      rise : AllPairs (λ (x y : Joined). x.number < y.number) js
      rise i j d before within = omega (arith, before, number_there i d (omega (arith, before, within)), number_there j d within)

-- ---- the port and the desk of a looper
-- three lists of which each three that stand at the same place are so
module _ {X Y Z : Type 0} (P : X → Y → Z → Type 0) where
  abbrev AreThree : List X → List Y → List Z → Type 0
  AreThree [] [] [] = Unit {0}
  AreThree (x ∷ xs) (y ∷ ys) (z ∷ zs) = P x y z × AreThree xs ys zs
  AreThree _ _ _ = ⊥

  three_at : (xs : List X) (ys : List Y) (zs : List Z) (n : ℕ) (x : X) → AreThree xs ys zs → slice_get xs n ≡ Some x → (y : Y) × (z : Z) × (slice_get ys n ≡ Some y) × (slice_get zs n ≡ Some z) × P x y z
  three_at (a ∷ xs) (b ∷ ys) (c ∷ zs) zero x are there = (b, c, refl, refl, subst (λ (i : X). P i b c) (some_same a x there) are.0)
  three_at (a ∷ xs) (b ∷ ys) (c ∷ zs) (suc n) x are there = three_at xs ys zs n x are.1 there
  three_at [] ys zs n x are there = absurd cc
  three_at (a ∷ xs) [] zs n x are there = absurd are
  three_at (a ∷ xs) (b ∷ ys) [] n x are there = absurd are

abbrev AreBooks : Joined → PortData → DeskData → Type 0
AreBooks j port desk = IsPortOf j.door.port_seat port × IsDeskOf j.door.desk_seat desk

three_books : (js : List Joined) (ports : List PortData) (desks : List DeskData) → AreBooksOf js ports desks → AreThree AreBooks js ports desks
three_books [] [] [] books = tt
three_books (j ∷ js) (port ∷ ports) (desk ∷ desks) books = (books.0, three_books js ports desks books.1)
three_books [] [] (desk ∷ desks) books = absurd books
three_books [] (port ∷ ports) desks books = absurd books
three_books (j ∷ js) [] desks books = absurd books
three_books (j ∷ js) (port ∷ ports) [] books = absurd books

pub record BooksAt (ports : List PortData) (desks : List DeskData) (place : ℕ) (j : Joined) : Type 0 where
  pub port : PortData
  pub port_there : slice_get ports place ≡ Some port
  pub port_is : IsPortOf j.door.port_seat port
  pub desk : DeskData
  pub desk_there : slice_get desks place ≡ Some desk
  pub desk_is : IsDeskOf j.door.desk_seat desk

pub books_at : (js : List Joined) (ports : List PortData) (desks : List DeskData) (place : ℕ) (j : Joined) → AreBooksOf js ports desks → slice_get js place ≡ Some j → BooksAt ports desks place j
books_at js ports desks place j books there =
    let at = three_at AreBooks js ports desks place j (three_books js ports desks books) there in
    record { port = at.0; port_there = at.2; port_is = at.4.0; desk = at.1; desk_there = at.3; desk_is = at.4.1 }

-- ---- the doors that the roster kept
pub heads_at : (js : List Joined) (start : ℕ) (keeps : List KeptDoor) (i : ℕ) (kept : KeptDoor) → AreHeadsIn js start keeps → slice_get keeps i ≡ Some kept → IsSomeAnd (slice_get js (start + i)) (IsHeadFor kept)
heads_at js start [] i kept heads there = absurd cc
heads_at js start (x ∷ keeps) zero kept heads there =
    let same : x ≡ kept = cc in
    let at : start ≡ start + 0 = omega arith in
    subst (λ (k : KeptDoor). IsSomeAnd (slice_get js (start + 0)) (IsHeadFor k)) same (subst (λ (n : ℕ). IsSomeAnd (slice_get js n) (IsHeadFor x)) at heads.0)
heads_at js start (x ∷ keeps) (suc i) kept heads there =
    let at : suc start + i ≡ start + suc i = omega arith in
    subst (λ (n : ℕ). IsSomeAnd (slice_get js n) (IsHeadFor kept)) at (heads_at js (suc start) keeps i kept heads.1 there)

pub kept_at : (threads : KeptDoor → Option (List ℕ)) (start : ℕ) (keeps : List KeptDoor) (loopers : List LooperData) (i : ℕ) (kept : KeptDoor) → AreKept threads start keeps loopers → slice_get keeps i ≡ Some kept
    → (its : LooperData) × (slice_get loopers i ≡ Some its) × IsKept threads (start + i) kept its
kept_at threads start [] loopers i kept are there = absurd cc
kept_at threads start (x ∷ keeps) [] i kept are there = absurd are
kept_at threads start (x ∷ keeps) (its ∷ loopers) zero kept are there =
    let same : x ≡ kept = cc in
    let at : start ≡ start + 0 = omega arith in
    (its, refl, subst (λ (k : KeptDoor). IsKept threads (start + 0) k its) same (subst (λ (n : ℕ). IsKept threads n x its) at are.0))
kept_at threads start (x ∷ keeps) (its ∷ loopers) (suc i) kept are there =
    let behind = kept_at threads (suc start) keeps loopers i kept are.1 there in
    let at : suc start + i ≡ start + suc i = omega arith in
    (behind.0, behind.1, subst (λ (n : ℕ). IsKept threads n kept behind.0) at behind.2)

pub kept_in : (js : List Joined) (start : ℕ) (keeps : List KeptDoor) → ((i : ℕ) (kept : KeptDoor) → slice_get keeps i ≡ Some kept → IsAt js (start + i) kept.port_seat.lock kept.desk_seat.lock) → AreKeptIn js start keeps
kept_in js start [] each = tt
kept_in js start (x ∷ keeps) each =
    let at : start + 0 ≡ start = omega arith in (
      subst (λ (n : ℕ). IsAt js n x.port_seat.lock x.desk_seat.lock) at (each 0 x refl),
      kept_in js (suc start) keeps (λ i kept there. subst (λ (n : ℕ). IsAt js n kept.port_seat.lock kept.desk_seat.lock) (further i) (each (suc i) kept there)),
    )
  where
    further : (i : ℕ) → start + suc i ≡ suc start + i
    further i = omega arith

-- ---- the doors of a looper
-- one of them is that of the looper with that number, or none is
pub way_to : (ways : List (ℕ × Door)) (looper : ℕ) → ((way : ℕ × Door) × Contains ways way × (way.0 ≡ looper)) ⊎ All (λ n. n ≢ looper) (map (λ (way : ℕ × Door). way.0) ways)
way_to [] looper = inr (All-nil (λ n. n ≢ looper))
way_to (way ∷ ways) looper = by_number (way.0 == looper) refl (way_to ways looper)
  where
    by_number : (b : Bool) → (way.0 == looper) ≡ b → ((other : ℕ × Door) × Contains ways other × (other.0 ≡ looper)) ⊎ All (λ n. n ≢ looper) (map (λ (x : ℕ × Door). x.0) ways)
        → ((other : ℕ × Door) × Contains (way ∷ ways) other × (other.0 ≡ looper)) ⊎ All (λ n. n ≢ looper) (map (λ (x : ℕ × Door). x.0) (way ∷ ways))
    by_number true is behind = inl (way, (0, omega arith, refl), eqb-true way.0 looper is)
    by_number false is (inl found) = inl (found.0, (suc found.1.0, omega (arith, found.1.1), found.1.2), found.2)
    by_number false is (inr none) = inr (All-cons (λ n. n ≢ looper) way.0 (map (λ (x : ℕ × Door). x.0) ways) (λ same. true≢false (sym (eq-eqb way.0 looper same) ∙ is)) none)

-- ---- looper after looper
pub each_placed : (Q : ℕ → PortData → DeskData → Type 0) (n : ℕ) (ports : List PortData) (desks : List DeskData) → length desks ≡ length ports
    → ((place : ℕ) (port : PortData) (desk : DeskData) → slice_get ports place ≡ Some port → slice_get desks place ≡ Some desk → Q (n + place) port desk) → Each Q n ports desks
each_placed Q n [] [] same tells = tt
each_placed Q n [] (desk ∷ desks) same tells = absurd (omega (arith, same))
each_placed Q n (port ∷ ports) [] same tells = absurd (omega (arith, same))
each_placed Q n (port ∷ ports) (desk ∷ desks) same tells =
    let at : n + 0 ≡ n = omega arith in (
      subst (λ (m : ℕ). Q m port desk) at (tells 0 port desk refl refl),
      each_placed Q (suc n) ports desks (omega (arith, same)) (λ place p d there here. subst (λ (m : ℕ). Q m p d) (further place) (tells (suc place) p d there here)),
    )
  where
    further : (place : ℕ) → n + suc place ≡ suc n + place
    further place = omega arith
