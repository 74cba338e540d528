-- The second pass: exactly the first name with which something is wrong.
use Rattle.std.proofs.Common.{◌≡◌, ◌⊎◌, ℕ, suc, ◌<◌, ◌≤◌, true, All, List, [], ◌∷◌, ◌++◌, length, Option, Some, None, slice_get, append_assoc, refl, sym, ap, subst, ◌∙◌, ⊎_elim, inl, inr, arith}
use Rattle.std.proofs.lemmas.Bool.{cases_lt}
use Rattle.std.proofs.lemmas.List.Elements.{All-nil, All-cons, All-head, All-tail}
use Rattle.ak_base.specs.declared.ending.RefusalKind.{RefusalKind}
use Rattle.ak_action.specs.Plan.{chains_end}
use Rattle.ak_describe.specs.declared.named.Named.{Named}
use Rattle.ak_describe.specs.Describes.{IsVain, IsGood}
use Rattle.ak_describe.specs.Parts.{AppData}
use Rattle.ak_describe.specs.Pass.{Refusal}
use Rattle.ak_describe.specs.Second.{chained_to, named_fault, or_next, second_fault}
use Rattle.ak_describe.proofs.names.Naming.{IsLedTo, named_tells, none_if_good, good_if_none, ends_if_none}
use Rattle.ak_describe.proofs.names.Ordering.{NamesFit}

module _ (apps : List AppData) (names : List Named) (h : NamesFit apps names) where
  -- nothing is wrong with the names at the first so many places
  abbrev AreKnown : ℕ → Type 0
  AreKnown count = (k : ℕ) (n : Named) → k < count → slice_get names k ≡ Some n → named_fault apps n ≡ None

  -- a handler before this one has its line before
  stands_before : (j k : ℕ) (m n : Named) → slice_get names j ≡ Some m → slice_get names k ≡ Some n → m.app ≡ n.app → m.looper ≡ n.looper → m.row < n.row → j < k
  stands_before j k m n e f app looper lt =
      ⊎_elim
      (λ before. before)
      (λ after. absurd (after_is j k m n e f app looper lt (kept_apart j k after)))
      (cases_lt j k)
    where
      kept_apart : (j k : ℕ) → k ≤ j → (k < j) ⊎ (j ≡ k)
      kept_apart j k le = ⊎_elim (λ lt. inl lt) (λ ge. let same : j ≡ k = omega arith in inr same) (cases_lt k j)

      after_is : (j k : ℕ) (m n : Named) → slice_get names j ≡ Some m → slice_get names k ≡ Some n → m.app ≡ n.app → m.looper ≡ n.looper → m.row < n.row → (k < j) ⊎ (j ≡ k) → ⊥
      after_is j k m n e f app looper lt (inl later) = absurd (omega (arith, lt, h.in_order k j n m later f e (sym app) (sym looper)))
      after_is j k m n e f app looper lt (inr same) =
          let moved : slice_get names k ≡ Some m = subst (λ (i : ℕ). slice_get names i ≡ Some m) same e in
          let one : m ≡ n = cc in
          absurd (omega (arith, lt, ap (λ (x : Named). x.row) one))

  led_to : (k : ℕ) (n : Named) → slice_get names k ≡ Some n → AreKnown k → IsLedTo apps n
  led_to k n is known a l name at next row r other lt is_row is_next =
      let given = h.next_named n.app n.looper row other (a, at.in_app, (l, at.in_looper, (r, is_row, is_next))) in
      let below : given.named.row < n.row = omega (arith, lt, given.row) in
      let before = stands_before given.place k given.named n given.is_at is given.app given.looper below in
      let none = known given.place given.named before given.is_at in
      let in_app : slice_get apps given.named.app ≡ Some a = ap (slice_get apps) given.app ∙ at.in_app in
      let in_looper : slice_get a.loopers given.named.looper ≡ Some l = ap (slice_get a.loopers) given.looper ∙ at.in_looper in
      let ends = ends_if_none apps given.named a l given.name (record { in_app = in_app; in_looper = in_looper }) given.need none in
      subst (λ (p : ℕ). chains_end (chained_to p l.rows) ≡ true) given.row ends

  -- ---- the names from a place on
  pub record VainFrom (rest : List Named) (number : ℕ) (kind : RefusalKind) : Type 0 where
    pub front : List Named
    pub named : Named
    pub behind : List Named
    pub all : rest ≡ front ++ named ∷ behind
    pub front_is : All (IsGood apps) front
    pub fault : IsVain apps named kind
    pub number_is : number ≡ named.line

  at_seam : (before : List Named) (n : Named) (rest : List Named) → slice_get (before ++ n ∷ rest) (length before) ≡ Some n
  at_seam [] n rest = refl
  at_seam (m ∷ before) n rest = at_seam before n rest

  is_here : (before : List Named) (n : Named) (rest : List Named) → names ≡ before ++ n ∷ rest → slice_get names (length before) ≡ Some n
  is_here before n rest e = ap (λ (ns : List Named). slice_get ns (length before)) e ∙ at_seam before n rest

  length-more : (before : List Named) (n : Named) → length (before ++ n ∷ []) ≡ suc (length before)
  length-more [] n = refl
  length-more (m ∷ before) n = ap suc (length-more before n)

  all_more : (before : List Named) (n : Named) (rest : List Named) → names ≡ before ++ n ∷ rest → names ≡ (before ++ n ∷ []) ++ rest
  all_more before n rest e = e ∙ sym (append_assoc before (n ∷ []) rest)

  same_named : (o : Option Named) (m n : Named) → o ≡ Some m → o ≡ Some n → m ≡ n
  same_named o m n e f = cc

  known_more : (before : List Named) (n : Named) (rest : List Named) → names ≡ before ++ n ∷ rest → AreKnown (length before) → named_fault apps n ≡ None → AreKnown (length (before ++ n ∷ []))
  known_more before n rest e known none k m lt is =
      ⊎_elim
      (λ below. known k m below is)
      (λ last.
      let same : k ≡ length before = omega (arith, lt, last, length-more before n) in
      let one : n ≡ m = same_named (slice_get names k) n m (ap (slice_get names) same ∙ is_here before n rest e) is in
      subst (λ (x : Named). named_fault apps x ≡ None) one none)
      (cases_lt k (length before))

  -- what one name gives, and the others
  next_is : (n : Named) (rest : List Named) → named_fault apps n ≡ None → second_fault apps (n ∷ rest) ≡ second_fault apps rest
  unfolding second_fault
  next_is n rest none = ap (λ (o : Option RefusalKind). or_next o n.line (second_fault apps rest)) none

  fault_is : (n : Named) (rest : List Named) (kind : RefusalKind) → named_fault apps n ≡ Some kind → second_fault apps (n ∷ rest) ≡ Some (record { line = n.line; kind = kind })
  unfolding second_fault
  fault_is n rest kind some = ap (λ (o : Option RefusalKind). or_next o n.line (second_fault apps rest)) some

  nothing_is : second_fault apps [] ≡ None
  unfolding second_fault
  nothing_is = refl

  -- ---- nothing is wrong with any
  pub good_read : (before rest : List Named) → names ≡ before ++ rest → AreKnown (length before) → All (IsGood apps) rest → second_fault apps rest ≡ None
  good_read before [] e known good = nothing_is
  good_read before (n ∷ rest) e known good =
      let none = none_if_good apps n (led_to (length before) n (is_here before n rest e) known) (All-head (IsGood apps) n rest good) in
      next_is n rest none ∙ good_read (before ++ n ∷ []) rest (all_more before n rest e) (known_more before n rest e known none) (All-tail (IsGood apps) n rest good)

  read_good_by : (n : Named) (rest : List Named) (o : Option RefusalKind) → named_fault apps n ≡ o → second_fault apps (n ∷ rest) ≡ None → named_fault apps n ≡ None
  read_good_by n rest None is e = is
  read_good_by n rest (Some kind) is e = let told = fault_is n rest kind is in absurd (cc (told, e))

  pub read_good : (before rest : List Named) → names ≡ before ++ rest → AreKnown (length before) → second_fault apps rest ≡ None → All (IsGood apps) rest
  read_good before [] e known read = All-nil (IsGood apps)
  read_good before (n ∷ rest) e known read =
      let none = read_good_by n rest (named_fault apps n) refl read in
      All-cons (IsGood apps) n rest (good_if_none apps n (led_to (length before) n (is_here before n rest e) known) none)
      (read_good (before ++ n ∷ []) rest (all_more before n rest e) (known_more before n rest e known none) (sym (next_is n rest none) ∙ read))

  -- ---- the first one with which something is wrong
  vain_at : (before front : List Named) (n : Named) (behind : List Named) (kind : RefusalKind) → names ≡ before ++ (front ++ n ∷ behind) → AreKnown (length before) → All (IsGood apps) front → IsVain apps n kind
      → second_fault apps (front ++ n ∷ behind) ≡ Some (record { line = n.line; kind = kind })
  vain_at before [] n behind kind e known good vain =
      fault_is n behind kind ((named_tells apps n (led_to (length before) n (is_here before n behind e) known) kind).1 vain)
  vain_at before (m ∷ front) n behind kind e known good vain =
      let none = none_if_good apps m (led_to (length before) m (is_here before m (front ++ n ∷ behind) e) known) (All-head (IsGood apps) m front good) in
      next_is m (front ++ n ∷ behind) none
      ∙ vain_at (before ++ m ∷ []) front n behind kind (all_more before m (front ++ n ∷ behind) e) (known_more before m (front ++ n ∷ behind) e known none) (All-tail (IsGood apps) m front good) vain

  pub vain_read : (number : ℕ) (kind : RefusalKind) → VainFrom names number kind → second_fault apps names ≡ Some (record { line = number; kind = kind })
  vain_read number kind f =
      ap (second_fault apps) f.all
      ∙ vain_at [] f.front f.named f.behind kind f.all (λ k n lt is. absurd (omega arith)) f.front_is f.fault
      ∙ ap (λ (n : ℕ). Some (record { line = n; kind = kind })) (sym f.number_is)

  vain_later : (n : Named) (rest : List Named) (number : ℕ) (kind : RefusalKind) → IsGood apps n → VainFrom rest number kind → VainFrom (n ∷ rest) number kind
  vain_later n rest number kind good f =
      record {
        front = n ∷ f.front;
        named = f.named;
        behind = f.behind;
        all = ap (λ (ns : List Named). n ∷ ns) f.all;
        front_is = All-cons (IsGood apps) n f.front good f.front_is;
        fault = f.fault;
        number_is = f.number_is;
      }

  vain_here : (n : Named) (rest : List Named) (kind : RefusalKind) (r : Refusal) → IsVain apps n kind → record { line = n.line; kind = kind } ≡ r → VainFrom (n ∷ rest) r.line r.kind
  vain_here n rest kind r v e =
      record {
        front = [];
        named = n;
        behind = rest;
        all = refl;
        front_is = All-nil (IsGood apps);
        fault = subst (IsVain apps n) (ap (λ (x : Refusal). x.kind) e) v;
        number_is = sym (ap (λ (x : Refusal). x.line) e);
      }

  same_refusal : (o : Option Refusal) (q r : Refusal) → o ≡ Some q → o ≡ Some r → q ≡ r
  same_refusal o q r e f = cc

  read_vain_by : (before : List Named) (n : Named) (rest : List Named) (r : Refusal) (o : Option RefusalKind) → names ≡ before ++ n ∷ rest → AreKnown (length before) → named_fault apps n ≡ o → second_fault apps (n ∷ rest) ≡ Some r
      → (named_fault apps n ≡ None → second_fault apps rest ≡ Some r → VainFrom rest r.line r.kind) → VainFrom (n ∷ rest) r.line r.kind
  read_vain_by before n rest r None e known is read others =
      vain_later n rest r.line r.kind (good_if_none apps n (led_to (length before) n (is_here before n rest e) known) is) (others is (sym (next_is n rest is) ∙ read))
  read_vain_by before n rest r (Some kind) e known is read others =
      vain_here n rest kind r ((named_tells apps n (led_to (length before) n (is_here before n rest e) known) kind).0 is)
      (same_refusal (second_fault apps (n ∷ rest)) (record { line = n.line; kind = kind }) r (fault_is n rest kind is) read)

  pub read_vain : (before rest : List Named) (r : Refusal) → names ≡ before ++ rest → AreKnown (length before) → second_fault apps rest ≡ Some r → VainFrom rest r.line r.kind
  read_vain before [] r e known read = absurd (let none = nothing_is in cc)
  read_vain before (n ∷ rest) r e known read =
      read_vain_by before n rest r (named_fault apps n) e known refl read
      (λ none others. read_vain (before ++ n ∷ []) rest r (all_more before n rest e) (known_more before n rest e known none) others)
