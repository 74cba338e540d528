-- Names go on following one another, where a line adds one or none.
use Rattle.std.proofs.Common.{◌≡◌, ◌≢◌, ◌∙◌, ℕ, zero, suc, ◌<◌, ◌≤◌, List, [], ◌∷◌, ◌++◌, Option, Some, None, slice_get, refl, sym, ap, subst, ⊎_elim, arith}
use Rattle.std.proofs.lemmas.Bool.{cases_order}
use Rattle.ak_describe.specs.declared.named.Named.{Named}
use Rattle.ak_describe.specs.declared.named.Need.{Need}
use Rattle.ak_describe.specs.declared.named.Need.TheVariants as needs
use Rattle.ak_describe.specs.Parts.{AppData}
use Rattle.ak_describe.proofs.chains.Following.{Follows, NextFollows, NoneFrom, next_at, rank, rank_behind, rank_of}

-- ---- all next handlers stay
module _ (apps left : List AppData) (same : (a x i : ℕ) → next_at left a x i ≡ next_at apps a x i) where
  here_same : (from : ℕ) (n : Named) (need : Need) → NextFollows apps from n need → NextFollows left from n need
  here_same from n (needs.Next name) h =
      record {
        looper = h.looper;
        row = h.row;
        here = same n.app n.looper n.row ∙ h.here;
        behind = h.behind;
        gap = λ a x i lx li over below. same a x i ∙ h.gap a x i lx li over below;
      }
  here_same from n (needs.Handler name) h = h
  here_same from n (needs.Looper name) h = h
  here_same from n (needs.AskLooper name) h = h
  here_same from n (needs.AskApp word) h = h

  pub follows_same : (names : List Named) (from : ℕ) → Follows apps from names → Follows left from names
  follows_same [] from none = λ a x i lx li over. same a x i ∙ none a x i lx li over
  follows_same (n ∷ names) from h = (here_same from n n.need h.0, follows_same names (rank_behind from n n.need) h.1)

-- ---- a name that is no next handler
abbrev pub IsOtherNeed : Need → Type 0
IsOtherNeed (needs.Next name) = ⊥
IsOtherNeed (needs.Handler name) = Unit {0}
IsOtherNeed (needs.Looper name) = Unit {0}
IsOtherNeed (needs.AskLooper name) = Unit {0}
IsOtherNeed (needs.AskApp word) = Unit {0}

other_here : (apps : List AppData) (from : ℕ) (n : Named) (need : Need) → IsOtherNeed need → NextFollows apps from n need × (rank_behind from n need ≡ from)
other_here apps from n (needs.Next name) h = absurd h
other_here apps from n (needs.Handler name) h = (tt, refl)
other_here apps from n (needs.Looper name) h = (tt, refl)
other_here apps from n (needs.AskLooper name) h = (tt, refl)
other_here apps from n (needs.AskApp word) h = (tt, refl)

pub follows_other : (apps : List AppData) (names : List Named) (from : ℕ) (n : Named) → IsOtherNeed n.need → Follows apps from names → Follows apps from (names ++ n ∷ [])
follows_other apps [] from n other none =
    let t = other_here apps from n n.need other in
    (t.0, subst (λ k. NoneFrom apps k) (sym t.1) none)
follows_other apps (m ∷ names) from n other h = (h.0, follows_other apps names (rank_behind from m m.need) n other h.1)

-- ---- a next handler behind all others
pub record IsLast (apps left : List AppData) (n : Named) (name : List ℕ) : Type 0 where
  pub need : n.need ≡ needs.Next name
  pub looper : n.looper < 8
  pub row : n.row < 64
  pub here : next_at left n.app n.looper n.row ≡ Some name
  pub others : (a x i : ℕ) → rank a x i ≢ rank_of n → next_at left a x i ≡ next_at apps a x i
  pub below : (a x i : ℕ) (w : List ℕ) → x < 8 → i < 64 → next_at apps a x i ≡ Some w → rank a x i < rank_of n

module _ (apps left : List AppData) (n : Named) (name : List ℕ) (last : IsLast apps left n name) where
  next_last : (from : ℕ) → from ≤ rank_of n → NoneFrom apps from → (need : Need) → need ≡ needs.Next name → NextFollows left from n need × NoneFrom left (rank_behind from n need)
  next_last from le none (needs.Next w) e =
      let same : name ≡ w = cc in (
        record {
          looper = last.looper;
          row = last.row;
          here = last.here ∙ ap (λ (v : List ℕ). Some v) same;
          behind = le;
          gap = λ a x i lx li over below. last.others a x i (λ h. absurd (omega arith)) ∙ none a x i lx li over;
        },
        λ a x i lx li over. last.others a x i (λ h. absurd (omega arith)) ∙ none a x i lx li (omega arith),
      )
  next_last from le none (needs.Handler w) e = absurd cc
  next_last from le none (needs.Looper w) e = absurd cc
  next_last from le none (needs.AskLooper w) e = absurd cc
  next_last from le none (needs.AskApp w) e = absurd cc

  here_then : (from : ℕ) (m : Named) (need : Need) → from ≤ rank_of n → NextFollows apps from m need → NextFollows left from m need × (rank_behind from m need ≤ rank_of n)
  here_then from m (needs.Next w) le h =
      let lt : rank_of m < rank_of n = last.below m.app m.looper m.row w h.looper h.row h.here in (
        record {
          looper = h.looper;
          row = h.row;
          here = last.others m.app m.looper m.row (λ e. absurd (omega arith)) ∙ h.here;
          behind = h.behind;
          gap = λ a x i lx li over below. last.others a x i (λ e. absurd (omega arith)) ∙ h.gap a x i lx li over below;
        },
        omega arith,
      )
  here_then from m (needs.Handler w) le h = (tt, le)
  here_then from m (needs.Looper w) le h = (tt, le)
  here_then from m (needs.AskLooper w) le h = (tt, le)
  here_then from m (needs.AskApp w) le h = (tt, le)

  pub follows_next : (names : List Named) (from : ℕ) → from ≤ rank_of n → Follows apps from names → Follows left from (names ++ n ∷ [])
  follows_next [] from le none = next_last from le none n.need last.need
  follows_next (m ∷ names) from le h =
      let t = here_then from m m.need le h.0 in
      (t.0, follows_next names (rank_behind from m m.need) t.1 h.1)

-- ---- each next handler has its line
pub record HasLine (names : List Named) (a x i : ℕ) (w : List ℕ) : Type 0 where
  pub place : ℕ
  pub named : Named
  pub is : slice_get names place ≡ Some named
  pub app : named.app ≡ a
  pub looper : named.looper ≡ x
  pub row : named.row ≡ i
  pub need : named.need ≡ needs.Next w

line_behind : (n : Named) (names : List Named) (a x i : ℕ) (w : List ℕ) → HasLine names a x i w → HasLine (n ∷ names) a x i w
line_behind n names a x i w h = record { place = suc h.place; named = h.named; is = h.is; app = h.app; looper = h.looper; row = h.row; need = h.need }

-- of handlers that stand at one rank
pub same_place : (a x i b y k : ℕ) → x < 8 → i < 64 → y < 8 → k < 64 → rank a x i ≡ rank b y k → (a ≡ b) × (x ≡ y) × (i ≡ k)
same_place a x i b y k lx li ly lk e = (omega arith, omega arith, omega arith)

none_some : {A : Type 0} (o : Option A) (x : A) → o ≡ None → o ≡ Some x → ⊥
none_some o x none is = absurd cc

line_by : (apps : List AppData) (from : ℕ) (n : Named) (names : List Named) (need : Need) (a x i : ℕ) (w : List ℕ) → n.need ≡ need → x < 8 → i < 64 → from ≤ rank a x i → next_at apps a x i ≡ Some w
    → NextFollows apps from n need → (rank_behind from n need ≤ rank a x i → HasLine names a x i w) → HasLine (n ∷ names) a x i w
line_by apps from n names (needs.Next v) a x i w e lx li le is h later =
    ⊎_elim
    (λ (same : rank a x i ≡ rank_of n).
    let p = same_place a x i n.app n.looper n.row lx li h.looper h.row same in
    let at : next_at apps n.app n.looper n.row ≡ Some w = ap (λ (q : ℕ × ℕ × ℕ). next_at apps q.0 q.1 q.2) (λ k. (sym p.0 k, sym p.1 k, sym p.2 k)) ∙ is in
    let name : v ≡ w = same_of (next_at apps n.app n.looper n.row) v w h.here at in
    record { place = zero; named = n; is = refl; app = sym p.0; looper = sym p.1; row = sym p.2; need = e ∙ ap (λ (u : List ℕ). needs.Next u) name })
    (⊎_elim
    (λ (lt : rank a x i < rank_of n). absurd (none_some (next_at apps a x i) w (h.gap a x i lx li le lt) is))
    (λ (lt : rank_of n < rank a x i). line_behind n names a x i w (later (omega arith))))
    (cases_order (rank a x i) (rank_of n))
  where
    same_of : (o : Option (List ℕ)) (p q : List ℕ) → o ≡ Some p → o ≡ Some q → p ≡ q
    same_of o p q l r = cc
line_by apps from n names (needs.Handler v) a x i w e lx li le is h later = line_behind n names a x i w (later le)
line_by apps from n names (needs.Looper v) a x i w e lx li le is h later = line_behind n names a x i w (later le)
line_by apps from n names (needs.AskLooper v) a x i w e lx li le is h later = line_behind n names a x i w (later le)
line_by apps from n names (needs.AskApp v) a x i w e lx li le is h later = line_behind n names a x i w (later le)

pub has_line : (apps : List AppData) (names : List Named) (from : ℕ) (a x i : ℕ) (w : List ℕ) → x < 8 → i < 64 → from ≤ rank a x i → next_at apps a x i ≡ Some w → Follows apps from names → HasLine names a x i w
has_line apps [] from a x i w lx li le is none = absurd (none_some (next_at apps a x i) w (none a x i lx li le) is)
has_line apps (n ∷ names) from a x i w lx li le is h =
    line_by apps from n names n.need a x i w refl lx li le is h.0 (λ over. has_line apps names (rank_behind from n n.need) a x i w lx li over is h.1)
