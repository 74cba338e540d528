-- The closing of a team, looper by looper.
use Rattle.std.proofs.Common.{◌≡◌, ℕ, ◌+◌, ◌≤◌, ◌==◌, Bool, true, false, cond, List, [], ◌∷◌, ◌++◌, refl, sym, ap, ◌∙◌, subst, append_assoc, append-nil, map-id, arith}
use Rattle.std.specs.List.{range_with_len}
use Rattle.std.proofs.lemmas.List.FromFn.{map-range_with_len_more}
use Rattle.ak_looper.specs.declared.reach.Reach.{Reach}
use Rattle.ak_looper.specs.Stands.{GoesOn, IsStanding, Stands}
use Rattle.ak_looper.proofs.Going.{goes_further, stays, tells}
use Rattle.ak_diary.specs.Looper.{LooperFacts, closed_by, is_own}
use Rattle.ak_diary.specs.Step.{Step}
use Rattle.ak_diary.specs.Turns.{Closes, LeavesRoster, Shuts, ShutsAll}

-- ---- port after port
-- one port more, behind the others
pub shuts_more : (looper : ℕ) (loopers : List ℕ) (steps more : List Step) → ShutsAll loopers steps → Shuts looper more → ShutsAll (loopers ++ looper ∷ []) (steps ++ more)
shuts_more looper [] steps more none one = (more, [], one, refl, ap (λ (s : List Step). s ++ more) none ∙ sym (append-nil more))
shuts_more looper (other ∷ loopers) steps more all one = (
  all.0,
  all.1 ++ more,
  all.2,
  shuts_more looper loopers all.1 more all.3 one,
  ap (λ (s : List Step). s ++ more) all.4 ∙ append_assoc all.0 all.1 more,
)

pub range_more : (a n : ℕ) → range_with_len a (n + 1) ≡ range_with_len a n ++ (a + n) ∷ []
range_more a n =
    sym (map-id (range_with_len a (n + 1))) ∙ map-range_with_len_more (λ (k : ℕ). k) a n (a + n) refl ∙ ap (λ (xs : List ℕ). xs ++ (a + n) ∷ []) (map-id (range_with_len a n))

-- ---- the team's ports, one after another
abbrev pub GoesShutting : ℕ → Reach → Reach → Type 0
GoesShutting n r r' = (l : LooperFacts) (start : ℕ) (so_far : List Step) → Stands l start so_far r → GoesOn l start so_far (ShutsAll (range_with_len l.first n)) r'

pub begins_shutting : (r : Reach) → GoesShutting 0 r r
begins_shutting r l start so_far stands = stays l start so_far (ShutsAll []) r stands refl

pub goes_on_shutting : (n looper : ℕ) (r between r' : Reach) → looper ≡ r.first + n → GoesShutting n r between
    → ((l : LooperFacts) (start : ℕ) (so_far : List Step) → Stands l start so_far between → GoesOn l start so_far (Shuts looper) r') → GoesShutting (n + 1) r r'
goes_on_shutting n looper r between r' is first one l start so_far stands =
    let on = first l start so_far stands in
    let number : looper ≡ l.first + n = is ∙ ap (λ (k : ℕ). k + n) stands.first in
    let loopers : range_with_len l.first n ++ looper ∷ [] ≡ range_with_len l.first (n + 1) = ap (λ (k : ℕ). range_with_len l.first n ++ k ∷ []) number ∙ sym (range_more l.first n) in
    goes_further l start so_far (Shuts looper) (ShutsAll (range_with_len l.first (n + 1))) on.steps r'
    (λ s shuts. subst (λ (xs : List ℕ). ShutsAll xs (on.steps ++ s)) loopers (shuts_more looper (range_with_len l.first n) on.steps s on.does shuts))
    (one l start (so_far ++ on.steps) on.stands)

pub has_shut : (n : ℕ) (r r' : Reach) → n ≡ r.loopers → GoesShutting n r r' → (l : LooperFacts) (start : ℕ) (so_far : List Step) → Stands l start so_far r → GoesOn l start so_far (ShutsAll (range_with_len l.first l.loopers)) r'
has_shut n r r' all goes l start so_far stands =
    tells l start so_far (ShutsAll (range_with_len l.first n)) (ShutsAll (range_with_len l.first l.loopers)) r'
    (λ s shuts. subst (λ (k : ℕ). ShutsAll (range_with_len l.first k) s) (all ∙ stands.loopers) shuts) (goes l start so_far stands)

-- the numbers of a team are small
pub numbers_within : (r : Reach) → IsStanding r → r.first + r.loopers ≤ 32
numbers_within r is =
    let s = is.stands in
    let first = s.first in
    let loopers = s.loopers in
    let within = s.within in
    omega arith

-- ---- the closing
own_is : (l : LooperFacts) (start : ℕ) (so_far : List Step) (r : Reach) → Stands l start so_far r → is_own l ≡ (r.number == r.first)
own_is l start so_far r s = ap (λ (n : ℕ). n == l.first) (sym s.number) ∙ ap (λ (n : ℕ). r.number == n) (sym s.first)

pub closes_team : (r left shut : Reach) → (r.number == r.first) ≡ true
    → ((l : LooperFacts) (start : ℕ) (so_far : List Step) → Stands l start so_far r → GoesOn l start so_far (LeavesRoster l true) left)
    → ((l : LooperFacts) (start : ℕ) (so_far : List Step) → Stands l start so_far left → GoesOn l start so_far (ShutsAll (range_with_len l.first l.loopers)) shut)
    → (l : LooperFacts) (start : ℕ) (so_far : List Step) → Stands l start so_far r → GoesOn l start so_far (Closes l) shut
closes_team r left shut own leaves shuts l start so_far stands =
    let on = leaves l start so_far stands in
    let is : is_own l ≡ true = own_is l start so_far r stands ∙ own in
    let loopers : range_with_len l.first l.loopers ≡ closed_by l = ap (λ (b : Bool). cond b (range_with_len l.first l.loopers) (l.number ∷ [])) (sym is) in
    goes_further l start so_far (ShutsAll (range_with_len l.first l.loopers)) (Closes l) on.steps shut
    (λ s all. record {
      gone = on.steps;
      leaves = subst (λ (b : Bool). LeavesRoster l b on.steps) (sym is) on.does;
      shut = s;
      shuts = subst (λ (xs : List ℕ). ShutsAll xs s) loopers all;
      is = refl;
    })
    (shuts l start (so_far ++ on.steps) on.stands)

pub closes_alone : (r shut : Reach) → (r.number == r.first) ≡ false
    → ((l : LooperFacts) (start : ℕ) (so_far : List Step) → Stands l start so_far r → GoesOn l start so_far (Shuts r.number) shut)
    → (l : LooperFacts) (start : ℕ) (so_far : List Step) → Stands l start so_far r → GoesOn l start so_far (Closes l) shut
closes_alone r shut own shuts l start so_far stands =
    let is : is_own l ≡ false = own_is l start so_far r stands ∙ own in
    let loopers : l.number ∷ [] ≡ closed_by l = ap (λ (b : Bool). cond b (range_with_len l.first l.loopers) (l.number ∷ [])) (sym is) in
    tells l start so_far (Shuts r.number) (Closes l) shut
    (λ s one. record {
      gone = [];
      leaves = subst (λ (b : Bool). LeavesRoster l b []) (sym is) refl;
      shut = s;
      shuts = subst (λ (xs : List ℕ). ShutsAll xs s) loopers (s, [], subst (λ (n : ℕ). Shuts n s) stands.number one, refl, sym (append-nil s));
      is = refl;
    })
    (shuts l start so_far stands)
