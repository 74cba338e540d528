-- What a thread makes from one seat to a later one.
use Rattle.std.proofs.Common.{◌≡◌, ℕ, suc, ◌+◌, List, [], ◌∷◌, ◌++◌, length, refl, sym, ap, ◌∙◌, arith, append_assoc, length-append}
use Rattle.std.proofs.lemmas.List.Elements.{filter-append}
use mathlib.Core.Logic.{dite}
use native.Mathlib.Decide.{ℕ_discrete}
use Rattle.ak_turn.specs.Called.{Makes}
use Rattle.ak_turn.specs.Entries.{made_by, places, places_from}
use Rattle.ak_turn.specs.Seats.{LockId, SeatData, HasSeen, HasCalled, HasMade}
use Rattle.ak_turn.proofs.Calls.{made_by-others, made_by-called}
use Rattle.ak_turn.proofs.Keeping.{called_keeps, called_starts, keeps_then_keeps, seen_keeps, seen_starts, starts_then_starts}
use Rattle.ak_turn.proofs.NewSeats.{made_own, made_other}
use Rattle.ak_turn.proofs.Placing.{own_first, other_first}

module _ {O L : Type 0} (by : L → ℕ) where
  pub seen_makes : (a b : SeatData O L) → HasSeen by a b → Makes by [] a b
  seen_makes a b seen =
      let same : length b.own ≡ length a.own = ap (λ s. length s.own) seen.after in
      record {
        keeps = seen_keeps by a b seen;
        goes_on = seen_starts by a b seen;
        made = ap (λ s. made_by by a.thread s.front) seen.after ∙ filter-append _ a.front seen.between
            ∙ ap (λ l. made_by by a.thread a.front ++ l) (made_by-others by a.thread seen.between seen.others);
        own = omega (arith, same);
      }

  pub called_makes : (entry : L) (a b : SeatData O L) → HasCalled by entry a b → Makes by (entry ∷ []) a b
  called_makes entry a b call = record {
    keeps = called_keeps by entry a b call;
    goes_on = called_starts by entry a b call;
    made = ap (λ s. made_by by a.thread s.front) call.after ∙ made_by-called by a.thread a.front call.between entry call.others call.mine;
    own = ap (λ s. length s.own) call.after ∙ length-append a.own (length (a.front ++ call.between) ∷ []);
  }

  pub makes_then_makes : (these those : List L) (a b c : SeatData O L) → Makes by these a b → Makes by those b c → Makes by (these ++ those) a c
  makes_then_makes these those a b c one two = record {
    keeps = keeps_then_keeps a b c one.keeps two.keeps;
    goes_on = starts_then_starts a.front b.front c.front one.goes_on two.goes_on;
    made = ap (λ t. made_by by t c.front) (sym one.keeps.thread) ∙ two.made ∙ ap (λ t. made_by by t b.front ++ those) one.keeps.thread
        ∙ ap (λ l. l ++ those) one.made ∙ append_assoc (made_by by a.thread a.front) these those;
    own = omega (arith, one.own, two.own, length-append these those);
  }

  pub made_goes_on : (entries : List L) (a b : SeatData O L) → Makes by entries a b → made_by by b.thread b.front ≡ made_by by a.thread a.front ++ entries
  made_goes_on entries a b makes = ap (λ t. made_by by t b.front) makes.keeps.thread ∙ makes.made

  pub makes_more : (lock : LockId) (thread : ℕ) (these those : List L) (a b : SeatData O L) → HasMade by lock thread these a → Makes by those a b → HasMade by lock thread (these ++ those) b
  makes_more lock thread these those a b has more = record {
    of = more.keeps.lock ∙ has.of;
    idle = more.keeps.turn ∙ has.idle;
    is = more.keeps.thread ∙ has.is;
    made_so = ap (λ t. made_by by t b.front) (sym has.is) ∙ more.made ∙ ap (λ t. made_by by t a.front ++ those) has.is ∙ ap (λ l. l ++ those) has.made_so;
  }

-- ---- a thread has as many places as entries
module _ {L : Type 0} (by : L → ℕ) (thread : ℕ) where
  as_many : (n : ℕ) (xs : List L) → length (places_from by thread n xs) ≡ length (made_by by thread xs)
  as_many n [] = refl
  as_many n (x ∷ xs) =
      dite (ℕ_discrete (by x) thread)
      (λ e. ap (λ (ks : List ℕ). length ks) (own_first by thread n x xs e) ∙ ap suc (as_many (suc n) xs) ∙ sym (ap (λ (l : List L). length l) (made_own by thread x xs e)))
      (λ e. ap (λ (ks : List ℕ). length ks) (other_first by thread n x xs e) ∙ as_many (suc n) xs ∙ sym (ap (λ (l : List L). length l) (made_other by thread x xs e)))

nothing_there : {L : Type 0} (xs : List L) → length xs ≡ 0 → xs ≡ []
nothing_there [] e = refl
nothing_there (x ∷ xs) e = absurd (omega arith)

module _ {O L : Type 0} (by : L → ℕ) where
  pub nothing_before : (entries : List L) (a b : SeatData O L) → a.own ≡ [] → b.own ≡ places by b.thread b.front → Makes by entries a b → (made_by by a.thread a.front ≡ []) × (made_by by b.thread b.front ≡ entries)
  nothing_before entries a b none own makes =
      let goes_on : made_by by b.thread b.front ≡ made_by by a.thread a.front ++ entries = made_goes_on by entries a b makes in
      let all : length (made_by by b.thread b.front) ≡ length (made_by by a.thread a.front) + length entries = ap (λ (l : List L). length l) goes_on ∙ length-append (made_by by a.thread a.front) entries in
      let there : length b.own ≡ length (made_by by b.thread b.front) = ap (λ (ks : List ℕ). length ks) own ∙ as_many by b.thread 0 b.front in
      let began : length a.own ≡ 0 = ap (λ (ks : List ℕ). length ks) none in
      let before : made_by by a.thread a.front ≡ [] = nothing_there (made_by by a.thread a.front) (omega (arith, makes.own, all, there, began)) in
      (before, goes_on ∙ ap (λ (l : List L). l ++ entries) before)
