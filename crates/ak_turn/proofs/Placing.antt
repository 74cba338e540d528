-- Where a thread's entries stand, in lists that go on.
use Rattle.std.proofs.Common.{◌≡◌, ◌≢◌, ℕ, suc, ◌+◌, cond, List, [], ◌∷◌, ◌++◌, length, sym, refl, ap, ◌∙◌, arith, append_assoc, append-nil, eq-eqb, ne_eqb}
use Rattle.std.proofs.lemmas.List.{append_cancel_left}
use Rattle.std.proofs.lemmas.List.Elements.{All-head, All-tail, All-cons, All-nil}
use mathlib.Core.Logic.{dite}
use native.Mathlib.Decide.{ℕ_discrete}
use Rattle.ak_turn.specs.declared.view.Part.{Part}
use Rattle.ak_turn.specs.Entries.{places, places_from, AreByOthers}
use Rattle.ak_turn.specs.Rule.{IsKnown}

module _ {L : Type 0} (by : L → ℕ) (thread : ℕ) where
  pub own_first : (n : ℕ) (x : L) (xs : List L) → by x ≡ thread → places_from by thread n (x ∷ xs) ≡ n ∷ places_from by thread (suc n) xs
  own_first n x xs e = ap (λ b. cond b (n ∷ places_from by thread (suc n) xs) (places_from by thread (suc n) xs)) (eq-eqb (by x) thread e)

  pub other_first : (n : ℕ) (x : L) (xs : List L) → by x ≢ thread → places_from by thread n (x ∷ xs) ≡ places_from by thread (suc n) xs
  other_first n x xs e = ap (λ b. cond b (n ∷ places_from by thread (suc n) xs) (places_from by thread (suc n) xs)) (ne_eqb (by x) thread e)

  places_from-append : (n : ℕ) (xs ys : List L) → places_from by thread n (xs ++ ys) ≡ places_from by thread n xs ++ places_from by thread (n + length xs) ys
  places_from-append n [] ys = ap (λ k. places_from by thread k ys) (omega arith)
  places_from-append n (x ∷ xs) ys =
      let step : places_from by thread (suc n) (xs ++ ys) ≡ places_from by thread (suc n) xs ++ places_from by thread (n + suc (length xs)) ys =
      places_from-append (suc n) xs ys ∙ ap (λ k. places_from by thread (suc n) xs ++ places_from by thread k ys) (omega arith) in
      dite (ℕ_discrete (by x) thread)
      (λ e. own_first n x (xs ++ ys) e ∙ ap (λ l. n ∷ l) step ∙ sym (ap (λ l. l ++ places_from by thread (n + suc (length xs)) ys) (own_first n x xs e)))
      (λ e. other_first n x (xs ++ ys) e ∙ step ∙ sym (ap (λ l. l ++ places_from by thread (n + suc (length xs)) ys) (other_first n x xs e)))

  -- a list with no entry of the thread has no places of it, and the other way round
  places_from-others : (n : ℕ) (xs : List L) → AreByOthers by thread xs → places_from by thread n xs ≡ []
  places_from-others n [] others = refl
  places_from-others n (x ∷ xs) others =
      other_first n x xs (All-head (λ entry. by entry ≢ thread) x xs others) ∙ places_from-others (suc n) xs (All-tail (λ entry. by entry ≢ thread) x xs others)

  others-places_from : (n : ℕ) (xs : List L) → places_from by thread n xs ≡ [] → AreByOthers by thread xs
  others-places_from n [] none = All-nil (λ entry. by entry ≢ thread)
  others-places_from n (x ∷ xs) none =
      dite (ℕ_discrete (by x) thread)
      (λ e. let no : n ∷ places_from by thread (suc n) xs ≡ [] = sym (own_first n x xs e) ∙ none in absurd (cc))
      (λ e. All-cons (λ entry. by entry ≢ thread) x xs e (others-places_from (suc n) xs (sym (other_first n x xs e) ∙ none)))

  pub places-others : (xs : List L) → AreByOthers by thread xs → places by thread xs ≡ []
  places-others xs others = places_from-others 0 xs others

  -- one entry more, which is the thread's
  pub places-own : (xs : List L) (x : L) → by x ≡ thread → places by thread (xs ++ x ∷ []) ≡ places by thread xs ++ length xs ∷ []
  places-own xs x e = places_from-append 0 xs (x ∷ []) ∙ ap (λ l. places by thread xs ++ l) (own_first (0 + length xs) x [] e ∙ ap (λ (k : ℕ). k ∷ []) (omega arith))

  -- one entry more, which is another's
  pub places-other : (xs : List L) (x : L) → by x ≢ thread → places by thread (xs ++ x ∷ []) ≡ places by thread xs
  places-other xs x e = places_from-append 0 xs (x ∷ []) ∙ ap (λ l. places by thread xs ++ l) (other_first (0 + length xs) x [] e) ∙ append-nil (places by thread xs)

  -- more entries, which are others'
  pub places_still : (xs ys : List L) → AreByOthers by thread ys → places by thread (xs ++ ys) ≡ places by thread xs
  places_still xs ys others =
      places_from-append 0 xs ys ∙ ap (λ l. places by thread xs ++ l) (places_from-others (0 + length xs) ys others) ∙ append-nil (places by thread xs)

  -- where a list has no more places of the thread than its front, the rest is by others
  pub rest_by_others : (front rest : List L) → places by thread (front ++ rest) ≡ places by thread front → AreByOthers by thread rest
  rest_by_others front rest same =
      others-places_from (0 + length front) rest
      (append_cancel_left (places by thread front) _ [] (sym (places_from-append 0 front rest) ∙ same ∙ sym (append-nil (places by thread front))))

module _ {L : Type 0} (by : L → ℕ) where
  -- one entry more, by another thread
  pub IsKnown-other : (history : List L) (entry : L) (part : Part L) → by entry ≢ part.thread → IsKnown by history part → IsKnown by (history ++ entry ∷ []) part
  IsKnown-other history entry part other known = record {
    begins = (known.begins.0 ++ entry ∷ [], ap (λ l. l ++ entry ∷ []) known.begins.1 ∙ append_assoc part.front known.begins.0 (entry ∷ []));
    all_own = known.all_own ∙ sym (places-other by part.thread history entry other);
    own_seen = known.own_seen;
  }

  -- the whole list is known
  pub IsKnown-whole : (history : List L) (part : Part L) → part.front ≡ history → part.own ≡ places by part.thread history → IsKnown by history part
  IsKnown-whole history part whole own = record {
    begins = ([], sym whole ∙ sym (append-nil part.front));
    all_own = own;
    own_seen = own ∙ sym (ap (places by part.thread) whole);
  }
