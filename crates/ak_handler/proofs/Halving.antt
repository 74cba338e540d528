-- Since tokens rise, a search by halves finds the row that a search row by row finds.
use Rattle.std.proofs.Common.{◌≡◌, ℕ, ◌<◌, ◌≤◌, ◌==◌, List, [], ◌∷◌, length, get_or, position, AllPairs, None, Some, Result, Ok, Err, refl, sym, ap, subst, eq-eqb, ne_eqb, lt-ltb, arith}
use Rattle.std.specs.List.{position_or_len}
use Rattle.std.specs.List.Sorted.{IsSearchInRange, IsBinarySearchResult, IsNonDecreasingBy}
use Rattle.std.specs.Ordering.{nat_cmp, ordering_index}
use Rattle.std.specs.Result.{result_ok}
use Rattle.std.proofs.lemmas.Bool.Decides.{nat_tests}
use Rattle.std.proofs.lemmas.Cmp.{ranked}
use Rattle.std.proofs.lemmas.List.{length-map, get_or-map}
use Rattle.std.proofs.lemmas.List.Sums.{position_or_len_is}
use Rattle.std.proofs.lemmas.List.Sorted.{IsNonDecreasingBy-from_default}
use Rattle.ak_handler.specs.declared.rows.Row.{Row}
use Rattle.ak_handler.specs.Rows.{handler_seen, list_seen, Rise}

module _ {R : Type 0} where
  -- ---- in rows that there are
  module _ (row : Row R) (rest : List (Row R)) (rise : Rise (row ∷ rest)) (token : ℕ) where
    abbrev token_at : ℕ → ℕ
    token_at i = (get_or (row ∷ rest) i row).token

    comparisons_rise : IsNonDecreasingBy (λ r. ordering_index (nat_cmp r.token token)) (row ∷ rest)
    comparisons_rise = IsNonDecreasingBy-from_default (λ r. ordering_index (nat_cmp r.token token)) (row ∷ rest) row (λ i j le within.
        let rises : token_at i ≤ token_at j = grind (arith, rise i j row, λ (same : i ≡ j). ap token_at same) in
        grind (arith, nat_tests))

    place_at : (i : ℕ) → i < length (row ∷ rest) → token_at i ≡ token → Some i ≡ position (λ r. r.token == token) (row ∷ rest)
    place_at i within here =
        let is : position_or_len (λ r. r.token == token) (row ∷ rest) ≡ i =
        position_or_len_is (λ r. r.token == token) (row ∷ rest) i row (omega (arith, within))
        (λ k lt. ne_eqb (token_at k) token (λ same. omega (arith, rise k i row lt within, here, same)))
        (λ _. eq-eqb (token_at i) token here) in
        rw is (rw (lt-ltb i (length (row ∷ rest)) within) refl)

    no_place : ((k : ℕ) → k < length (row ∷ rest) → token_at k ≡ token → ⊥) → None ≡ position (λ r. r.token == token) (row ∷ rest)
    no_place none =
        let is : position_or_len (λ r. r.token == token) (row ∷ rest) ≡ length (row ∷ rest) =
        position_or_len_is (λ r. r.token == token) (row ∷ rest) (length (row ∷ rest)) row (omega arith)
        (λ k lt. ne_eqb (token_at k) token (none k lt))
        (λ lt. absurd (omega (arith, lt))) in
        rw is (grind (arith, nat_tests))

    halved : (r : Result ℕ ℕ) → IsSearchInRange r (length (row ∷ rest)) → IsBinarySearchResult (λ r. nat_cmp r.token token) (row ∷ rest) r → result_ok r ≡ position (λ r. r.token == token) (row ∷ rest)
    halved (Ok i) within equal = place_at i within (ranked _ token _ (sym (equal row)))
    halved (Err i) within parted =
        no_place (λ k lt same.
        let smaller : k < i → token_at k < token = λ before. ranked _ token _ (sym ((parted comparisons_rise).0 k row (omega arith) before)) in
        let greater : i ≤ k → token < token_at k = λ after. ranked _ token _ (sym ((parted comparisons_rise).1 k row after lt)) in
        grind (arith, smaller, greater, same))

  pub place-halved : (rows : List (Row R)) (token : ℕ) (r : Result ℕ ℕ) → Rise rows → IsSearchInRange r (length rows) → IsBinarySearchResult (λ row. nat_cmp row.token token) rows r → result_ok r ≡ position (λ row. row.token == token) rows
  place-halved [] token (Ok i) rise within equal = absurd (omega (arith, within))
  place-halved [] token (Err i) rise within parted = refl
  place-halved (row ∷ rest) token r rise within searched = halved row rest rise token r within searched

  -- ---- where the token is the place of its row
  pub place_here : (rows : List (Row R)) (token place : ℕ) → Rise rows → place < length rows → ((d : Row R) → (get_or rows place d).token ≡ token) → Some place ≡ position (λ row. row.token == token) rows
  place_here [] token place rise within here = absurd (omega (arith, within))
  place_here (row ∷ rest) token place rise within here = place_at row rest rise token place within (here row)

  -- ---- as handlers' tokens do
  pub rows_rise : (rows : List (Row R)) → AllPairs (λ a b. a.token < b.token) (list_seen rows) → Rise rows
  rows_rise rows rise i j d lt within =
      let many : j < length (list_seen rows) = omega (arith, length-map rows handler_seen, within) in
      let e : (k : ℕ) → k < length rows → get_or (list_seen rows) k (handler_seen d) ≡ handler_seen (get_or rows k d) = λ k fits. get_or-map handler_seen rows k d (handler_seen d) fits in
      let both = rise i j (handler_seen d) lt many in
      subst (λ h. h.token < (get_or rows j d).token) (e i (omega arith)) (subst (λ h. (get_or (list_seen rows) i (handler_seen d)).token < h.token) (e j within) both)
