-- The suites of a handler, one behind the other.
use Rattle.std.proofs.Common.{◌≡◌, ℕ, ◌+◌, Bool, true, false, cond, List, [], ◌∷◌, ◌++◌, length, take, codes, sym, ap, ◌∙◌, append_assoc, arith}
use Rattle.std.proofs.lemmas.List.{length_push}
use Rattle.ak_action.specs.declared.row.DeskRow.{DeskRow}
use Rattle.ak_action.specs.declared.state.DeskState.{DeskState}
use Rattle.ak_action.specs.Doing.{row_of}
use Rattle.ak_desk.specs.BuiltIns.{application_suites, looper_suites, suites_of}
use Rattle.ak_desk.specs.Place.{is_own}

module _ (s : DeskState) (token : ℕ) (row : DeskRow) (same : row_of s token ≡ row) (looper : token ≡ 0) where
  abbrev handler_suite : List ℕ
  handler_suite = codes "suite/vnd.Be-handler"

  abbrev looper_suite : List ℕ
  looper_suite = codes "suite/vnd.Be-looper"

  abbrev application_suite : List ℕ
  application_suite = codes "suite/vnd.Be-application"

  told_with : (behind : List (List ℕ)) → application_suites s ≡ behind → take 16 row.suites ++ handler_suite ∷ looper_suite ∷ behind ≡ suites_of s token
  told_with behind e =
      ap (λ (l : List (List ℕ)). take 16 row.suites ++ handler_suite ∷ looper_suite ∷ l) (sym e)
      ∙ ap (λ (n : ℕ). take 16 row.suites ++ handler_suite ∷ looper_suites s n) (sym looper)
      ∙ ap (λ (r : DeskRow). take 16 r.suites ++ handler_suite ∷ looper_suites s token) (sym same)

  pub of_looper : (suites : List (List ℕ)) → is_own s ≡ false → suites ≡ (take 16 row.suites ++ handler_suite ∷ []) ++ looper_suite ∷ [] → suites ≡ suites_of s token
  of_looper suites own e =
      e ∙ append_assoc (take 16 row.suites) (handler_suite ∷ []) (looper_suite ∷ [])
      ∙ told_with [] (ap (λ (b : Bool). cond b (application_suite ∷ []) []) own)

  pub of_application : (suites : List (List ℕ)) → is_own s ≡ true → suites ≡ ((take 16 row.suites ++ handler_suite ∷ []) ++ looper_suite ∷ []) ++ application_suite ∷ [] → suites ≡ suites_of s token
  of_application suites own e =
      e ∙ ap (λ (l : List (List ℕ)). l ++ application_suite ∷ []) (append_assoc (take 16 row.suites) (handler_suite ∷ []) (looper_suite ∷ []))
      ∙ append_assoc (take 16 row.suites) (handler_suite ∷ looper_suite ∷ []) (application_suite ∷ [])
      ∙ told_with (application_suite ∷ []) (ap (λ (b : Bool). cond b (application_suite ∷ []) []) own)

-- ---- one suite more
pub pushed_as : (xs ys base : List (List ℕ)) (t name : List ℕ) → ys ≡ xs ++ t ∷ [] → xs ≡ base → t ≡ name → ys ≡ base ++ name ∷ []
pushed_as xs ys base t name e b n = e ∙ ap (λ (l : List (List ℕ)). l ++ t ∷ []) b ∙ ap (λ (x : List ℕ). base ++ x ∷ []) n

pub pushed_len : (xs ys : List (List ℕ)) (t : List ℕ) → ys ≡ xs ++ t ∷ [] → length ys ≡ length xs + 1
pushed_len xs ys t e = omega (arith, ap (λ (l : List (List ℕ)). length l) e, length_push xs t)
