-- When a row fits, and which row is found.
use Rattle.std.proofs.Common.{◌≡◌, ℕ, ◌<◌, Bool, true, false, cond, nat_eq, nat_lt, inl, inr, List, [], ◌∷◌, length, take, get_or, None, Some, refl, subst, arith, tests}
use Rattle.std.specs.Bool.{Decides}
use Rattle.std.specs.List.{All, Contains, list_any, position_or_len}
use Rattle.std.specs.Option.{MatchOption}
use Rattle.std.proofs.lemmas.Bool.Decides.{Decides-eqb, Decides-not, Decides-and, Decides-or, Decides-like, Decides-by_or, not_from_Decides}
use Rattle.std.proofs.lemmas.List.{get_or-take, length-take}
use Rattle.std.proofs.lemmas.List.Elements.{Contains-from_at, at_from_Contains}
use Rattle.std.proofs.lemmas.List.Sums.{fails_before_first, passes_at_first}
use Rattle.std.proofs.lemmas.Option.{slice_get_cases}
use Rattle.std.proofs.lemmas.Slice.Eq.{bytes_eq-Decides}
use Rattle.ak_property.specs.declared.table.PropertyRow.{PropertyRow}
use Rattle.ak_property.specs.Table.{allows, codes_of, fits}
use Rattle.ak_property.specs.Laws.{Allows, Takes, FitsAsTold, IsFirst, FirstIsFound}

-- ---- when a row fits
any-decides : (n : ℕ) (xs : List ℕ) → Decides (list_any (λ y. nat_eq y n) xs) (Contains xs n)
any-decides n xs =
    Decides-like _ (λ h. Contains-from_at xs n h) (λ h. at_from_Contains xs n h)
    (Decides-by_or (λ y. nat_eq y n) (λ y. y ≡ n) (list_any (λ y. nat_eq y n)) (λ y. Decides-eqb y n) refl (λ _ _. refl) xs)

allows-decides : (ns : List ℕ) (n : ℕ) → Decides (allows ns n) (Allows ns n)
allows-decides [] n = (λ _. inl refl, λ _. refl)
allows-decides (x ∷ xs) n = let d = any-decides n (x ∷ xs) in (λ h. inr (d.0 h), λ h. elim h [ inl e ↦ absurd cc | inr k ↦ d.1 k ])

fits-decides : (what index form : ℕ) (name : List ℕ) (row : PropertyRow) → Decides (fits what index form name row) (Takes what index form name row)
fits-decides what index form name row =
    Decides-like _
    (λ p. record { has_name = p.0; allows_form = p.1.0; allows_command = p.1.1 })
    (λ t. (t.has_name, (t.allows_form, t.allows_command)))
    (Decides-and _ _ (bytes_eq-Decides row.name name)
    (Decides-and _ _ (allows-decides row.forms form)
    (Decides-or _ _ (allows-decides (codes_of row.commands) what) (Decides-not _ (Decides-eqb index 0)))))

pub rows-fit_as_told : FitsAsTold
rows-fit_as_told what index form name row = fits-decides what index form name row

-- ---- which row is found
module _ (p : PropertyRow → Bool) (P : PropertyRow → Type 0) (decides : (row : PropertyRow) → Decides (p row) (P row)) (rows : List PropertyRow) where
  fails : (k : ℕ) (d : PropertyRow) → k < position_or_len p rows → ¬ P (get_or rows k d)
  fails k d h = not_from_Decides _ (decides (get_or rows k d)) (fails_before_first p rows k d h)

  none-before : All (λ row. ¬ P row) (take (position_or_len p rows) rows)
  none-before k d h =
      let place = position_or_len p rows in
      let early : k < place = omega (arith, length-take place rows) in
      rw (get_or-take place rows k d early) (fails k d early)

  first-at : position_or_len p rows < length rows → IsFirst P rows (position_or_len p rows)
  first-at h =
      elim (slice_get_cases rows (position_or_len p rows)).1 [
        | inl w ↦ record {
          row = w.0;
          stands = w.2;
          is_so = (decides w.0).0 (subst (λ row. p row ≡ true) w.3 (passes_at_first p rows w.0 h));
          none_before = none-before;
        }
        | inr w ↦ absurd (omega arith)
      ]

  found : (b : Bool) → nat_lt (position_or_len p rows) (length rows) ≡ b → MatchOption (cond b (Some (position_or_len p rows)) None) (All (λ row. ¬ P row) rows) (λ place. IsFirst P rows place)
  found true e = first-at (grind (arith, tests))
  found false e = λ k d h. fails k d (grind (arith, tests))

pub first-is_found : FirstIsFound
first-is_found rows what index form name =
    found (fits what index form name) (Takes what index form name) (fits-decides what index form name) rows _ refl
