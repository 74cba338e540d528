-- A line that is read gives one of three answers: what it names is in use, it passes a limit, or it adds what it says.
use Rattle.std.proofs.Common.{◌≡◌, ℕ, ◌-◌, ◌<◌, ◌≤◌, ◌==◌, Bool, true, false, not, Decides, List, length, Option, Some, slice_set, Result, Ok, Err, refl, sym, ap, subst, ◌∙◌, ne_eqb, arith}
use Rattle.std.proofs.lemmas.Bool.{eqb-false, not-true, not_from_false}
use Rattle.ak_base.specs.declared.ending.RefusalKind.{RefusalKind}
use Rattle.ak_base.specs.declared.ending.RefusalKind.TheVariants as refusal
use Rattle.ak_describe.specs.declared.keyword.Keyword.{Keyword}
use Rattle.ak_describe.specs.declared.named.Need.{Need}
use Rattle.ak_describe.specs.Parts.{RowData, LooperData, AppData}
use Rattle.ak_describe.specs.Pass.{last_item, with_item, on_item, on_last, then_read, judged, in_last_row, carry_in_row, carry_in_looper, in_last_looper, in_last_app}
use Rattle.ak_describe.specs.Says.{with_changed, in_looper, in_row}
use Rattle.ak_describe.proofs.ground.Ends.{changed_is}

-- ---- the answer
pub data Judged (U W A : Type 0) (done : A) (need : Option Need) (r : Result (A × Option Need) RefusalKind) : Type 0 where
  is_twice : U → r ≡ Err refusal.NameInUse → Judged U W A done need r
  is_over : ¬ U → ¬ W → r ≡ Err refusal.Limit → Judged U W A done need r
  is_done : ¬ U → W → r ≡ Ok (done, need) → Judged U W A done need r

-- a part, put in its place
abbrev pub placed : {A B : Type 0} → (A → B) → A × Option Need → Result (B × Option Need) RefusalKind
placed f x = Ok (f x.0, x.1)

-- what is read of a part, put in its place
abbrev pub over : {A B : Type 0} → (A → B) → Result (A × Option Need) RefusalKind → Result (B × Option Need) RefusalKind
over f (Ok x) = Ok (f x.0, x.1)
over f (Err kind) = Err kind

pub judged_over : {U W A B : Type 0} (f : A → B) (done : A) (need : Option Need) (r : Result (A × Option Need) RefusalKind) → Judged U W A done need r → Judged U W B (f done) need (over f r)
judged_over f done need r (is_twice u e) = is_twice u (ap (over f) e)
judged_over f done need r (is_over u w e) = is_over u w (ap (over f) e)
judged_over f done need r (is_done u w e) = is_done u w (ap (over f) e)

pub judged_is : {U W A : Type 0} (u w : Bool) (done : A) (need : Option Need) → Decides u U → Decides w W → Judged U W A done need (judged u w (done, need))
judged_is true w done need du dw = is_twice (du.0 refl) refl
judged_is false true done need du dw = is_done (λ h. let wrong = du.1 h in absurd cc) (dw.0 refl) refl
judged_is false false done need du dw = is_over (λ h. let wrong = du.1 h in absurd cc) (λ h. let wrong = dw.1 h in absurd cc) refl

-- ---- tests
pub never : Decides false ⊥
never = (λ e. absurd cc, λ h. absurd h)

pub decides_room : (n most : ℕ) → n ≤ most → Decides (not (n == most)) (n < most)
decides_room n most le = (
  λ e. let other : n ≡ most → ⊥ = eqb-false n most (not-true (n == most) e) in omega (arith, other),
  λ lt. not_from_false (n == most) (ne_eqb n most (λ e. absurd (omega arith))),
)

-- ---- the last one of a list
pub last_over : {A : Type 0} (change : A → Result (A × Option Need) RefusalKind) (xs : List A) (x : A) → last_item xs ≡ Some x → on_last change xs ≡ over (slice_set xs (length xs - 1)) (change x)
last_over change xs x e = ap (on_item change xs) e ∙ with_over xs (change x)
  where
    with_over : {A : Type 0} (ys : List A) (r : Result (A × Option Need) RefusalKind) → with_item ys r ≡ over (slice_set ys (length ys - 1)) r
    with_over ys (Ok y) = refl
    with_over ys (Err kind) = refl

over_over : {A B C : Type 0} (f : B → C) (g : A → B) (r : Result (A × Option Need) RefusalKind) → over f (over g r) ≡ over (λ (x : A). f (g x)) r
over_over f g (Ok x) = refl
over_over f g (Err kind) = refl

pub then_over : {A B C : Type 0} (f : B → C) (g : A → B) (r : Result (A × Option Need) RefusalKind) → then_read (over g r) (placed f) ≡ over (λ (x : A). f (g x)) r
then_over f g (Ok x) = refl
then_over f g (Err kind) = refl

-- ---- where a part is put
abbrev pub app_with : AppData → LooperData → AppData
app_with a left = record a { loopers = slice_set a.loopers (length a.loopers - 1) left }

abbrev pub put_looper : List AppData → AppData → LooperData → List AppData
put_looper apps a left = slice_set apps (length apps - 1) (app_with a left)

abbrev pub looper_with : LooperData → RowData → LooperData
looper_with l left = record l { rows = slice_set l.rows (length l.rows - 1) left }

abbrev pub put_row : List AppData → AppData → LooperData → RowData → List AppData
put_row apps a l left = put_looper apps a (looper_with l left)

-- ---- in the last looper
module _ (apps : List AppData) (a : AppData) (l : LooperData) (is_app : last_item apps ≡ Some a) (is_looper : last_item a.loopers ≡ Some l) where
  looper_carried : (keyword : Keyword) (words : List (List ℕ)) → in_last_looper a keyword words ≡ over (app_with a) (carry_in_looper l keyword words)
  looper_carried keyword words =
      ap (λ (r : Result (List LooperData × Option Need) RefusalKind). then_read r (placed (λ (ls : List LooperData). record a { loopers = ls })))
      (last_over (λ (m : LooperData). carry_in_looper m keyword words) a.loopers l is_looper)
      ∙ then_over (λ (ls : List LooperData). record a { loopers = ls }) (slice_set a.loopers (length a.loopers - 1)) (carry_in_looper l keyword words)

  pub app_carried : (keyword : Keyword) (words : List (List ℕ)) → in_last_app apps keyword words ≡ over (put_looper apps a) (carry_in_looper l keyword words)
  app_carried keyword words =
      last_over (λ (b : AppData). in_last_looper b keyword words) apps a is_app
      ∙ ap (over (slice_set apps (length apps - 1))) (looper_carried keyword words)
      ∙ over_over (slice_set apps (length apps - 1)) (app_with a) (carry_in_looper l keyword words)

  pub looper_changed : (change : LooperData → LooperData) → in_looper change apps ≡ put_looper apps a (change l)
  looper_changed change =
      changed_is (λ (b : AppData). record b { loopers = with_changed change b.loopers }) apps a is_app
      ∙ ap (λ (ls : List LooperData). slice_set apps (length apps - 1) (record a { loopers = ls })) (changed_is change a.loopers l is_looper)

  pub judged_looper : (U W : Type 0) (change : LooperData → LooperData) (need : Option Need) (r : Result (LooperData × Option Need) RefusalKind)
      → Judged U W LooperData (change l) need r → Judged U W (List AppData) (in_looper change apps) need (over (put_looper apps a) r)
  judged_looper U W change need r j =
      subst (λ (done : List AppData). Judged U W (List AppData) done need (over (put_looper apps a) r)) (sym (looper_changed change)) (judged_over (put_looper apps a) (change l) need r j)

  -- ---- and in its last handler
  module _ (row : RowData) (is_row : last_item l.rows ≡ Some row) where
    row_carried : (keyword : Keyword) (words : List (List ℕ)) → in_last_row l keyword words ≡ over (looper_with l) (carry_in_row row keyword words)
    row_carried keyword words =
        ap (λ (r : Result (List RowData × Option Need) RefusalKind). then_read r (placed (λ (rs : List RowData). record l { rows = rs })))
        (last_over (λ (m : RowData). carry_in_row m keyword words) l.rows row is_row)
        ∙ then_over (λ (rs : List RowData). record l { rows = rs }) (slice_set l.rows (length l.rows - 1)) (carry_in_row row keyword words)

    pub app_row_carried : (keyword : Keyword) (words : List (List ℕ)) → carry_in_looper l keyword words ≡ in_last_row l keyword words → in_last_app apps keyword words ≡ over (put_row apps a l) (carry_in_row row keyword words)
    app_row_carried keyword words same =
        app_carried keyword words
        ∙ ap (over (put_looper apps a)) (same ∙ row_carried keyword words)
        ∙ over_over (put_looper apps a) (looper_with l) (carry_in_row row keyword words)

    pub row_changed : (change : RowData → RowData) → in_row change apps ≡ put_row apps a l (change row)
    row_changed change =
        looper_changed (λ (m : LooperData). record m { rows = with_changed change m.rows })
        ∙ ap (λ (rs : List RowData). put_looper apps a (record l { rows = rs })) (changed_is change l.rows row is_row)

    pub judged_row : (U W : Type 0) (change : RowData → RowData) (need : Option Need) (r : Result (RowData × Option Need) RefusalKind)
        → Judged U W RowData (change row) need r → Judged U W (List AppData) (in_row change apps) need (over (put_row apps a l) r)
    judged_row U W change need r j =
        subst (λ (done : List AppData). Judged U W (List AppData) done need (over (put_row apps a l) r)) (sym (row_changed change)) (judged_over (put_row apps a l) (change row) need r j)
