-- What was given along the way to what reading gives.
use Rattle.std.proofs.Common.{◌≡◌, ◌-◌, Bool, true, false, if◌then◌else◌, List, length, set, Option, Some, None, option_map, Result, Ok, Err, refl, sym, ap, ◌∙◌}
use Rattle.ak_base.specs.declared.ending.RefusalKind.{RefusalKind}
use Rattle.ak_base.specs.Option.{where_true, ◌>>=◌}
use Rattle.ak_base.specs.declared.limited.Limited.{Limited}
use Rattle.ak_base.specs.declared.limited.Limited.TheVariants.{Within, Over}
use Rattle.ak_base.specs.Limited.{limited_map}
use Rattle.ak_describe.specs.Made.{limited_then}
use Rattle.ak_describe.specs.Pass.{judged, last_item, with_item, on_item, on_last, or_bad, or_limit, then_read}

-- ---- of options
pub record Bound {A B : Type 0} (o : Option A) (f : A → Option B) (y : B) : Type 0 where
  pub value : A
  pub is : o ≡ Some value
  pub then_is : f value ≡ Some y

pub bound : {A B : Type 0} (o : Option A) (f : A → Option B) (y : B) → o >>= f ≡ Some y → Bound o f y
bound None f y e = absurd cc
bound (Some x) f y e = record { value = x; is = refl; then_is = e }

pub where_is : {A : Type 0} (test : Bool) (x y : A) → where_true test x ≡ Some y → (test ≡ true) × (x ≡ y)
where_is true x y e = (refl, cc)
where_is false x y e = absurd cc

pub record Mapped {A B : Type 0} (o : Option A) (f : A → B) (y : B) : Type 0 where
  pub value : A
  pub is : o ≡ Some value
  pub then_is : f value ≡ y

pub mapped : {A B : Type 0} (o : Option A) (f : A → B) (y : B) → option_map f o ≡ Some y → Mapped o f y
mapped None f y e = absurd cc
mapped (Some x) f y e = record { value = x; is = refl; then_is = cc }

-- ---- of what passes no limit
pub same_within : {A : Type 0} (x y : A) → Within x ≡ Within y → x ≡ y
same_within x y e = cc

pub within_is : {A : Type 0} (test : Bool) (x y : A) → (if test then Within x else Over) ≡ Within y → (test ≡ true) × (x ≡ y)
within_is true x y e = (refl, cc)
within_is false x y e = absurd cc

pub record BoundWithin {A B : Type 0} (o : Limited A) (f : A → Limited B) (y : B) : Type 0 where
  pub value : A
  pub is : o ≡ Within value
  pub then_is : f value ≡ Within y

pub bound_within : {A B : Type 0} (o : Limited A) (f : A → Limited B) (y : B) → limited_then f o ≡ Within y → BoundWithin o f y
bound_within Over f y e = absurd cc
bound_within (Within x) f y e = record { value = x; is = refl; then_is = e }

pub record MappedWithin {A B : Type 0} (o : Limited A) (f : A → B) (y : B) : Type 0 where
  pub value : A
  pub is : o ≡ Within value
  pub then_is : f value ≡ y

pub mapped_within : {A B : Type 0} (o : Limited A) (f : A → B) (y : B) → limited_map f o ≡ Within y → MappedWithin o f y
mapped_within Over f y e = absurd cc
mapped_within (Within x) f y e = record { value = x; is = refl; then_is = cc }

pub record Kept {A B : Type 0} (o : Limited A) (f : A → Result B RefusalKind) (y : B) : Type 0 where
  pub value : A
  pub is : o ≡ Within value
  pub then_is : f value ≡ Ok y

pub not_over : {A B : Type 0} (o : Limited A) (f : A → Result B RefusalKind) (y : B) → or_limit o f ≡ Ok y → Kept o f y
not_over Over f y e = absurd cc
not_over (Within x) f y e = record { value = x; is = refl; then_is = e }

-- ---- of what a line makes
pub record Taken {A B : Type 0} (o : Option A) (f : A → Result B RefusalKind) (y : B) : Type 0 where
  pub value : A
  pub is : o ≡ Some value
  pub then_is : f value ≡ Ok y

pub not_bad : {A B : Type 0} (o : Option A) (f : A → Result B RefusalKind) (y : B) → or_bad o f ≡ Ok y → Taken o f y
not_bad None f y e = absurd cc
not_bad (Some x) f y e = record { value = x; is = refl; then_is = e }

pub allowed : {A : Type 0} (in_use has_room : Bool) (next y : A) → judged in_use has_room next ≡ Ok y → (in_use ≡ false) × (has_room ≡ true) × (next ≡ y)
allowed true has_room next y e = absurd cc
allowed false true next y e = (refl, refl, cc)
allowed false false next y e = absurd cc

pub unless : {A : Type 0} (in_use : Bool) (kind : RefusalKind) (r : Result A RefusalKind) (y : A) → (if in_use then Err kind else r) ≡ Ok y → (in_use ≡ false) × (r ≡ Ok y)
unless true kind r y e = absurd cc
unless false kind r y e = (refl, e)

pub record Went {A B E : Type 0} (r : Result A E) (f : A → Result B E) (y : B) : Type 0 where
  pub value : A
  pub is : r ≡ Ok value
  pub then_is : f value ≡ Ok y

pub went : {A B E : Type 0} (r : Result A E) (f : A → Result B E) (y : B) → then_read r f ≡ Ok y → Went r f y
went (Err x) f y e = absurd cc
went (Ok x) f y e = record { value = x; is = refl; then_is = e }

pub same_ok : {A : Type 0} (x y : A) → ◌≡◌ {A = Result A RefusalKind} (Ok x) (Ok y) → x ≡ y
same_ok x y e = cc

-- ---- of the last one of a list
pub record Changed {A B : Type 0} (change : A → Result (A × B) RefusalKind) (xs ys : List A) (b : B) : Type 0 where
  pub old : A
  pub new : A
  pub last : last_item xs ≡ Some old
  pub change_is : change old ≡ Ok (new, b)
  pub list_is : ys ≡ set xs (length xs - 1) new

pub last_is : {A B : Type 0} (xs : List A) (r : Result (A × B) RefusalKind) (y : List A × B) → with_item xs r ≡ Ok y → (z : A × B) × (r ≡ Ok z) × ((set xs (length xs - 1) z.0, z.1) ≡ y)
last_is xs (Err kind) y e = absurd cc
last_is xs (Ok z) y e = (z, refl, same_ok (set xs (length xs - 1) z.0, z.1) y e)

changed_from : {A B : Type 0} (change : A → Result (A × B) RefusalKind) (xs : List A) (y : List A × B) (o : Option A) → last_item xs ≡ o → on_item change xs o ≡ Ok y → Changed change xs y.0 y.1
changed_from change xs y None last e = absurd cc
changed_from {A} {B} change xs y (Some x) last e =
    let t = last_is xs (change x) y e in
    let p : (set xs (length xs - 1) t.0.0, t.0.1) ≡ y = t.2 in
    record {
      old = x;
      new = t.0.0;
      last = last;
      change_is = t.1 ∙ ap (λ (b : B). Ok (t.0.0, b)) (ap (λ (z : List A × B). z.1) p);
      list_is = sym (ap (λ (z : List A × B). z.0) p);
    }

pub changed : {A B : Type 0} (change : A → Result (A × B) RefusalKind) (xs : List A) (y : List A × B) → on_last change xs ≡ Ok y → Changed change xs y.0 y.1
changed change xs y e = changed_from change xs y (last_item xs) refl e
