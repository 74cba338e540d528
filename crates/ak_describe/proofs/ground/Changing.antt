-- What a line makes of the last one of a list, as contracts see it: `n` is how long the list is.
use Rattle.std.proofs.Common.{◌≡◌, ℕ, ◌-◌, ◌<◌, List, length, map, get_or, Option, Some, Result, Ok, Err, refl, sym, ap, subst, ◌∙◌, arith}
use Rattle.std.specs.Prelude.{slice_set, OnErr}
use Rattle.std.proofs.lemmas.List.{set-get_or, map-set}
use Rattle.std.proofs.lemmas.Option.{slice_get_read, get_or_from_slice_get}
use Rattle.ak_base.specs.declared.ending.RefusalKind.{RefusalKind}
use Rattle.ak_base.specs.declared.ending.RefusalKind.TheVariants as refusal
use Rattle.ak_describe.specs.declared.fault.LineFault.{LineFault}
use Rattle.ak_describe.specs.declared.fault.LineFault.TheVariants as faults
use Rattle.ak_describe.specs.declared.named.Need.{Need}
use Rattle.ak_describe.specs.Answers.{IsRefused, Leaves}
use Rattle.ak_describe.specs.Pass.{last_item, on_last, then_read}
use Rattle.ak_describe.proofs.Lasts.{on_last-some, with_item-err, with_item-ok}

-- ---- whether there is one
last_there : {A : Type 0} (xs : List A) (n : ℕ) (x : A) → n ≡ length xs → 0 < length xs → x ≡ get_or xs (n - 1) x → last_item xs ≡ Some x
last_there xs n x len has_one is =
    slice_get_read xs (length xs) (length xs - 1) x refl (omega arith) (subst (λ (m : ℕ). x ≡ get_or xs (m - 1) x) len is)

-- written where it stands, it leaves the list as it is
pub kept_own : {A : Type 0} (xs : List A) (x : A) → last_item xs ≡ Some x → slice_set xs (length xs - 1) x ≡ xs
kept_own xs x is = ap (slice_set xs (length xs - 1)) (sym (get_or_from_slice_get xs (length xs - 1) x x is)) ∙ set-get_or xs (length xs - 1) x

-- ---- a list as it is seen by a view
refused_last : {A B C : Type 0} (f : A → B) (change : B → Result (B × C) RefusalKind) (xs : List A) (x : A) (e : LineFault) → last_item xs ≡ Some x → IsRefused e (change (f x)) → IsRefused e (on_last change (map f xs))
refused_last f change xs x faults.UnknownLine is h = on_last-some f change xs x is ∙ with_item-err (map f xs) (change (f x)) refusal.UnknownLine h
refused_last f change xs x faults.BadValue is h = on_last-some f change xs x is ∙ with_item-err (map f xs) (change (f x)) refusal.BadValue h
refused_last f change xs x faults.NameInUse is h = on_last-some f change xs x is ∙ with_item-err (map f xs) (change (f x)) refusal.NameInUse h
refused_last f change xs x faults.Limit is h = on_last-some f change xs x is ∙ with_item-err (map f xs) (change (f x)) refusal.Limit h
refused_last f change xs x faults.NoMemory is h = tt

changed_last : {A B : Type 0} (f : A → B) (change : B → Result (B × Option Need) RefusalKind) (xs : List A) (x y : A) (r : Result (Option Need) LineFault) → last_item xs ≡ Some x
    → Leaves r (f y) (change (f x)) → Leaves r (map f (slice_set xs (length xs - 1) y)) (on_last change (map f xs))
changed_last f change xs x y (Ok need) is h = on_last-some f change xs x is ∙ with_item-ok f xs y need (change (f x)) h
changed_last f change xs x y (Err e) is h = refused_last f change xs x e is h

pub leaves_last : {A B : Type 0} (f : A → B) (change : B → Result (B × Option Need) RefusalKind) (xs : List A) (n : ℕ) (x y : A) (r : Result (Option Need) LineFault) → n ≡ length xs → 0 < length xs → x ≡ get_or xs (n - 1) x
    → Leaves r (f y) (change (f x)) → Leaves r (map f (slice_set xs (n - 1) y)) (on_last change (map f xs))
leaves_last f change xs n x y r len has_one is h =
    subst (λ (m : ℕ). Leaves r (map f (slice_set xs (m - 1) y)) (on_last change (map f xs))) (sym len) (changed_last f change xs x y r (last_there xs n x len has_one is) h)

same_last : {A B T E : Type 0} (f : A → B) (xs : List A) (x y : A) (r : Result T E) → last_item xs ≡ Some x → OnErr r (f y ≡ f x) → OnErr r (map f (slice_set xs (length xs - 1) y) ≡ map f xs)
same_last f xs x y (Ok t) is h = tt
same_last f xs x y (Err e) is h =
    map-set f xs (length xs - 1) y ∙ (ap (slice_set (map f xs) (length xs - 1)) h ∙ (sym (map-set f xs (length xs - 1) x) ∙ ap (map f) (kept_own xs x is)))

pub keeps_last : {A B T E : Type 0} (f : A → B) (xs : List A) (n : ℕ) (x y : A) (r : Result T E) → n ≡ length xs → 0 < length xs → x ≡ get_or xs (n - 1) x → OnErr r (f y ≡ f x) → OnErr r (map f (slice_set xs (n - 1) y) ≡ map f xs)
keeps_last f xs n x y r len has_one is h =
    subst (λ (m : ℕ). OnErr r (map f (slice_set xs (m - 1) y) ≡ map f xs)) (sym len) (same_last f xs x y r (last_there xs n x len has_one is) h)

-- ---- a part that has the list
refused_inside : {P R : Type 0} (wrap : P → Result R RefusalKind) (e : LineFault) (read : Result P RefusalKind) → IsRefused e read → IsRefused e (then_read read wrap)
refused_inside wrap faults.UnknownLine read h = rw h refl
refused_inside wrap faults.BadValue read h = rw h refl
refused_inside wrap faults.NameInUse read h = rw h refl
refused_inside wrap faults.Limit read h = rw h refl
refused_inside wrap faults.NoMemory read h = tt

pub leaves_inside : {P Q : Type 0} (wrap : P → Q) (r : Result (Option Need) LineFault) (left : P) (read : Result (P × Option Need) RefusalKind) → Leaves r left read → Leaves r (wrap left) (then_read read (λ (x : P × Option Need). Ok (wrap x.0, x.1)))
leaves_inside {P} wrap (Ok need) left read h = rw h refl
leaves_inside {P} wrap (Err e) left read h = refused_inside (λ (x : P × Option Need). Ok (wrap x.0, x.1)) e read h

pub keeps_inside : {P Q T E : Type 0} (wrap : P → Q) (old left : P) (r : Result T E) → OnErr r (left ≡ old) → OnErr r (wrap left ≡ wrap old)
keeps_inside wrap old left (Ok t) h = tt
keeps_inside wrap old left (Err e) h = ap wrap h
