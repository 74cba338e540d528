-- A path without a slash is its last part.
use Rattle.std.proofs.Common.{◌≡◌, ℕ, Bool, true, false, List, [], ◌∷◌, refl}
use Rattle.std.specs.Prelude.{if◌then◌else◌, ◌||◌}
use Rattle.std.specs.List.{list_any}
use Rattle.ak_base.specs.AppName.{is_slash, last_part}
use Rattle.ak_base.proofs.app_name.last_part.Goals as goal

by_cases : (first others : Bool) (p q r : List ℕ)
    → (if first || others then (if others then p else if first then q else r) else r) ≡ (if others then p else if first then q else r)
by_cases true true p q r = refl
by_cases true false p q r = refl
by_cases false true p q r = refl
by_cases false false p q r = refl

whole : (path : List ℕ) → (if list_any is_slash path then last_part path else path) ≡ last_part path
whole [] = refl
whole (b ∷ bs) = by_cases (is_slash b) (list_any is_slash bs) (last_part bs) bs (b ∷ bs)

pub loop-byte-init : goal.loop-byte-init
loop-byte-init c = whole c.args.path.now
