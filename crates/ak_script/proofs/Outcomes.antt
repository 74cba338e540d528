-- What an outcome tells of the steps that gave it.
use Rattle.std.proofs.Common.{◌≡◌, ◌≤◌, ℕ, length, arith, Bool, true, false, if◌then◌else◌, Option, Some, None, Result, Ok, Err, refl}
use Rattle.std.specs.Prelude.{option_map}
use Rattle.std.proofs.lemmas.Grind.{common_steps}
use Rattle.ak_base.specs.declared.ending.RefusalKind.{RefusalKind}
use Rattle.ak_base.specs.declared.limited.Limited.{Limited}
use Rattle.ak_base.specs.declared.limited.Limited.TheVariants.{Within, Over}
use Rattle.ak_base.specs.Option.{where_true, ◌>>=◌}
use Rattle.ak_describe.specs.Pass.{Refusal, at_line, or_bad, or_limit, or_refused, then_read}
use Rattle.ak_message.specs.Message.{MessageData}
use Rattle.ak_flatten.specs.Limits.{flat_limit}
use Rattle.ak_flatten.specs.Spelling.{spelling}
use Rattle.ak_script.specs.Forms.{is_short}
use Rattle.ak_script.specs.Pass.{unless}

-- a step that gave something, and what the next one made of it
pub record Then {A B : Type 0} (o : Option A) (f : A → B) (y : B) : Type 0 where
  pub value : A
  pub is : o ≡ Some value
  pub then_is : f value ≡ y

pub bind_is : {A B : Type 0} (o : Option A) (f : A → Option B) (y : B) → o >>= f ≡ Some y → Then o f (Some y)
bind_is None f y e = absurd cc
bind_is (Some x) f y e = record { value = x; is = refl; then_is = e }

pub read_is : {A B : Type 0} (o : Option A) (f : A → Result B RefusalKind) (y : B) → or_bad o f ≡ Ok y → Then o f (Ok y)
read_is None f y e = absurd cc
read_is (Some x) f y e = record { value = x; is = refl; then_is = e }

pub record ThenWithin {A B : Type 0} (o : Limited A) (f : A → Result B RefusalKind) (y : B) : Type 0 where
  pub value : A
  pub is : o ≡ Within value
  pub then_is : f value ≡ Ok y

pub within_is : {A B : Type 0} (o : Limited A) (f : A → Result B RefusalKind) (y : B) → or_limit o f ≡ Ok y → ThenWithin o f y
within_is Over f y e = absurd cc
within_is (Within x) f y e = record { value = x; is = refl; then_is = e }

-- what a test let through
pub where_is : {A : Type 0} (test : Bool) (x y : A) → where_true test x ≡ Some y → (test ≡ true) × (x ≡ y)
where_is true x y e = (refl, cc)
where_is false x y e = absurd cc

pub kept_is : {A : Type 0} (test : Bool) (x y : A) (kind : RefusalKind) → (if test then Ok x else Err kind) ≡ Ok y → (test ≡ true) × (x ≡ y)
kept_is true x y kind e = (refl, cc)
kept_is false x y kind e = absurd cc

pub mapped_is : {A B : Type 0} (o : Option A) (f : A → B) (y : B) → option_map f o ≡ Some y → Then o f y
mapped_is None f y e = absurd cc
mapped_is (Some x) f y e = record { value = x; is = refl; then_is = cc }

-- ---- what a step that gave something tells, of those that may be refused
pub record Bound {A B E : Type 0} (r : Result A E) (f : A → Result B E) (y : B) : Type 0 where
  pub value : A
  pub is : r ≡ Ok value
  pub then_is : f value ≡ Ok y

pub bound : {A B E : Type 0} (r : Result A E) (f : A → Result B E) (y : B) → then_read r f ≡ Ok y → Bound r f y
bound (Ok x) f y e = record { value = x; is = refl; then_is = e }
bound (Err r) f y e = absurd cc

-- a step that was taken for its fault alone
pub then_is : {A B E : Type 0} (r : Result A E) (x y : B) → then_read r (λ _. Ok x) ≡ Ok y → x ≡ y
then_is (Ok a) x y e = cc
then_is (Err r) x y e = absurd cc

pub unless_is : {A : Type 0} (line : ℕ) (fault : Option RefusalKind) (x y : A) → unless line fault x ≡ Ok y → (fault ≡ None) × (x ≡ y)
unless_is line None x y e = (refl, cc)
unless_is line (Some kind) x y e = absurd cc

pub at_line_is : {A : Type 0} (line : ℕ) (r : Result A RefusalKind) (y : A) → at_line line r ≡ Ok y → r ≡ Ok y
at_line_is line (Ok x) y e = cc
at_line_is line (Err kind) y e = absurd cc

pub refused_is : {A : Type 0} (fault : Option Refusal) (x y : A) → or_refused fault x ≡ Ok y → x ≡ y
refused_is None x y e = cc
refused_is (Some r) x y e = absurd cc

-- ---- a message that is short
pub short_is : (m : MessageData) → is_short m ≡ true → length (spelling m) ≤ flat_limit
short_is m e = grind (arith, common_steps)

pub is_short_again : (m : MessageData) → length (spelling m) ≤ flat_limit → is_short m ≡ true
is_short_again m e = grind (arith, common_steps)
