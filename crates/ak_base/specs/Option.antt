-- Steps that may give nothing.
use Rattle.std.specs.Prelude.{Bool, Option, Some, None, option_and_then, if◌then◌else◌}

-- one step behind another
infixl 10 ◌>>=◌
abbrev pub ◌>>=◌ : {A B : Type 0} → Option A → (A → Option B) → Option B
o >>= f = option_and_then f o

-- x, where the test passed
abbrev pub where_true : {A : Type 0} → Bool → A → Option A
where_true test x = if test then Some x else None
