-- The numbers of descriptions that no other layer has.
use Rattle.std.specs.Prelude.{ℕ}

-- the capacity of a looper of which none is told
abbrev pub usual_capacity : ℕ
usual_capacity = 100

-- the greatest number of a form
abbrev pub form_limit : ℕ
form_limit = 7
