-- The limit of a port that no other layer has.
use Rattle.std.specs.Prelude.{ℕ}

-- the most items that a port accepts in all
abbrev pub life_limit : ℕ
life_limit = 8192
