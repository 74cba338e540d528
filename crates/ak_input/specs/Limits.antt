-- The limit of an input.
use Rattle.std.specs.Prelude.{ℕ}

-- the longest input, in bytes
abbrev pub input_limit : ℕ
input_limit = 1048576
