-- The limits of properties and of what is told of them.
use Rattle.std.specs.Prelude.{ℕ}

-- the most rows of a table
abbrev pub row_limit : ℕ
row_limit = 64

-- the most suites that a reply tells
abbrev pub told_suite_limit : ℕ
told_suite_limit = 19
