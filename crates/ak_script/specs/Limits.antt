-- The limits of a script.
use Rattle.std.specs.Prelude.{ℕ}

-- the most lines that say statements, those of sessions too
abbrev pub statement_limit : ℕ
statement_limit = 8000

-- the most sessions of a block
abbrev pub session_limit : ℕ
session_limit = 8
