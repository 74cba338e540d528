-- The limit of flat texts.
use Rattle.std.specs.Prelude.{ℕ}

-- the longest flat text, in bytes
abbrev pub flat_limit : ℕ
flat_limit = 4096
