-- The limit of filters.
use Rattle.std.specs.Prelude.{ℕ}

-- the most filters of a list
abbrev pub filter_limit : ℕ
filter_limit = 32
