-- The limits of elements.
use Rattle.std.specs.Prelude.{ℕ}

-- the most elements of a property
abbrev pub element_limit : ℕ
element_limit = 64

-- no id reaches it
abbrev pub id_limit : ℕ
id_limit = 2147483647
