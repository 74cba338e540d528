-- The limits of messages.
use Rattle.std.specs.Prelude.{ℕ}

-- the most fields of a message
abbrev pub field_limit : ℕ
field_limit = 64

-- the most values of a field
abbrev pub value_limit : ℕ
value_limit = 255

-- how many messages may stand in one another, the outer one counted
abbrev pub depth_limit : ℕ
depth_limit = 16
