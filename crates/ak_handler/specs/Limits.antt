-- The limit of handlers.
use Rattle.std.specs.Prelude.{ℕ}

-- the most handlers of a looper, itself counted
abbrev pub handler_limit : ℕ
handler_limit = 64
