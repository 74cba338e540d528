-- The limits of a run.
use Rattle.std.specs.Prelude.{ℕ}

-- the most launches that start in a run
abbrev pub team_limit : ℕ
team_limit = 16

-- the most applications that are described
abbrev pub app_limit : ℕ
app_limit = 16
