-- Who acts in a run, by its number.
use Rattle.std.specs.Prelude.{ℕ, ◌+◌}

-- main, which launches
abbrev pub main_thread : ℕ
main_thread = 0

-- the looper of a number
abbrev pub looper_thread : ℕ → ℕ
looper_thread number = 10000 + number

-- the keeper of the roster's doors
abbrev pub keeper_thread : ℕ
keeper_thread = 20000
