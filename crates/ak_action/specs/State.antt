-- The state of a looper's handlers, and what is found in it.
use Rattle.std.specs.Prelude.{ℕ, ◌+◌, List, Option, option_map}
use Rattle.std.specs.List.{position}
use Rattle.std.specs.Str.{bytes_eq}
use Rattle.ak_action.specs.declared.state.DeskState.{DeskState}

-- the number of the application's looper of that name
abbrev pub looper_named : DeskState → List ℕ → Option ℕ
looper_named s name = option_map (λ place. s.first + place) (position (λ looper. bytes_eq looper name) s.names)
