-- What all threads of a run share.
use Rattle.std.specs.Prelude.{◌≡◌}
use Rattle.std.specs.Arc.{arc_value}
use Rattle.ak_looper.specs.declared.shared.Shared.{Shared}

-- the same reply book and the same roster
pub record AreSame (shared other : Shared) : Type 0 where
  pub book : arc_value shared.book ≡ arc_value other.book
  pub roster : arc_value shared.roster ≡ arc_value other.roster
