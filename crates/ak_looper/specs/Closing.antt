-- What a closing asks of the looper.
use Rattle.std.specs.Prelude.{◌≡◌, ◌+◌, ◌<◌, ◌≤◌, ℕ}
use Rattle.ak_looper.specs.declared.reach.Reach.{Reach}

-- the looper is of an application's own looper's team
pub record IsOfItsTeam (looper : ℕ) (r : Reach) : Type 0 where
  pub own : r.number ≡ r.first
  pub from : r.first ≤ looper
  pub below : looper < r.first + r.loopers
