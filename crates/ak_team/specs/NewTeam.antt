-- The loopers of a team that is about to start.
use Rattle.std.specs.Prelude.{◌≡◌, ℕ, suc, ◌+◌, List, [], ◌∷◌, Some, slice_get}
use Rattle.ak_action.specs.declared.plan.PlanParts.{PlanParts}
use Rattle.ak_describe.specs.declared.described.AppText.{AppText}
use Rattle.ak_looper.specs.declared.door.Door.{Door}
use Rattle.ak_looper.specs.declared.kept_door.KeptDoor.{KeptDoor}
use Rattle.ak_team.specs.declared.new_looper.NewLooper.{NewLooper}
use Rattle.ak_looper.specs.declared.shared.Shared.{Shared}
use Rattle.ak_team.specs.declared.new_team.NewTeam.{NewTeam}
use Rattle.ak_team.specs.NewLooper.{IsKept, IsNewLooper, IsWay, other_threads, own_threads}

-- these plans are those of the application at that place
pub record IsOneOf (apps : List AppText) (description : ℕ) (plans : List PlanParts) : Type 0 where
  pub app : AppText
  pub there : slice_get apps description ≡ Some app
  pub plans_are : plans ≡ app.loopers

module _ (plans : List PlanParts) (team first : ℕ) (shared : Shared) where
  -- a looper beside the own one, with the own one's door to it and the keeper's
  pub record IsOther (k : ℕ) (n : NewLooper) (way : ℕ × Door) (kept : KeptDoor) : Type 0 where
    pub looper : IsNewLooper plans team first shared k n
    pub way_number : way.0 ≡ first + k
    pub way_is : IsWay first n way.1
    pub kept_is : IsKept (other_threads first k) n kept

  -- those from a place on, in order
  abbrev pub AreOthers : ℕ → List NewLooper → List (ℕ × Door) → List KeptDoor → Type 0
  AreOthers k [] [] [] = Unit {0}
  AreOthers k (n ∷ ns) (way ∷ ways) (kept ∷ keeps) = IsOther k n way kept × AreOthers (suc k) ns ways keeps
  AreOthers k _ _ _ = ⊥

  -- the own looper and the others, with the doors that the roster is to keep
  pub record IsNewTeam (t : NewTeam) (kept : List KeptDoor) : Type 0 where
    pub own : IsNewLooper plans team first shared 0 t.own
    pub own_kept : KeptDoor
    pub rest : List KeptDoor
    pub kept_are : kept ≡ own_kept ∷ rest
    pub own_kept_is : IsKept (own_threads first) t.own own_kept
    pub others : AreOthers 1 t.others.items t.ways.items rest
