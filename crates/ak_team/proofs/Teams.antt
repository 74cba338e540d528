-- Loopers of a team, one after another.
use Rattle.std.proofs.Common.{◌≡◌, ◌≢◌, ℕ, ◌+◌, ◌<◌, suc, List, [], ◌∷◌, ◌++◌, length, subst, arith}
use Rattle.ak_base.specs.Limits.{looper_limit}
use Rattle.ak_base.specs.Thread.{keeper_thread, main_thread, looper_thread}
use Rattle.ak_action.specs.declared.plan.PlanParts.{PlanParts}
use Rattle.ak_looper.specs.declared.door.Door.{Door}
use Rattle.ak_looper.specs.declared.kept_door.KeptDoor.{KeptDoor}
use Rattle.ak_team.specs.declared.new_looper.NewLooper.{NewLooper}
use Rattle.ak_looper.specs.declared.shared.Shared.{Shared}
use Rattle.ak_team.specs.declared.opening.Opened.{Opened}
use Rattle.ak_team.specs.NewTeam.{AreOthers, IsOther}
use Rattle.ak_team.specs.Opening.{AreOpened, IsOpenedAt}

module _ (plans : List PlanParts) (team first : ℕ) where
  -- one more
  pub opened_push : (k n : ℕ) (os : List Opened) (o : Opened) → AreOpened plans team first k os → n ≡ k + length os → IsOpenedAt plans team first n o → AreOpened plans team first k (os ++ o ∷ [])
  opened_push k n [] o opened at here = (subst (λ m. IsOpenedAt plans team first m o) (omega (arith, at)) here, tt)
  opened_push k n (x ∷ xs) o opened at here = (opened.0, opened_push (suc k) n xs o opened.1 (omega (arith, at)) here)

  module _ (shared : Shared) where
    pub others_push : (k i : ℕ) (ns : List NewLooper) (ways : List (ℕ × Door)) (keeps : List KeptDoor) (n : NewLooper) (way : ℕ × Door) (kept : KeptDoor)
        → AreOthers plans team first shared k ns ways keeps → i ≡ k + length ns → IsOther plans team first shared i n way kept → AreOthers plans team first shared k (ns ++ n ∷ []) (ways ++ way ∷ []) (keeps ++ kept ∷ [])
    others_push k i [] [] [] n way kept others at here = (subst (λ m. IsOther plans team first shared m n way kept) (omega (arith, at)) here, tt)
    others_push k i (x ∷ xs) (w ∷ ws) (d ∷ ds) n way kept others at here = (others.0, others_push (suc k) i xs ws ds n way kept others.1 (omega (arith, at)) here)
    others_push k i [] [] (d ∷ ds) n way kept others at here = absurd others
    others_push k i [] (w ∷ ws) ds n way kept others at here = absurd others
    others_push k i (x ∷ xs) [] ds n way kept others at here = absurd others
    others_push k i (x ∷ xs) (w ∷ ws) [] n way kept others at here = absurd others

-- ---- names
-- looper's threads, main and the keeper differ
pub main_is_none : (number : ℕ) → main_thread ≢ looper_thread number
main_is_none number = λ same. omega (arith, same)

pub keeper_is_none : (number : ℕ) → number < looper_limit → looper_thread number ≢ keeper_thread
keeper_is_none number low = λ same. omega (arith, same, low)

pub loopers_differ : (a b : ℕ) → a ≢ b → looper_thread a ≢ looper_thread b
loopers_differ a b differ = λ same. differ (omega (arith, same))
