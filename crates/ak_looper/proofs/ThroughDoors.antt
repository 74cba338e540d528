-- What a message asks for is done through a door, which the thread has, or gets before that; or there is no memory for the door.
use Rattle.std.proofs.Common.{ℕ, List, [], ◌++◌, refl, inl, inr}
use Rattle.ak_action.specs.declared.answer.Answer.{Answer}
use Rattle.ak_action.specs.declared.answer.Answer.TheVariants as answer
use Rattle.ak_diary.specs.Looper.{LooperFacts}
use Rattle.ak_diary.specs.Step.{Step}
use Rattle.ak_diary.specs.Wants.{LacksDoor, Opens, Through, ThroughDoor}
use Rattle.ak_looper.specs.declared.reach.Reach.{Reach}
use Rattle.ak_looper.specs.Stands.{GoesOn, Stands}
use Rattle.ak_looper.proofs.Going.{goes_further, stays, tells}

module _ (l : LooperFacts) (so_far : List Step) (looper : ℕ) (P : List Step → Type 0) where
  -- whatever the answer
  through_door : (a : Answer) (steps : List Step) → Through l so_far looper P steps → ThroughDoor l so_far looper a P steps
  through_door answer.NoMemory steps through = inr through
  through_door a steps through = through

  module _ (start : ℕ) (r' : Reach) where
    -- the door is there, and then it is done
    pub by_door : (a : Answer) (middle : Reach) → GoesOn l start so_far (Opens l so_far looper) middle → ((now : List Step) → Stands l start now middle → GoesOn l start now P r') → GoesOn l start so_far (ThroughDoor l so_far looper a P) r'
    by_door a middle opened done =
        goes_further l start so_far P (ThroughDoor l so_far looper a P) opened.steps r'
        (λ rest does. through_door a (opened.steps ++ rest) (record { door = opened.steps; opens = opened.does; rest = rest; then_does = does; is = refl }))
        (done (so_far ++ opened.steps) opened.stands)

    -- the door is there, and nothing more is done
    pub by_door_alone : (a : Answer) → P [] → GoesOn l start so_far (Opens l so_far looper) r' → GoesOn l start so_far (ThroughDoor l so_far looper a P) r'
    by_door_alone a does opened = by_door a r' opened (λ now stands. stays l start now P r' stands does)

    -- no memory for the door
    pub without_door : GoesOn l start so_far (LacksDoor l so_far looper) r' → GoesOn l start so_far (ThroughDoor l so_far looper answer.NoMemory P) r'
    without_door lacked = tells l start so_far (LacksDoor l so_far looper) (ThroughDoor l so_far looper answer.NoMemory P) r' (λ steps lacks. inl lacks) lacked
