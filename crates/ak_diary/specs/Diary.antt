-- The diary of a looper's thread: all that it did, turn by turn.
use Rattle.std.specs.Prelude.{◌≡◌, ◌⊎◌, List, [], ◌++◌, if◌then◌else◌}
use Rattle.ak_diary.specs.Looper.{LooperFacts, desk_list, last_quits}
use Rattle.ak_diary.specs.Step.{Step, ran_short}
use Rattle.ak_diary.specs.Turns.{IsDispatch, IsEnd, IsTake}

-- a turn of its work
abbrev pub IsTurn : LooperFacts → List Step → List Step → Type 0
IsTurn l so_far turn = IsTake l so_far turn ⊎ IsDispatch l so_far turn

-- its work so far: turn after turn
pub data Works (l : LooperFacts) : List Step → Type 0 where
  begun : Works l []
  went_on : (so_far turn : List Step) → Works l so_far → IsTurn l so_far turn → Works l (so_far ++ turn)

-- its whole diary: its work, and its end
pub record IsDiary (l : LooperFacts) (steps : List Step) : Type 0 where
  pub work : List Step
  pub works : Works l work
  pub end : List Step
  pub ends : IsEnd l work end
  pub is : steps ≡ work ++ end

-- how it ended: it found no memory; or its last dispatch has the quit mark; or else its team was closed
pub data Ending : Type 0 where
  without_memory : Ending
  by_quit : Ending
  by_team : Ending

abbrev pub ending_of : LooperFacts → List Step → Ending
ending_of l steps = if ran_short steps then without_memory else (if last_quits (desk_list l steps) then by_quit else by_team)
