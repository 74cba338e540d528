-- What a look-up finds in main's turn at the roster.
use Rattle.std.specs.Prelude.{◌≡◌, ◌+◌, ◌≤◌, ℕ, length, None, Some}
use Rattle.ak_base.specs.declared.app_word.AppWord.{AppWord}
use Rattle.ak_roster.specs.declared.answer.FindAnswer.{FindAnswer}
use Rattle.ak_roster.specs.declared.answer.FindAnswer.TheVariants as answer
use Rattle.ak_roster.specs.declared.entry.RosterEvent.TheVariants as event
use Rattle.ak_roster.specs.Heads.{team_for}
use Rattle.ak_roster.specs.Machine.{outcome_found}
use Rattle.ak_roster.specs.Roster.{state}
use Rattle.ak_team.specs.Launching.{Book, HasEntered}

-- by one entry that team was found, whose loopers were started, or none
abbrev pub LooksUp : AppWord → FindAnswer → Book → Book → Type 0
LooksUp word (answer.Team team first loopers) book book' =
    (description : ℕ)
    × (team_for book.heads (state book).running word ≡ Some (record { team = team; description = description; first = first; loopers = loopers }))
    × HasEntered (Some (event.Find word (outcome_found (Some (record { team = team; description = description; first = first; loopers = loopers }))))) 0 book book'
    × (1 ≤ loopers) × (first + loopers ≤ length (state book).loopers)
LooksUp word answer.NoTeam book book' = (team_for book.heads (state book).running word ≡ None) × HasEntered (Some (event.Find word (outcome_found None))) 0 book book'
LooksUp word answer.NoMemory book book' = HasEntered None 0 book book'
