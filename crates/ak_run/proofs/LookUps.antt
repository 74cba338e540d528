-- A team that is looked for in main's turn at the roster.
use Rattle.std.proofs.Common.{◌≡◌, ℕ, ◌+◌, ◌≤◌, List, [], ◌∷◌, ◌++◌, length, length-append, Option, None, Some, refl, sym, ap, ◌∙◌, subst, arith}
use Rattle.ak_base.specs.Thread.{main_thread}
use Rattle.ak_base.specs.declared.app_word.AppWord.{AppWord}
use Rattle.ak_turn.specs.declared.clock.Clock.{Clock}
use Rattle.ak_roster.specs.declared.answer.FindAnswer.{FindAnswer}
use Rattle.ak_roster.specs.declared.answer.FindAnswer.TheVariants as answer
use Rattle.ak_roster.specs.declared.entry.EntryWithObjects.{EntryWithObjects}
use Rattle.ak_roster.specs.declared.entry.RosterEvent.{RosterEvent}
use Rattle.ak_roster.specs.declared.entry.RosterEvent.TheVariants as event
use Rattle.ak_roster.specs.declared.team.Running.{Running}
use Rattle.ak_roster.specs.Answers.{OnFound, UnlessFound, answer_of}
use Rattle.ak_roster.specs.Heads.{IsHeads, team_fits, team_for}
use Rattle.ak_roster.specs.Machine.{IsHistory, find_of, outcome_found}
use Rattle.ak_roster.specs.Roster.{Enters, Stays, plain_entries, state}
use Rattle.ak_looper.specs.Rosters.{Object}
use Rattle.ak_session.specs.declared.answers.Found.{Found}
use Rattle.ak_run.specs.Doing.{IsStartedTeam}
use Rattle.ak_run.specs.Finding.{LooksUp}
use Rattle.ak_session.specs.Calls.{IsEntered, IsFoundAt}
use Rattle.ak_team.specs.Launching.{Book, HasEntered, IsTurnInTime}
use Rattle.ak_team.proofs.Surface.{all_started, none_entered, none_in_time, one_entered, one_in_time, some_started}
use Rattle.ak_run.proofs.Recorded.{one_event}

-- whatever is found, main entered one entry or none
pub looks_entered : (word : AppWord) (a : FindAnswer) (book book' : Book) → LooksUp word a book book' → (what : Option RosterEvent) × HasEntered what 0 book book'
looks_entered word (answer.Team team first loopers) book book' looks =
    (Some (event.Find word (outcome_found (Some (record { team = team; description = looks.0; first = first; loopers = loopers })))), looks.2)
looks_entered word answer.NoTeam book book' looks = (Some (event.Find word (outcome_found None)), looks.1)
looks_entered word answer.NoMemory book book' looks = (None, looks)

-- where one was entered there is a last one
one_there : (what : RosterEvent) (book book' : Book) → HasEntered (Some what) 0 book book' → 1 ≤ length book'.entries
one_there what book book' entered =
    let x = one_event what entered.added entered.events in
    omega (arith, ap (λ (l : List (EntryWithObjects Object)). length l) (entered.entries ∙ ap (λ l. book.entries ++ l) x.1), length-append book.entries (x.0 ∷ []))

pub last_there : (word : AppWord) (a : FindAnswer) (book book' : Book) → LooksUp word a book book' → IsEntered a → 1 ≤ length book'.entries
last_there word (answer.Team team first loopers) book book' looks is = one_there (event.Find word (outcome_found (Some (record { team = team; description = looks.0; first = first; loopers = loopers })))) book book' looks.2
last_there word answer.NoTeam book book' looks is = one_there (event.Find word (outcome_found None)) book book' looks.1
last_there word answer.NoMemory book book' looks is = absurd is

-- the machine's answer is what was found, and the loopers of a team that was found were started
module _ (book book' : Book) (clock clock' : Clock) (main : clock.thread.0 ≡ main_thread) (word : AppWord) (heads : IsHeads book.heads) (history : IsHistory book.heads (plain_entries book.entries)) where
  abbrev sought : Option Running
  sought = team_for book.heads (state book).running word

  abbrev HasFound : Type 0
  HasFound = Enters (event.Find word (find_of book.heads (state book) word)) [] book.doors book book' clock clock'

  entered_so : (found : Option Running) → sought ≡ found → HasFound → HasEntered (Some (event.Find word (outcome_found found))) 0 book book'
  entered_so found is enters =
      subst (λ (o : Option Running). HasEntered (Some (event.Find word (outcome_found o))) 0 book book') is
      (one_entered book book' clock clock' 0 (event.Find word (find_of book.heads (state book) word)) [] book.doors tt main enters refl)

  team_so : (team first loopers : ℕ) (found : Option Running) → sought ≡ found → answer.Team team first loopers ≡ answer_of found → HasFound → LooksUp word (answer.Team team first loopers) book book'
  team_so team first loopers None is told enters = absurd cc
  team_so team first loopers (Some x) is told enters =
      subst (λ (a : FindAnswer). LooksUp word a book book') (sym told)
      (x.description, is, entered_so (Some x) is enters, some_started book.heads (plain_entries book.entries) (team_fits book.heads word) x heads history (sym is), all_started book.heads (plain_entries book.entries) (team_fits book.heads word) x heads history (sym is))

  none_so : (found : Option Running) → sought ≡ found → answer.NoTeam ≡ answer_of found → HasFound → LooksUp word answer.NoTeam book book'
  none_so None is told enters = (is, entered_so None is enters)
  none_so (Some x) is told enters = absurd cc

  pub looks_so : (a : FindAnswer) → OnFound a (a ≡ answer_of sought) → OnFound a HasFound → UnlessFound a (Stays book book' clock clock') → LooksUp word a book book'
  looks_so (answer.Team team first loopers) told enters stays = team_so team first loopers sought refl told enters
  looks_so answer.NoTeam told enters stays = none_so sought refl told enters
  looks_so answer.NoMemory told enters stays = none_entered book book' clock clock' stays

  -- in time
  pub looks_in_time : (a : FindAnswer) → OnFound a HasFound → UnlessFound a (Stays book book' clock clock') → IsTurnInTime clock.time clock'.time book book'
  looks_in_time (answer.Team team first loopers) enters stays = one_in_time book book' clock clock' (event.Find word (find_of book.heads (state book) word)) [] book.doors enters
  looks_in_time answer.NoTeam enters stays = one_in_time book book' clock clock' (event.Find word (find_of book.heads (state book) word)) [] book.doors enters
  looks_in_time answer.NoMemory enters stays = none_in_time book book' clock clock' stays

-- so they are among as many
pub found_started : (word : AppWord) (a : FindAnswer) (book book' : Book) (many seen : ℕ) (result : Found) → length (state book).loopers ≡ many → LooksUp word a book book' → IsFoundAt a seen result → IsStartedTeam many result
found_started word (answer.Team team first loopers) book book' many seen result count looks at =
    subst (IsStartedTeam many) (sym at.1) (looks.3, subst (λ (n : ℕ). first + loopers ≤ n) count looks.4)
found_started word answer.NoTeam book book' many seen result count looks at = subst (IsStartedTeam many) (sym at.1) tt
found_started word answer.NoMemory book book' many seen result count looks at = subst (IsStartedTeam many) (sym at) tt
