-- The words of what was done at the roster.
use Rattle.std.specs.Prelude.{ℕ, List, [], ◌∷◌, codes}
use Rattle.std.specs.Fmt.{decimal}
use Rattle.ak_roster.specs.declared.entry.FindOutcome.{FindOutcome}
use Rattle.ak_roster.specs.declared.entry.FindOutcome.TheVariants as find
use Rattle.ak_roster.specs.declared.entry.LaunchOutcome.{LaunchOutcome}
use Rattle.ak_roster.specs.declared.entry.LaunchOutcome.TheVariants as launch
use Rattle.ak_roster.specs.declared.entry.RosterEvent.{RosterEvent}
use Rattle.ak_roster.specs.declared.entry.RosterEvent.TheVariants as event
use Rattle.ak_journal.specs.Parts.{word_text}

abbrev pub launch_words : LaunchOutcome → List (List ℕ)
launch_words (launch.Started description team first) = codes "started" ∷ decimal description ∷ decimal team ∷ decimal first ∷ []
launch_words (launch.AlreadyRunning team) = codes "running" ∷ decimal team ∷ []
launch_words launch.NotFound = codes "not-found" ∷ []
launch_words launch.Limit = codes "limit" ∷ []

abbrev pub find_words : FindOutcome → List (List ℕ)
find_words (find.Team team) = codes "team" ∷ decimal team ∷ []
find_words find.NoTeam = codes "no-team" ∷ []

abbrev pub roster_words : RosterEvent → List (List ℕ)
roster_words (event.Launch word outcome) = codes "launch" ∷ word_text word ∷ launch_words outcome
roster_words (event.Find word outcome) = codes "find" ∷ word_text word ∷ find_words outcome
roster_words (event.Gone team) = codes "gone" ∷ decimal team ∷ []
roster_words (event.Door looper) = codes "door" ∷ decimal looper ∷ []
