-- What was done at the roster is read of its words.
use Rattle.std.proofs.Common.{◌≡◌, Some, refl}
use Rattle.ak_roster.specs.declared.entry.FindOutcome.{FindOutcome}
use Rattle.ak_roster.specs.declared.entry.FindOutcome.TheVariants as find
use Rattle.ak_roster.specs.declared.entry.LaunchOutcome.{LaunchOutcome}
use Rattle.ak_roster.specs.declared.entry.LaunchOutcome.TheVariants as launch
use Rattle.ak_roster.specs.declared.entry.RosterEvent.{RosterEvent}
use Rattle.ak_roster.specs.declared.entry.RosterEvent.TheVariants as event
use Rattle.ak_journal.specs.Legible.{FitsFind, FitsLaunch, IsLegibleRoster}
use Rattle.ak_journal.specs.ReadRoster.{find_outcome, launch_outcome, roster_event}
use Rattle.ak_journal.specs.RosterLine.{find_words, launch_words, roster_words}
use Rattle.ak_journal.proofs.Named.{launched_read, looked_up_read}
use Rattle.ak_journal.proofs.Numbers.{u32_again}

launch_again : (outcome : LaunchOutcome) → FitsLaunch outcome → launch_outcome (launch_words outcome) ≡ Some outcome
launch_again (launch.Started description team first) fits = rw (u32_again description fits.0, u32_again team fits.1, u32_again first fits.2) refl
launch_again (launch.AlreadyRunning team) fits = rw (u32_again team fits) refl
launch_again launch.NotFound fits = refl
launch_again launch.Limit fits = refl

find_again : (outcome : FindOutcome) → FitsFind outcome → find_outcome (find_words outcome) ≡ Some outcome
find_again (find.Team team) fits = rw (u32_again team fits) refl
find_again find.NoTeam fits = refl

pub roster_again : (what : RosterEvent) → IsLegibleRoster what → roster_event (roster_words what) ≡ Some what
roster_again (event.Launch word outcome) legible = rw (launched_read word legible.0, launch_again outcome legible.1) refl
roster_again (event.Find word outcome) legible = rw (looked_up_read word legible.0, find_again outcome legible.1) refl
roster_again (event.Gone team) legible = rw (u32_again team legible) refl
roster_again (event.Door looper) legible = rw (u32_again looper legible) refl
