-- What a script can say, and what the loopers of its applications can do, makes plain entries alone.
use Rattle.std.specs.Prelude.{◌≡◌, ℕ, List, All, Option}
use Rattle.ak_base.specs.declared.ending.Ending.{Ending}
use Rattle.ak_outside.specs.Calls.{Calls}
use Rattle.ak_outside.specs.Faults.{Rose}
use Rattle.ak_describe.specs.declared.described.AppText.{AppText}
use Rattle.ak_describe.specs.Whole.{AreWholeApps}
use Rattle.ak_script.specs.declared.statement.Statement.{Statement}
use Rattle.ak_diary.specs.declared.histories.Histories.{Histories}
use Rattle.ak_journal.specs.declared.entry.Entry.{Entry}
use Rattle.ak_world.specs.Merged.{IsMerged, entries_of}
use Rattle.ak_run.specs.Opened.{WereOpened}
use Rattle.ak_play.specs.declared.run_end.RunEnd.{RunEnd}
use Rattle.ak_play.specs.Play.{IsPlay}
use Rattle.ak_journal.specs.Plain.{IsPlain}

-- of statements that were carried out so, at whole applications
abbrev pub EntriesArePlain : Type 0
EntriesArePlain =
    (apps : List AppText) (statements : List Statement) (end : Ending) (run : RunEnd) (old new : Option (List ℕ)) (faults faults' : ℕ) (calls calls' : Option Calls)
    → AreWholeApps apps
    → WereOpened apps run.histories
    → IsPlay apps statements end run old new (Rose faults faults') (faults' ≡ faults) calls calls'
    → All IsPlain (entries_of run.histories)

-- where the entries of a run are plain, so are those of the list by their stamps
abbrev pub MergedIsPlain : Type 0
MergedIsPlain = (h : Histories) (entries : List Entry) → IsMerged h entries → All IsPlain (entries_of h) → All IsPlain entries
