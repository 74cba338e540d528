-- The entry by which a looper's team was started.
use Rattle.std.specs.Prelude.{◌≡◌, ℕ}
use Rattle.ak_roster.specs.declared.entry.EntryWithObjects.{EntryWithObjects}
use Rattle.ak_diary.specs.Looper.{LooperFacts}
use Rattle.ak_looper.specs.Rosters.{Object}
use Rattle.ak_looper.specs.Stands.{StartsTeam}

-- by an entry with that stamp its team was started
abbrev pub StartsAt : LooperFacts → ℕ → EntryWithObjects Object → Type 0
StartsAt l time entry = StartsTeam l entry × (entry.plain.stamp ≡ time)
