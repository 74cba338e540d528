-- What holds of the lines of all legible entries.
use Rattle.std.specs.Prelude.{◌≡◌, ℕ, ◌==◌, count_by}
use Rattle.ak_journal.specs.declared.entry.Entry.{Entry}
use Rattle.ak_journal.specs.Line.{entry_line}
use Rattle.ak_journal.specs.Legible.{IsLegible}

-- no two legible entries have one line
abbrev pub LinesTellEntries : Type 0
LinesTellEntries = (d e : Entry) → IsLegible d → IsLegible e → entry_line d ≡ entry_line e → d ≡ e

-- in a line no line end is
abbrev pub EntriesAreLines : Type 0
EntriesAreLines = (e : Entry) → IsLegible e → count_by (λ (b : ℕ). b == 10) (entry_line e) ≡ 0
