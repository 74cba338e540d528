-- What is gathered of the statements that were carried out.
use Rattle.std.specs.Prelude.{◌≤◌, ◌+◌, ℕ, List, [], ◌∷◌, ◌++◌, length, Option, vec_capacity, if◌then◌else◌}
use Rattle.ak_print.specs.declared.told.Told.{Told}
use Rattle.ak_lines.specs.declared.came.Came.{Came}
use Rattle.ak_lines.specs.declared.outcome.Outcome.{Outcome}
use Rattle.ak_block.specs.Carried.{SessionPart}
use Rattle.ak_play.specs.declared.gathered.Gathered.{Gathered}
use Rattle.ak_play.specs.Parts.{Part, all_outcomes, all_short, all_tolds, session_outcomes, session_tolds, short_in}
use Rattle.ak_play.specs.Play.{cut_outcomes, cut_short, cut_tolds}

-- the outcomes, what is told of each, and the numbers of the sessions that found no memory
pub record GatheredData : Type 0 where
  pub outcomes : List Outcome
  pub tolds : List Told
  pub short : List ℕ

abbrev pub gathered_seen : Gathered → GatheredData
gathered_seen g = record { outcomes = g.outcomes.items; tolds = g.tolds.items; short = g.short.items }

abbrev pub nothing_gathered : GatheredData
nothing_gathered = record { outcomes = []; tolds = []; short = [] }

-- more, behind what there was
abbrev pub gathered_and : GatheredData → GatheredData → GatheredData
gathered_and g more = record { outcomes = g.outcomes ++ more.outcomes; tolds = g.tolds ++ more.tolds; short = g.short ++ more.short }

-- what a statement of main's came to
abbrev pub of_came : Came → GatheredData
of_came came = record { outcomes = came.outcome ∷ []; tolds = came.told ∷ []; short = [] }

-- what the session of that number came to
abbrev pub of_session : ℕ → SessionPart → GatheredData
of_session number part = record { outcomes = part.outcomes; tolds = part.tolds; short = if part.short then number ∷ [] else [] }

-- what sessions came to that are numbered from that one on
abbrev pub of_sessions : ℕ → List SessionPart → GatheredData
of_sessions from parts = record { outcomes = session_outcomes parts; tolds = session_tolds parts; short = short_in from parts }

-- of one part, of all, and of the block that was cut
abbrev pub of_part : Part → GatheredData
of_part part = record { outcomes = part.outcomes; tolds = part.tolds; short = part.short }

abbrev pub of_parts : List Part → GatheredData
of_parts parts = record { outcomes = all_outcomes parts; tolds = all_tolds parts; short = all_short parts }

abbrev pub of_cut : Option Part → GatheredData
of_cut cut = record { outcomes = cut_outcomes cut; tolds = cut_tolds cut; short = cut_short cut }

-- ---- room
-- there is room for so many lines more
pub record HasRoom (lines : ℕ) (g : Gathered) : Type 0 where
  pub outcomes : length g.outcomes.items + lines ≤ vec_capacity g.outcomes
  pub tolds : length g.tolds.items + lines ≤ vec_capacity g.tolds

-- for so many outcomes, as many lines as are told, and so many numbers
pub record HasRoomFor (more lines numbers : ℕ) (g : Gathered) : Type 0 where
  pub outcomes : length g.outcomes.items + more ≤ vec_capacity g.outcomes
  pub tolds : length g.tolds.items + lines ≤ vec_capacity g.tolds
  pub short : length g.short.items + numbers ≤ vec_capacity g.short

-- lines have as much room as before
pub record KeepsRoom (g g' : Gathered) : Type 0 where
  pub outcomes : vec_capacity g.outcomes ≤ vec_capacity g'.outcomes
  pub tolds : vec_capacity g.tolds ≤ vec_capacity g'.tolds
