-- The session that has begun, as the code holds it and as contracts see it.
use Rattle.std.proofs.Common.{◌≡◌, ◌≤◌, ◌<◌, ◌+◌, ℕ, true, false, List, [], ◌∷◌, length, Option, Some, None, is_some, refl, arith}
use Rattle.std.specs.Prelude.{Vec}
use Rattle.std.specs.declared.alloc.Global.{Global}
use Rattle.std.proofs.lemmas.Grind.{common_steps}
use Rattle.std.proofs.lemmas.List.{length-append, length-map}
use Rattle.ak_script.specs.declared.statement.SessionLine.{SessionLine}
use Rattle.ak_script.specs.declared.statement.SessionLines.{SessionLines}
use Rattle.ak_script.specs.Blocks.{Block, with_begun, closed, count_begun, is_bare, has_line, session_fault, end_fault}
use Rattle.ak_script.specs.Limits.{session_limit}
use Rattle.ak_script.specs.Seen.{begun_seen}
use Rattle.ak_script.specs.StatementSeen.{lines_seen, session_seen, sessions_seen}
use Rattle.ak_script.proofs.Counting.{may_begin, may_end}

-- contracts see it where the code holds one
pub begun_there : (o : Option (Vec SessionLine Global)) → is_some (begun_seen o) ≡ is_some o
begun_there None = refl
begun_there (Some lines) = refl

-- it has a line, where it is not bare
pub lines_there : (lines : List SessionLine) → is_bare (Some (lines_seen lines)) ≡ false → 1 ≤ length lines
lines_there [] e = absurd cc
lines_there (x ∷ lines) e = grind (arith, common_steps)

pub not_bare_there : (o : Option (Vec SessionLine Global)) → has_line (begun_seen o) ≡ true → is_bare (begun_seen o) ≡ false
not_bare_there None e = refl
not_bare_there (Some lines) e = by_lines lines.items e where
  by_lines : (xs : List SessionLine) → has_line (Some (lines_seen xs)) ≡ true → is_bare (Some (lines_seen xs)) ≡ false
  by_lines [] f = absurd cc
  by_lines (x ∷ xs) f = refl

pub one_begun : (o : Option (Vec SessionLine Global)) → has_line (begun_seen o) ≡ true → count_begun o ≡ 1
one_begun None e = absurd cc
one_begun (Some lines) e = refl

-- how many sessions there are
pub as_many : (sessions : List SessionLines) (o : Option (Vec SessionLine Global)) → length (with_begun (sessions_seen sessions) (begun_seen o)) ≡ length sessions + count_begun o
as_many sessions None = omega (arith, length-map sessions session_seen)
as_many sessions (Some lines) = omega (arith, length-map sessions session_seen, length-append (sessions_seen sessions) (record { lines = lines_seen lines.items } ∷ []))

-- ---- what the lines that begin and end it stand behind
pub begins_behind_a_line : (b : Block) (words : List (List ℕ)) → session_fault b words ≡ None → is_bare b.begun ≡ false
begins_behind_a_line b words e = (may_begin b words e).line

pub begins_with_room : (b : Block) (words : List (List ℕ)) → session_fault b words ≡ None → length (closed b) < session_limit
begins_with_room b words e = (may_begin b words e).room

pub ends_behind_a_line : (b : Block) (words : List (List ℕ)) → end_fault b words ≡ None → has_line b.begun ≡ true
ends_behind_a_line b words e = (may_end b words e).line
