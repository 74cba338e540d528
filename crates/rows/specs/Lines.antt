-- The lines of a file.
use Rattle.std.specs.Prelude.{ℕ, ◌+◌, ◌==◌, if◌then◌else◌, List, [], ◌∷◌}
use Rattle.rows.specs.declared.lines.FileLine.{FileLine}

-- the byte stands before the first of these lines
abbrev pub with_byte : ℕ → List (List ℕ) → List (List ℕ)
with_byte b [] = (b ∷ []) ∷ []
with_byte b (line ∷ lines) = (b ∷ line) ∷ lines

-- a LF ends a line; what stands behind the last one is a line too, unless it is empty
abbrev pub lines_of : List ℕ → List (List ℕ)
lines_of [] = []
lines_of (b ∷ rest) = if b == 10 then [] ∷ lines_of rest else with_byte b (lines_of rest)

-- each with its number, from that one on
abbrev pub numbered : ℕ → List (List ℕ) → List (ℕ × List ℕ)
numbered n [] = []
numbered n (line ∷ lines) = (n, line) ∷ numbered (n + 1) lines

abbrev pub line_seen : FileLine → ℕ × List ℕ
line_seen line = (line.number, line.text.now)
