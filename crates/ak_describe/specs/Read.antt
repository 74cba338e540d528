-- Lines as they come: what the first pass makes of those so far, and of their end.
use Rattle.std.specs.Prelude.{◌≡◌, ℕ, ◌+◌, ◌-◌, ◌^◌, min, if◌then◌else◌, List, Option, None, Some, option_map, Result, Ok, Err}
use Rattle.ak_base.specs.declared.ending.RefusalKind.TheVariants as refusal
use Rattle.ak_input.specs.declared.line.Line.{Line}
use Rattle.ak_describe.specs.Parts.{AppData}
use Rattle.ak_describe.specs.Pass.{State, Refusal, nothing_read, last_item, may_open_app, after_lines, first_pass}

-- what they say, or the first fault among them
abbrev pub lines_read : List Line → Result State Refusal
lines_read lines = after_lines nothing_read lines

abbrev pub fault_of : {A : Type 0} → Result A Refusal → Option Refusal
fault_of (Ok x) = None
fault_of (Err r) = Some r

-- what is wrong with them where they end here
abbrev pub end_fault : List Line → Option Refusal
end_fault lines = fault_of (first_pass lines)

-- ---- what is kept of them
abbrev pub number_of : Line → ℕ
number_of line = line.number

abbrev pub last_number : List Line → Option ℕ
last_number lines = option_map number_of (last_item lines)

-- the number behind that one, of those that a line can have
abbrev pub unfinished_behind : Option ℕ → Option Refusal
unfinished_behind None = None
unfinished_behind (Some number) = Some (record { line = min (number + 1) (2 ^ 32 - 1); kind = refusal.Unfinished })

-- the last application has no looper
abbrev pub left_open : List AppData → Option ℕ → Option Refusal
left_open apps last = if may_open_app apps then None else unfinished_behind last

-- nothing is wrong with any of them, and this is what they say, and the number of the last one
pub record AreRead (lines : List Line) (s : State) (last : Option ℕ) : Type 0 where
  pub read : lines_read lines ≡ Ok s
  pub last_is : last ≡ last_number lines

-- some lines say so, and nothing is wrong where they end
pub record IsSaid (s : State) : Type 0 where
  pub lines : List Line
  pub passes : first_pass lines ≡ Ok s
