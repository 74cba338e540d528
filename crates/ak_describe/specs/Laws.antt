-- What holds of all lines: what is read is what they describe, and what is told is their first fault.
use Rattle.std.specs.Prelude.{◌≡◌, ◌↔◌, ◌⊎◌, ℕ, List, [], ◌∷◌, ◌++◌, All, Some, Ok, Err, slice_get}
use Rattle.ak_base.specs.declared.ending.RefusalKind.{RefusalKind}
use Rattle.ak_input.specs.declared.line.Line.{Line}
use Rattle.ak_describe.specs.declared.described.AppText.{AppText}
use Rattle.ak_describe.specs.declared.fault.DescribeFault.{DescribeFault}
use Rattle.ak_describe.specs.declared.fault.DescribeFault.TheVariants as answer
use Rattle.ak_describe.specs.declared.named.Named.{Named}
use Rattle.ak_describe.specs.Description.{checked, description}
use Rattle.ak_describe.specs.Describes.{Follow, IsAt, Describes, FirstFault}
use Rattle.ak_describe.specs.Parts.{RowData, LooperData, AppData}
use Rattle.ak_describe.specs.Pass.{State, Refusal, nothing_read, then_read, or_refused, at_line, read_line}
use Rattle.ak_describe.specs.Read.{lines_read, end_fault}
use Rattle.ak_describe.specs.Says.{IsComplete}

-- exactly what lines describe is read of them
abbrev pub DescribedIsRead : Type 0
DescribedIsRead = (lines : List Line) (apps : List AppText) → (description lines ≡ Ok apps) ↔ Describes lines apps

-- exactly their first fault is told of them
abbrev pub FirstFaultIsTold : Type 0
FirstFaultIsTold = (lines : List Line) (r : Refusal) → (description lines ≡ Err r) ↔ FirstFault lines r.line r.kind

-- ---- lines describe applications, or have a first fault, and not both; what they describe is one, and so is their first fault
abbrev pub OneOfBoth : Type 0
OneOfBoth = (lines : List Line) → ((apps : List AppText) × Describes lines apps) ⊎ ((r : Refusal) × FirstFault lines r.line r.kind)

abbrev pub NotBoth : Type 0
NotBoth = (lines : List Line) (apps : List AppText) (r : Refusal) → Describes lines apps → FirstFault lines r.line r.kind → ⊥

abbrev pub OneDescription : Type 0
OneDescription = (lines : List Line) (apps others : List AppText) → Describes lines apps → Describes lines others → apps ≡ others

abbrev pub OneFirstFault : Type 0
OneFirstFault =
    (lines : List Line) (number other : ℕ) (kind another : RefusalKind) → FirstFault lines number kind → FirstFault lines other another
    → (number ≡ other) × (kind ≡ another)

-- ---- where a name stands there is a handler
abbrev pub HasPlace : List AppData → Named → Type 0
HasPlace apps n = (a : AppData) × (l : LooperData) × (r : RowData) × IsAt apps n a l × (slice_get l.rows n.row ≡ Some r)

-- each name that lines give to be found later stands in a handler that they give
abbrev pub NamesHavePlaces : Type 0
NamesHavePlaces = (lines : List Line) (s : State) → Follow nothing_read lines s → All (HasPlace s.apps) s.names

-- a refusal is the first fault
abbrev pub IsFirstFault : List Line → DescribeFault → Type 0
IsFirstFault lines (answer.Refused line kind) = FirstFault lines line kind
IsFirstFault lines answer.NoMemory = Unit {0}

-- ---- lines as they come
-- nothing is wrong with them where they end here, by the grammar
pub record IsPassed (lines : List Line) : Type 0 where
  pub state : State
  pub lines_are : Follow nothing_read lines state
  pub complete : IsComplete state.apps

-- the first pass goes on by one line
abbrev pub GoesLineByLine : Type 0
GoesLineByLine =
    (lines : List Line) (line : Line) → lines_read (lines ++ line ∷ []) ≡ then_read (lines_read lines) (λ (s : State). at_line line.number (read_line s line))

-- a fault is the first one, whichever lines come behind it
abbrev pub FaultsStay : Type 0
FaultsStay = (lines more : List Line) (r : Refusal) → lines_read lines ≡ Err r → description (lines ++ more) ≡ Err r

-- what lines describe is what both passes make of them: the first fault of a line, else the one where they end, else what the second pass finds
abbrev pub BothMakeIt : Type 0
BothMakeIt = (lines : List Line) → description lines ≡ then_read (lines_read lines) (λ (s : State). then_read (or_refused (end_fault lines) s) checked)
