-- What lines describe, and their first fault, apart from how they are read.
use Rattle.std.specs.Prelude.{◌≡◌, ℕ, suc, ◌≤◌, ◌⊎◌, List, [], ◌∷◌, ◌++◌, slice_get, All, Any, Some}
use Rattle.ak_base.specs.declared.app_word.AppWord.{AppWord}
use Rattle.ak_base.specs.declared.app_word.AppWord.TheVariants as app
use Rattle.ak_base.specs.declared.ending.RefusalKind.{RefusalKind}
use Rattle.ak_base.specs.declared.ending.RefusalKind.TheVariants as refusal
use Rattle.ak_input.specs.declared.line.Line.{Line}
use Rattle.ak_action.specs.Plan.{place_after}
use Rattle.ak_base.specs.AppName.{last_part}
use Rattle.ak_describe.specs.declared.described.AppText.{AppText}
use Rattle.ak_describe.specs.declared.keyword.Keyword.{Keyword}
use Rattle.ak_describe.specs.declared.named.Named.{Named}
use Rattle.ak_describe.specs.declared.named.Need.{Need}
use Rattle.ak_describe.specs.declared.named.Need.TheVariants as needs
use Rattle.ak_describe.specs.Described.{described}
use Rattle.ak_describe.specs.Parts.{RowData, LooperData, AppData}
use Rattle.ak_describe.specs.Pass.{State, nothing_read, last_item, number_behind}
use Rattle.ak_describe.specs.Says.{Form, word_of, MayStand, IsComplete, Says, IsInUse, IsWithin, state_with}
use Rattle.ak_describe.specs.Second.{chained_to}
use Rattle.ak_describe.specs.Words.{texts}

-- ---- a line
-- its first word is one that may stand, and these are the words behind it
pub record Opens (s : State) (line : Line) (keyword : Keyword) (words : List (List ℕ)) : Type 0 where
  pub all : texts line.words ≡ word_of keyword ∷ words
  pub stands : MayStand s keyword

-- it adds what it says
pub record Adds (s : State) (line : Line) (left : State) : Type 0 where
  pub keyword : Keyword
  pub words : List (List ℕ)
  pub opens : Opens s line keyword words
  pub form : Form
  pub says : Says s keyword words form
  pub is_new : ¬ (IsInUse s form)
  pub within : IsWithin s form
  pub left_is : left ≡ state_with s line.number keyword form

-- no line is of that form
abbrev pub SaysNothing : State → Keyword → List (List ℕ) → Type 0
SaysNothing s keyword words = (form : Form) → Says s keyword words form → ⊥

-- the further words are of no form
pub record IsBad (s : State) (line : Line) : Type 0 where
  pub keyword : Keyword
  pub words : List (List ℕ)
  pub opens : Opens s line keyword words
  pub nothing : SaysNothing s keyword words

-- what has to be new was given before
pub record IsTwice (s : State) (line : Line) : Type 0 where
  pub keyword : Keyword
  pub words : List (List ℕ)
  pub opens : Opens s line keyword words
  pub form : Form
  pub says : Says s keyword words form
  pub in_use : IsInUse s form

-- a limit is passed
pub record IsOver (s : State) (line : Line) : Type 0 where
  pub keyword : Keyword
  pub words : List (List ℕ)
  pub opens : Opens s line keyword words
  pub form : Form
  pub says : Says s keyword words form
  pub is_new : ¬ (IsInUse s form)
  pub over : ¬ (IsWithin s form)

-- what is wrong with a line behind those that come to this state
abbrev pub IsLineFault : State → Line → RefusalKind → Type 0
IsLineFault s line refusal.UnknownLine = (keyword : Keyword) (words : List (List ℕ)) → Opens s line keyword words → ⊥
IsLineFault s line refusal.BadValue = IsBad s line
IsLineFault s line refusal.NameInUse = IsTwice s line
IsLineFault s line refusal.Limit = IsOver s line
IsLineFault s line refusal.InputTooLong = ⊥
IsLineFault s line refusal.NotUtf8 = ⊥
IsLineFault s line refusal.BadWord = ⊥
IsLineFault s line (refusal.BadHey column) = ⊥
IsLineFault s line refusal.Unfinished = ⊥
IsLineFault s line refusal.UnknownName = ⊥
IsLineFault s line refusal.ChainLoop = ⊥
IsLineFault s line refusal.AskOrder = ⊥

-- ---- lines, one after another, from a state to another one
abbrev pub Follow : State → List Line → State → Type 0
Follow s [] left = s ≡ left
Follow s (line ∷ lines) left = (next : State) × Adds s line next × Follow next lines left

-- ---- names that may be given later
-- where the name stands
pub record IsAt (apps : List AppData) (n : Named) (a : AppData) (l : LooperData) : Type 0 where
  pub in_app : slice_get apps n.app ≡ Some a
  pub in_looper : slice_get a.loopers n.looper ≡ Some l

abbrev pub IsRow : LooperData → List ℕ → Type 0
IsRow l name = Any (λ (r : RowData). r.name ≡ name) l.rows

abbrev pub IsLooper : AppData → List ℕ → Type 0
IsLooper a name = Any (λ (l : LooperData). l.name ≡ name) a.loopers

-- an equal path or signature, or the last part of the path; a number fits none
abbrev pub Fits : AppWord → AppData → Type 0
Fits (app.Path path) a = a.path ≡ path
Fits (app.Signature signature) a = a.signature ≡ signature
Fits (app.Name name) a = last_part a.path ≡ name
Fits (app.Team team) a = ⊥

abbrev pub IsNamedThere : List AppData → AppData → LooperData → Need → Type 0
IsNamedThere apps a l (needs.Next name) = IsRow l name
IsNamedThere apps a l (needs.Handler name) = IsRow l name
IsNamedThere apps a l (needs.Looper name) = IsLooper a name
IsNamedThere apps a l (needs.AskLooper name) = IsLooper a name
IsNamedThere apps a l (needs.AskApp word) = Any (Fits word) apps

-- from the handler one comes back to it, by the next handlers that the lines up to its own give
abbrev pub ComesBack : LooperData → ℕ → Type 0
ComesBack l row = (steps : ℕ) × (place_after (chained_to row l.rows) (suc steps) (Some row) ≡ Some row)

abbrev pub ClosesLoop : LooperData → Named → Need → Type 0
ClosesLoop l n (needs.Next name) = IsRow l name × ComesBack l n.row
ClosesLoop l n (needs.Handler name) = ⊥
ClosesLoop l n (needs.Looper name) = ⊥
ClosesLoop l n (needs.AskLooper name) = ⊥
ClosesLoop l n (needs.AskApp word) = ⊥

-- a looper of that name that is not later than the one that asks
pub record LooperIsEarly (a : AppData) (asks : ℕ) (name : List ℕ) : Type 0 where
  pub place : ℕ
  pub early : place ≤ asks
  pub looper : LooperData
  pub is_at : slice_get a.loopers place ≡ Some looper
  pub named : looper.name ≡ name

-- an application that fits and is not later than the one that asks
pub record AppIsEarly (apps : List AppData) (asks : ℕ) (word : AppWord) : Type 0 where
  pub place : ℕ
  pub early : place ≤ asks
  pub found : AppData
  pub is_at : slice_get apps place ≡ Some found
  pub fits : Fits word found

abbrev pub IsEarly : List AppData → AppData → Named → Need → Type 0
IsEarly apps a n (needs.AskLooper name) = LooperIsEarly a n.looper name
IsEarly apps a n (needs.AskApp word) = AppIsEarly apps n.app word
IsEarly apps a n (needs.Next name) = ⊥
IsEarly apps a n (needs.Handler name) = ⊥
IsEarly apps a n (needs.Looper name) = ⊥

abbrev pub IsNameFault : List AppData → AppData → LooperData → Named → RefusalKind → Type 0
IsNameFault apps a l n refusal.UnknownName = ¬ (IsNamedThere apps a l n.need)
IsNameFault apps a l n refusal.ChainLoop = ClosesLoop l n n.need
IsNameFault apps a l n refusal.AskOrder = IsEarly apps a n n.need
IsNameFault apps a l n refusal.UnknownLine = ⊥
IsNameFault apps a l n refusal.BadValue = ⊥
IsNameFault apps a l n refusal.NameInUse = ⊥
IsNameFault apps a l n refusal.Limit = ⊥
IsNameFault apps a l n refusal.InputTooLong = ⊥
IsNameFault apps a l n refusal.NotUtf8 = ⊥
IsNameFault apps a l n refusal.BadWord = ⊥
IsNameFault apps a l n (refusal.BadHey column) = ⊥
IsNameFault apps a l n refusal.Unfinished = ⊥

abbrev pub IsVain : List AppData → Named → RefusalKind → Type 0
IsVain apps n kind = (a : AppData) × (l : LooperData) × IsAt apps n a l × IsNameFault apps a l n kind

-- nothing is wrong with a name
abbrev pub IsGood : List AppData → Named → Type 0
IsGood apps n = (kind : RefusalKind) → IsVain apps n kind → ⊥

-- ---- what lines describe
pub record Describes (lines : List Line) (apps : List AppText) : Type 0 where
  pub state : State
  pub lines_are : Follow nothing_read lines state
  pub complete : IsComplete state.apps
  pub names_are : All (IsGood state.apps) state.names
  pub apps_are : apps ≡ described state.apps

-- ---- the first fault
-- of the first pass: nothing is wrong with the lines before
pub record IsFirstPassFault (lines : List Line) (number : ℕ) (kind : RefusalKind) : Type 0 where
  pub front : List Line
  pub line : Line
  pub rest : List Line
  pub all : lines ≡ front ++ line ∷ rest
  pub before : State
  pub front_is : Follow nothing_read front before
  pub fault : IsLineFault before line kind
  pub number_is : number ≡ line.number

-- the lines end with an application that has no looper: the line behind the last one is at fault
pub record IsUnfinished (lines : List Line) (number : ℕ) (kind : RefusalKind) : Type 0 where
  pub state : State
  pub lines_are : Follow nothing_read lines state
  pub open_app : ¬ (IsComplete state.apps)
  pub last : Line
  pub last_is : last_item lines ≡ Some last
  pub number_is : number ≡ number_behind last
  pub kind_is : kind ≡ refusal.Unfinished

-- of the second pass, which is made only where the first finds nothing: nothing is wrong with the names before
pub record IsSecondPassFault (lines : List Line) (number : ℕ) (kind : RefusalKind) : Type 0 where
  pub state : State
  pub lines_are : Follow nothing_read lines state
  pub complete : IsComplete state.apps
  pub front : List Named
  pub named : Named
  pub rest : List Named
  pub all : state.names ≡ front ++ named ∷ rest
  pub front_is : All (IsGood state.apps) front
  pub fault : IsVain state.apps named kind
  pub number_is : number ≡ named.line

abbrev pub FirstFault : List Line → ℕ → RefusalKind → Type 0
FirstFault lines number kind =
    IsFirstPassFault lines number kind ⊎ (IsUnfinished lines number kind ⊎ IsSecondPassFault lines number kind)
