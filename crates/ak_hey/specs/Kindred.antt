-- When the values of a hey line fit together: those of one name have one kind.
use Rattle.std.specs.Prelude.{◌≡◌, ◌↔◌, ℕ, List, [], ◌∷◌, ◌++◌, codes, Option, Some, None}
use Rattle.ak_base.specs.declared.code.Code.{Code}
use Rattle.ak_message.specs.declared.kind.Kind.{Kind}
use Rattle.ak_message.specs.declared.kind.Kind.TheVariants as k
use Rattle.ak_input.specs.Reading.{Got}
use Rattle.ak_hey.specs.Draft.{DraftData, new_draft}
use Rattle.ak_hey.specs.Grammar.{SpecText, FieldText, made_of}

-- ---- the name and the kind of each value, in the order of the line
abbrev pub spec_kinds : List SpecText → List (List ℕ × Kind)
spec_kinds [] = []
spec_kinds (s ∷ specs) = (codes "specifiers", k.Message) ∷ spec_kinds specs

abbrev pub data_kinds : Option Got → List (List ℕ × Kind)
data_kinds None = []
data_kinds (Some g) = (codes "data", g.kind) ∷ []

abbrev pub field_kinds : List FieldText → List (List ℕ × Kind)
field_kinds [] = []
field_kinds (f ∷ fields) = (f.name, f.value.kind) ∷ field_kinds fields

abbrev pub all_kinds : List SpecText → Option Got → List FieldText → List (List ℕ × Kind)
all_kinds specs data_value fields = spec_kinds specs ++ (data_kinds data_value ++ field_kinds fields)

-- ---- of one name and not of another kind
abbrev pub AgreesWith : List ℕ × Kind → List (List ℕ × Kind) → Type 0
AgreesWith x [] = Unit {0}
AgreesWith x (y ∷ ys) = (x.0 ≡ y.0 → x.1 ≡ y.1) × AgreesWith x ys

-- any two
abbrev pub Agree : List (List ℕ × Kind) → Type 0
Agree [] = Unit {0}
Agree (x ∷ xs) = AgreesWith x xs × Agree xs

-- exactly then they make a message, or pass a limit
abbrev pub OneKindEach : Type 0
OneKindEach =
    (what : Code) (specs : List SpecText) (data_value : Option Got) (fields : List FieldText)
    → ((d : DraftData) × (made_of (new_draft what) specs data_value fields ≡ Some d)) ↔ Agree (all_kinds specs data_value fields)
