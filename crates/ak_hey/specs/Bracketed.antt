-- What brackets mean, as a relation on their bytes, apart from how they are read.
use Rattle.std.specs.Prelude.{◌≡◌, ◌↔◌, ℕ, ◌+◌, ◌-◌, ◌<◌, ◌≤◌, pos, Bool, true, List, [], ◌∷◌, ◌++◌, length, codes, Some}
use Rattle.std.specs.Fmt.{decimal}
use Rattle.std.specs.List.{list_all}
use Rattle.ak_message.specs.declared.specifier.At.{At}
use Rattle.ak_message.specs.declared.specifier.At.TheVariants as at
use Rattle.ak_hey.specs.Brackets.{most, is_blank, is_other, bracket_at}

-- ---- parts between blanks
-- behind a part the text ends, or a blank stands there
abbrev pub is_part_end : List ℕ → Bool
is_part_end [] = true
is_part_end (b ∷ rest) = is_blank b

-- the text begins with blanks or none, this part, and this rest
pub record FirstPart (text part rest : List ℕ) : Type 0 where
  pub gap : List ℕ
  pub all : text ≡ gap ++ (part ++ rest)
  pub blanks : list_all is_blank gap ≡ true
  pub filled : 0 < length part
  pub others : list_all is_other part ≡ true
  pub ends : is_part_end rest ≡ true

-- the text is these parts, with blanks before, between and behind them
abbrev pub AreParts : List (List ℕ) → List ℕ → Type 0
AreParts [] text = list_all is_blank text ≡ true
AreParts (part ∷ parts) text = (rest : List ℕ) × FirstPart text part rest × AreParts parts rest

-- ---- what they mean, their numbers in decimal
abbrev pub Mean : List (List ℕ) → At → Type 0
Mean parts at.Direct = ⊥
Mean parts (at.Name name) = ⊥
Mean parts (at.Index z) = (n : ℕ) × (parts ≡ decimal n ∷ []) × (n ≤ most) × (z ≡ pos n)
Mean parts (at.Reverse z) = (n : ℕ) × (parts ≡ (45 ∷ decimal n) ∷ []) × (1 ≤ n) × (n ≤ most) × (z ≡ pos n)
Mean parts (at.Id z) = (n : ℕ) × (parts ≡ (35 ∷ decimal n) ∷ []) × (n ≤ most) × (z ≡ pos n)
Mean parts (at.Range z count) =
    (a : ℕ) × (b : ℕ) × (parts ≡ decimal a ∷ codes "to" ∷ decimal b ∷ []) × (a ≤ b) × (b ≤ most) × (b - a < most) × (z ≡ pos a) × (count ≡ pos (b - a + 1))
Mean parts (at.ReverseRange z count) =
    (a : ℕ) × (b : ℕ) × (parts ≡ (45 ∷ decimal a) ∷ codes "to" ∷ (45 ∷ decimal b) ∷ []) × (1 ≤ b) × (b ≤ a) × (a ≤ most) × (z ≡ pos a) × (count ≡ pos (a - b + 1))

-- brackets around parts that mean this
abbrev pub IsBracket : List ℕ → At → Type 0
IsBracket word a = (inner : List ℕ) × (parts : List (List ℕ)) × (word ≡ 91 ∷ (inner ++ 93 ∷ [])) × AreParts parts inner × Mean parts a

-- exactly what brackets mean is read of them
abbrev pub BracketsAreRead : Type 0
BracketsAreRead = (word : List ℕ) (a : At) → (bracket_at word ≡ Some a) ↔ IsBracket word a
