-- Texts that are cut at a mark.
use Rattle.std.specs.Prelude.{ℕ, ◌==◌, if◌then◌else◌, List, [], ◌∷◌, map, Option, Some, None}
use Rattle.std.specs.Borrow.{Bor}

-- ---- words as contracts see them
abbrev pub texts : List (Bor (List ℕ)) → List (List ℕ)
texts words = map (λ word. word.now) words

-- ---- cut at the first mark
-- all before it
abbrev pub before : ℕ → List ℕ → List ℕ
before mark [] = []
before mark (b ∷ text) = if b == mark then [] else b ∷ before mark text

-- all behind it, where there is one
abbrev pub behind : ℕ → List ℕ → Option (List ℕ)
behind mark [] = None
behind mark (b ∷ text) = if b == mark then Some text else behind mark text

-- ---- cut at each blank: one word, or more
abbrev pub onto_first : ℕ → List (List ℕ) → List (List ℕ)
onto_first b [] = (b ∷ []) ∷ []
onto_first b (word ∷ words) = (b ∷ word) ∷ words

abbrev pub parted : List ℕ → List (List ℕ)
parted [] = [] ∷ []
parted (b ∷ text) = if b == 32 then [] ∷ parted text else onto_first b (parted text)

-- the words of what is left, where anything is
abbrev pub parted_left : Option (List ℕ) → List (List ℕ)
parted_left None = []
parted_left (Some text) = parted text
