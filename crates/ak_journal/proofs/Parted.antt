-- A line whose words have no blank is cut into them.
use Rattle.std.proofs.Common.{◌≡◌, ℕ, ◌+◌, ◌≤◌, Bool, true, false, cond, eqb, List, [], ◌∷◌, ◌++◌, length, Option, Some, None, refl, sym, ap, ◌∙◌, append_assoc, arith}
use Rattle.std.specs.Borrow.{Bor}
use Rattle.std.specs.List.{list_all}
use Rattle.std.proofs.lemmas.Bool.{and_parts, ltb-true, ne_eqb}
use Rattle.std.proofs.lemmas.List.{append-nil, map-append}
use Rattle.ak_journal.specs.Parting.{before, behind, onto_first, parted, parted_left, texts}
use Rattle.ak_journal.specs.Parts.{behind_blanks, joined}
use Rattle.ak_journal.proofs.Dark.{AreDark, AreDigits, IsDark, first_digit, is_dark}

first_dark : (b : ℕ) (word : List ℕ) → IsDark (b ∷ word) → (eqb b 32 ≡ false) × IsDark word
first_dark b word h =
    let parts = and_parts (is_dark b) (list_all is_dark word) h.all in
    let over = ltb-true 32 b parts.0 in
    (ne_eqb b 32 (λ e. omega (arith, e, over)), record { all = parts.1 })

parted_word : (word rest : List ℕ) → IsDark word → parted (word ++ 32 ∷ rest) ≡ word ∷ parted rest
parted_word [] rest h = refl
parted_word (b ∷ word) rest h = let first = first_dark b word h in rw (first.0, parted_word word rest first.1) refl

parted_last : (word : List ℕ) → IsDark word → parted word ≡ word ∷ []
parted_last [] h = refl
parted_last (b ∷ word) h = let first = first_dark b word h in rw (first.0, parted_last word first.1) refl

pub parted_again : (word : List ℕ) (words : List (List ℕ)) → IsDark word → AreDark words → parted (joined (word ∷ words)) ≡ word ∷ words
parted_again word [] h hs = ap parted (append-nil word) ∙ parted_last word h
parted_again word (next ∷ words) h hs =
    parted_word word (next ++ behind_blanks words) h ∙ ap (λ (ws : List (List ℕ)). word ∷ ws) (parted_again next words hs.0 hs.1)

-- one cut more
pub parted_cut : (text : List ℕ) → parted text ≡ before 32 text ∷ parted_left (behind 32 text)
parted_cut [] = refl
parted_cut (b ∷ text) = by_blank (eqb b 32) (parted_cut text) where
  by_blank : (blank : Bool) → parted text ≡ before 32 text ∷ parted_left (behind 32 text) → cond blank ([] ∷ parted text) (onto_first b (parted text)) ≡ cond blank [] (b ∷ before 32 text) ∷ parted_left (cond blank (Some text) (behind 32 text))
  by_blank true cut = refl
  by_blank false cut = ap (onto_first b) cut

-- ---- a point behind digits
point_first : (b : ℕ) → 48 ≤ b → eqb b 46 ≡ false
point_first b low = ne_eqb b 46 (λ e. omega (arith, e, low))

pub before_point : (digits rest : List ℕ) → AreDigits digits → before 46 (digits ++ 46 ∷ rest) ≡ digits
before_point [] rest h = refl
before_point (b ∷ digits) rest h = let first = first_digit b digits h in rw (point_first b first.0, before_point digits rest first.2) refl

pub behind_point : (digits rest : List ℕ) → AreDigits digits → behind 46 (digits ++ 46 ∷ rest) ≡ Some rest
behind_point [] rest h = refl
behind_point (b ∷ digits) rest h = let first = first_digit b digits h in rw (point_first b first.0, behind_point digits rest first.2) refl

-- ---- the loop: the words so far, and those of what is left
abbrev pub left_length : Option (List ℕ) → ℕ
left_length None = 0
left_length (Some text) = length text + 1

texts_pushed : (words more : List (Bor (List ℕ))) (word : Bor (List ℕ)) (text : List ℕ) → more ≡ words ++ word ∷ [] → word.now ≡ text → texts more ≡ texts words ++ text ∷ []
texts_pushed words more word text pushed is =
    ap texts pushed ∙ map-append (λ (w : Bor (List ℕ)). w.now) words (word ∷ []) ∙ ap (λ (t : List ℕ). texts words ++ t ∷ []) is

one_more : (so_far : List (List ℕ)) (text : List ℕ) (whole : List (List ℕ)) → so_far ++ parted text ≡ whole → (so_far ++ before 32 text ∷ []) ++ parted_left (behind 32 text) ≡ whole
one_more so_far text whole h =
    append_assoc so_far (before 32 text ∷ []) (parted_left (behind 32 text)) ∙ ap (λ (ws : List (List ℕ)). so_far ++ ws) (sym (parted_cut text)) ∙ h

pub words_go_on
    : (words more : List (Bor (List ℕ))) (word : Bor (List ℕ)) (text : List ℕ) (left : Option (List ℕ)) (whole : List (List ℕ)) → more ≡ words ++ word ∷ []
    → word.now ≡ before 32 text
    → left ≡ behind 32 text
    → texts words ++ parted text ≡ whole
    → texts more ++ parted_left left ≡ whole
words_go_on words more word text left whole pushed front left_is so_far =
    ap (λ (l : Option (List ℕ)). texts more ++ parted_left l) left_is
    ∙ ap (λ (ws : List (List ℕ)). ws ++ parted_left (behind 32 text)) (texts_pushed words more word (before 32 text) pushed front)
    ∙ one_more (texts words) text whole so_far
