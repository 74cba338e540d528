-- The words of a line that begins with `reply`.
use Rattle.std.proofs.Common.{◌≡◌, ℕ, ◌+◌, List, [], ◌∷◌, ◌++◌, length, map, refl, ap, subst, arith}
use Rattle.std.specs.Prelude.{codes}
use Rattle.ak_input.specs.declared.line.Word.{Word}
use Rattle.ak_input.specs.Marks.{start}
use Rattle.ak_input.specs.Words.{BeginsWith, GoesOn, IsWordText, IsLine}

-- words that stand so many columns further on
abbrev moved : ℕ → Word → Word
moved n w = record { column = w.column + n; bytes = w.bytes }

begins_further : (n column : ℕ) (text gap : List ℕ) (w : Word) (rest : List ℕ) → BeginsWith column text gap w rest → BeginsWith (column + n) text gap (moved n w) rest
begins_further n column text gap w rest h =
    record { parts = h.parts; blanks = h.blanks; place = omega (arith, h.place); form = h.form; ends = h.ends }

line_further : (n column : ℕ) (text : List ℕ) (words : List Word) → IsLine column text words → IsLine (column + n) text (map (moved n) words)
line_further n column text [] h = h
line_further n column text (w ∷ words) (gap, rest, begins, line) =
    let same : (w.column + length w.bytes) + n ≡ (w.column + n) + length w.bytes = omega arith in (
      gap,
      rest,
      begins_further n column text gap w rest begins,
      subst (λ (c : ℕ). IsLine c rest (map (moved n) words)) same (line_further n (w.column + length w.bytes) rest words line),
    )

bytes_stay : (n : ℕ) (words : List Word) → map (λ (word : Word). word.bytes) (map (moved n) words) ≡ map (λ (word : Word). word.bytes) words
bytes_stay n [] = refl
bytes_stay n (w ∷ words) = ap (λ (texts : List (List ℕ)). w.bytes ∷ texts) (bytes_stay n words)

-- behind one blank more
behind_blank : (column : ℕ) (text : List ℕ) (words : List Word) → IsLine (column + 1) text words → IsLine column (32 ∷ text) words
behind_blank column text [] h = h
behind_blank column text (w ∷ words) (gap, rest, begins, line) =
    (32 ∷ gap, rest, record { parts = ap (λ (t : List ℕ). 32 ∷ t) begins.parts; blanks = begins.blanks; place = omega (arith, begins.place); form = begins.form; ends = begins.ends }, line)

-- a letter opens and closes nothing
goes_on : GoesOn start (codes "eply")
goes_on = (refl, (start, refl, (refl, (start, refl, (refl, (start, refl, (refl, (start, refl, refl))))))))

is_word_text : IsWordText (codes "reply")
is_word_text = (refl, (start, refl, goes_on))

abbrev reply_word : Word
reply_word = record { column = 1; bytes = codes "reply" }

pub behind_reply : (text : List ℕ) (words : List Word) → IsLine 1 text words → (all : List Word) × IsLine 1 (codes "reply " ++ text) all × (map (λ (word : Word). word.bytes) all ≡ codes "reply" ∷ map (λ (word : Word). word.bytes) words)
behind_reply text words line = (
  reply_word ∷ map (moved 6) words,
  ([], 32 ∷ text, record { parts = refl; blanks = refl; place = refl; form = is_word_text; ends = refl }, behind_blank 6 text (map (moved 6) words) (line_further 6 1 text words line)),
  ap (λ (texts : List (List ℕ)). codes "reply" ∷ texts) (bytes_stay 6 words),
)
