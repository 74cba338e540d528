-- Splitting an input into lines, piece by piece, as a loop does.
use Rattle.std.proofs.Common.{◌≡◌, ℕ, ◌+◌, ◌-◌, ◌<◌, ◌≤◌, Bool, true, false, eqb, List, [], ◌∷◌, ◌++◌, length, take, drop, get_or, Option, Some, None, Ok, Err, refl, sym, ap, subst, ◌∙◌, append_assoc, arith}
use Rattle.std.proofs.lemmas.List.{append-nil, drop_all, drop_more}
use Rattle.std.proofs.lemmas.Bool.{ne_eqb}
use Rattle.std.specs.List.{onto_first}
use Rattle.std.specs.Str.Lines.{strip_carriage_return}
use Rattle.ak_input.specs.declared.line.Line.{Line}
use Rattle.ak_input.specs.declared.line.Word.{Word}
use Rattle.ak_input.specs.declared.lines.InputLines.{InputLines}
use Rattle.ak_input.specs.declared.lines.LineFault.{LineFault}
use Rattle.ak_input.specs.Lines.{is_silent, lines_from, lines_behind, kept, pieces_of}
use Rattle.ak_input.specs.Marks.{is_blank}
use Rattle.ak_input.specs.Words.{line_words}
use Rattle.ak_input.proofs.PieceLoop.{onto_front, onto_front-byte, onto_front-end, at, grown_piece, empty_piece}

-- ---- one piece

pub silent_kept : (old : List Line) (number : ℕ) (piece line : List ℕ) → line ≡ strip_carriage_return piece → is_silent line ≡ true
    → (pieces : List (List ℕ)) → lines_behind old (lines_from number (piece ∷ pieces)) ≡ kept old None (lines_from (number + 1) pieces)
unfolding lines_from
silent_kept old number piece line is silent pieces =
    let same : is_silent (strip_carriage_return piece) ≡ true = subst (λ (l : List ℕ). is_silent l ≡ true) is silent in
    rw same refl

pub words_kept : (old new : List Line) (number : ℕ) (piece line : List ℕ) (words : List Word) → line ≡ strip_carriage_return piece → is_silent line ≡ false
    → line_words line ≡ Ok words → new ≡ old ++ (record { number = number; words = words }) ∷ []
    → (pieces : List (List ℕ)) → lines_behind old (lines_from number (piece ∷ pieces)) ≡ kept new None (lines_from (number + 1) pieces)
unfolding lines_from
words_kept old new number piece line words is loud split grown pieces =
    let same : is_silent (strip_carriage_return piece) ≡ false = subst (λ (l : List ℕ). is_silent l ≡ false) is loud in
    let read : line_words (strip_carriage_return piece) ≡ Ok words = subst (λ (l : List ℕ). line_words l ≡ Ok words) is split in
    let one : Line = record { number = number; words = words } in
    let others = lines_from (number + 1) pieces in
    rw (same, read, grown) (ap (λ (ls : List Line). lines_with ls others.fault) (sym (append_assoc old (one ∷ []) others.lines))) where
      lines_with : List Line → Option LineFault → InputLines
      lines_with lines fault = record { lines = lines; fault = fault }

pub fault_kept : (old : List Line) (number : ℕ) (piece line : List ℕ) (f : LineFault) → line ≡ strip_carriage_return piece → is_silent line ≡ false
    → line_words line ≡ Err f.kind → f.line ≡ number
    → (pieces : List (List ℕ)) → lines_behind old (lines_from number (piece ∷ pieces)) ≡ kept old (Some f) (lines_from (number + 1) pieces)
unfolding lines_from
fault_kept old number piece line f is loud split place pieces =
    let same : is_silent (strip_carriage_return piece) ≡ false = subst (λ (l : List ℕ). is_silent l ≡ false) is loud in
    let read : line_words (strip_carriage_return piece) ≡ Err f.kind = subst (λ (l : List ℕ). line_words l ≡ Err f.kind) is split in
    rw (same, read, append-nil old, ← place) refl

-- ---- all pieces

-- what is known where a LF stands
pub line_ends : (lines : List Line) (number : ℕ) (input : List ℕ) (from i : ℕ) (total : InputLines) → i < length input → get_or input i 0 ≡ 10
    → lines_behind lines (lines_from number (onto_front (at input from i) (pieces_of (drop i input)))) ≡ total
    → lines_behind lines (lines_from number (at input from i ∷ pieces_of (drop (i + 1) input))) ≡ total
line_ends lines number input from i total lt lf so_far =
    let next : pieces_of (drop i input) ≡ [] ∷ pieces_of (drop (i + 1) input) = rw (drop_more input i 0 lt, lf) refl in
    ap (λ (ps : List (List ℕ)). lines_behind lines (lines_from number ps)) (sym (onto_front-end (at input from i) (pieces_of (drop (i + 1) input)))) ∙ ap (λ (ps : List (List ℕ)). lines_behind lines (lines_from number (onto_front (at input from i) ps))) (sym next) ∙ so_far

pub line_begins : (lines : List Line) (number : ℕ) (input : List ℕ) (i : ℕ) (total : InputLines)
    → lines_behind lines (lines_from number (pieces_of (drop i input))) ≡ total
    → lines_behind lines (lines_from number (onto_front (at input i i) (pieces_of (drop i input)))) ≡ total
line_begins lines number input i total so_far = rw (empty_piece input i) so_far

pub line_goes_on : (lines : List Line) (number : ℕ) (input : List ℕ) (from i : ℕ) (total : InputLines) → from ≤ i → i < length input → (get_or input i 0 ≡ 10 → ⊥)
    → lines_behind lines (lines_from number (onto_front (at input from i) (pieces_of (drop i input)))) ≡ total
    → lines_behind lines (lines_from number (onto_front (at input from (i + 1)) (pieces_of (drop (i + 1) input)))) ≡ total
line_goes_on lines number input from i total le lt other so_far =
    let unlike = ne_eqb (get_or input i 0) 10 other in
    let next : pieces_of (drop i input) ≡ onto_first (get_or input i 0) (pieces_of (drop (i + 1) input)) = rw (drop_more input i 0 lt, unlike) refl in
    let moved : onto_front (at input from i) (pieces_of (drop i input)) ≡ onto_front (at input from (i + 1)) (pieces_of (drop (i + 1) input)) =
    rw (next, grown_piece input from i le lt) (onto_front-byte (at input from i) (get_or input i 0) (pieces_of (drop (i + 1) input))) in
    ap (λ (ps : List (List ℕ)). lines_behind lines (lines_from number ps)) (sym moved) ∙ so_far

pub last_line : (lines : List Line) (number : ℕ) (input : List ℕ) (from i : ℕ) (total : InputLines) → length input ≤ i
    → lines_behind lines (lines_from number (onto_front (at input from i) (pieces_of (drop i input)))) ≡ total
    → lines_behind lines (lines_from number (at input from i ∷ [])) ≡ total
last_line lines number input from i total le so_far =
    let next : pieces_of (drop i input) ≡ [] ∷ [] = rw (drop_all i input le) refl in
    ap (λ (ps : List (List ℕ)). lines_behind lines (lines_from number ps)) (sym (onto_front-end (at input from i) [])) ∙ ap (λ (ps : List (List ℕ)). lines_behind lines (lines_from number (onto_front (at input from i) ps))) (sym next) ∙ so_far

-- at a LF the piece is kept, and the next one begins
pub lf_goes_on : (old new : List Line) (number : ℕ) (input : List ℕ) (from i : ℕ) (fault : Option LineFault) (total : InputLines) → i < length input → get_or input i 0 ≡ 10
    → ((pieces : List (List ℕ)) → lines_behind old (lines_from number (at input from i ∷ pieces)) ≡ kept new fault (lines_from (number + 1) pieces)) → fault ≡ None
    → lines_behind old (lines_from number (onto_front (at input from i) (pieces_of (drop i input)))) ≡ total
    → lines_behind new (lines_from (number + 1) (onto_front (at input (i + 1) (i + 1)) (pieces_of (drop (i + 1) input)))) ≡ total
lf_goes_on old new number input from i fault total lt lf step none so_far =
    let all = lines_from (number + 1) (pieces_of (drop (i + 1) input)) in
    let one : lines_behind new all ≡ total =
    ap (λ (f : Option LineFault). kept new f all) (sym none) ∙ sym (step (pieces_of (drop (i + 1) input))) ∙ line_ends old number input from i total lt lf so_far in
    line_begins new (number + 1) input (i + 1) total one

pub lf_faults : (old new : List Line) (number : ℕ) (input : List ℕ) (from i : ℕ) (fault : Option LineFault) (f : LineFault) (total : InputLines) → i < length input → get_or input i 0 ≡ 10
    → ((pieces : List (List ℕ)) → lines_behind old (lines_from number (at input from i ∷ pieces)) ≡ kept new fault (lines_from (number + 1) pieces)) → fault ≡ Some f
    → lines_behind old (lines_from number (onto_front (at input from i) (pieces_of (drop i input)))) ≡ total
    → total ≡ record { lines = new; fault = Some f }
lf_faults old new number input from i fault f total lt lf step some so_far =
    sym (line_ends old number input from i total lt lf so_far) ∙ step (pieces_of (drop (i + 1) input)) ∙ ap (λ (x : Option LineFault). kept new x (lines_from (number + 1) (pieces_of (drop (i + 1) input)))) some

kept-end : (new : List Line) (number : ℕ) (fault : Option LineFault) → kept new fault (lines_from number []) ≡ record { lines = new; fault = fault }
unfolding lines_from
kept-end new number None = rw (append-nil new) refl
kept-end new number (Some f) = refl

pub all_kept : (old new : List Line) (number : ℕ) (input : List ℕ) (from i : ℕ) (fault : Option LineFault) (total : InputLines) → i ≡ length input
    → ((pieces : List (List ℕ)) → lines_behind old (lines_from number (take (length input - from) (drop from input) ∷ pieces)) ≡ kept new fault (lines_from (number + 1) pieces))
    → lines_behind old (lines_from number (onto_front (at input from i) (pieces_of (drop i input)))) ≡ total
    → total ≡ record { lines = new; fault = fault }
all_kept old new number input from i fault total end step so_far =
    let le : length input ≤ i = omega arith in
    let last = ap (λ (j : ℕ). lines_behind old (lines_from number (at input from j ∷ []))) (sym end) ∙ last_line old number input from i total le so_far in
    sym last ∙ step [] ∙ kept-end new (number + 1) fault

pub ruleset piece_kept = (silent_kept, words_kept, fault_kept)

-- ---- blanks

pub silent_goes_on : (line : List ℕ) (i : ℕ) (total : Bool) → i < length line → is_blank (get_or line i 0) ≡ true → is_silent (drop i line) ≡ total → is_silent (drop (i + 1) line) ≡ total
silent_goes_on line i total lt blank so_far =
    let one : is_silent (drop i line) ≡ is_silent (drop (i + 1) line) = rw (drop_more line i 0 lt, blank) refl in sym one ∙ so_far

pub silent_ends : (line : List ℕ) (i : ℕ) (total : Bool) → i < length line → is_blank (get_or line i 0) ≡ false → is_silent (drop i line) ≡ total → eqb (get_or line i 0) 35 ≡ total
silent_ends line i total lt loud so_far =
    let one : is_silent (drop i line) ≡ eqb (get_or line i 0) 35 = rw (drop_more line i 0 lt, loud) refl in sym one ∙ so_far

pub silent_all : (line : List ℕ) (i : ℕ) (total : Bool) → length line ≤ i → is_silent (drop i line) ≡ total → true ≡ total
silent_all line i total le so_far =
    let one : is_silent (drop i line) ≡ true = rw (drop_all i line le) refl in sym one ∙ so_far

pub ruleset silences = (silent_goes_on, silent_ends, silent_all)
