-- The lines that an input is split into are its lines, and no others.
use Rattle.std.proofs.Common.{◌≡◌, inl, inr, ℕ, ◌+◌, Bool, true, false, if◌then◌else◌, List, [], ◌∷◌, Option, Some, None, Result, Ok, Err, refl, ap, sym, subst, ◌∙◌}
use Rattle.std.specs.Prelude.{IsUtf8}
use Rattle.std.specs.Str.{is_utf8}
use Rattle.std.specs.Str.Lines.{strip_carriage_return}
use Rattle.std.proofs.lemmas.Str.{IsUtf8-from_is_utf8, is_utf8-from_IsUtf8}
use Rattle.ak_base.specs.declared.ending.RefusalKind.{RefusalKind}
use Rattle.ak_base.specs.declared.ending.RefusalKind.TheVariants as refusal
use Rattle.ak_input.specs.declared.line.Line.{Line}
use Rattle.ak_input.specs.declared.line.Word.{Word}
use Rattle.ak_input.specs.declared.lines.InputLines.{InputLines}
use Rattle.ak_input.specs.declared.lines.LineFault.{LineFault}
use Rattle.ak_input.specs.Lines.{is_silent, lines_from, pieces_of, with_line}
use Rattle.ak_input.specs.Words.{IsLine, line_words, words_from, words_or_fault}
use Rattle.ak_input.proofs.Surface.{line_again, line_takes}
use Rattle.ak_script.specs.InputLines.{HasNoWords, AreLines, AreLinesOf, LinesAreSplit}

-- ---- the words of a line
words_there : (text : List ℕ) (words : List Word) → IsUtf8 text → IsLine 1 text words → line_words text ≡ Ok words
words_there text words utf8 is = rw (is_utf8-from_IsUtf8 text utf8, line_again words 1 text is) refl

not_utf8 : (text : List ℕ) → ¬ (IsUtf8 text) → is_utf8 text ≡ false
not_utf8 text not_it = by_test (is_utf8 text) refl where
  by_test : (b : Bool) → is_utf8 text ≡ b → is_utf8 text ≡ false
  by_test true is = absurd (not_it (IsUtf8-from_is_utf8 text is))
  by_test false is = is

abbrev words_or_bad : List ℕ → Bool → Result (List Word) RefusalKind
words_or_bad text b = if b then words_or_fault (words_from None 1 text) else Err refusal.NotUtf8

bad_words : (text : List ℕ) → ((words : List Word) → IsLine 1 text words → ⊥) → words_or_fault (words_from None 1 text) ≡ Err refusal.BadWord
bad_words text none = by_read (words_from None 1 text) refl where
  by_read : (o : Option (List Word)) → words_from None 1 text ≡ o → words_or_fault o ≡ Err refusal.BadWord
  by_read None is = refl
  by_read (Some words) is = absurd (none words (line_takes words 1 text is))

no_words_there : (text : List ℕ) (kind : RefusalKind) → HasNoWords text kind → line_words text ≡ Err kind
no_words_there text refusal.NotUtf8 f = ap (words_or_bad text) (not_utf8 text f)
no_words_there text refusal.BadWord f = ap (words_or_bad text) (is_utf8-from_IsUtf8 text f.0) ∙ bad_words text f.1
no_words_there text refusal.UnknownLine f = absurd f
no_words_there text (refusal.BadHey column) f = absurd f
no_words_there text refusal.BadValue f = absurd f
no_words_there text refusal.NameInUse f = absurd f
no_words_there text refusal.Limit f = absurd f
no_words_there text refusal.InputTooLong f = absurd f
no_words_there text refusal.Unfinished f = absurd f
no_words_there text refusal.UnknownName f = absurd f
no_words_there text refusal.ChainLoop f = absurd f
no_words_there text refusal.AskOrder f = absurd f

-- it has words, or has none
data Words (text : List ℕ) : Type 0 where
  has_words : (words : List Word) → IsUtf8 text → IsLine 1 text words → Words text
  has_none : (kind : RefusalKind) → HasNoWords text kind → Words text

read_or_not : (o : Option (List Word)) (words : List Word) → o ≡ None → o ≡ Some words → ⊥
read_or_not o words e f = cc

utf8_or_not : (b : Bool) → b ≡ true → b ≡ false → ⊥
utf8_or_not b e f = cc

words_of : (text : List ℕ) → Words text
words_of text = by_test (is_utf8 text) refl where
  by_read : is_utf8 text ≡ true → (o : Option (List Word)) → words_from None 1 text ≡ o → Words text
  by_read utf8 None is = has_none refusal.BadWord (IsUtf8-from_is_utf8 text utf8, λ words line. read_or_not (words_from None 1 text) words is (line_again words 1 text line))
  by_read utf8 (Some words) is = has_words words (IsUtf8-from_is_utf8 text utf8) (line_takes words 1 text is)

  by_test : (b : Bool) → is_utf8 text ≡ b → Words text
  by_test true is = by_read is (words_from None 1 text) refl
  by_test false is = has_none refusal.NotUtf8 (λ utf8. utf8_or_not (is_utf8 text) (is_utf8-from_IsUtf8 text utf8) is)

-- ---- the lines
abbrev AreRead : ℕ → List (List ℕ) → InputLines → Type 0
AreRead number pieces read = AreLines number pieces read.lines read.fault

abbrev silent_or : ℕ → List ℕ → InputLines → Bool → InputLines
silent_or number piece others b = if b then others else with_line number (line_words (strip_carriage_return piece)) others

is_next : (number : ℕ) (piece : List ℕ) (pieces : List (List ℕ)) (b : Bool) → is_silent (strip_carriage_return piece) ≡ b → lines_from number (piece ∷ pieces) ≡ silent_or number piece (lines_from (number + 1) pieces) b
unfolding lines_from
is_next number piece pieces b is = ap (silent_or number piece (lines_from (number + 1) pieces)) is

none_left : (number : ℕ) → lines_from number [] ≡ record { lines = []; fault = None }
unfolding lines_from
none_left number = refl

lines_there : (number : ℕ) (pieces : List (List ℕ)) → AreRead number pieces (lines_from number pieces)
lines_there number [] = subst (AreRead number []) (sym (none_left number)) (refl, refl)
lines_there number (piece ∷ pieces) = by_silent (lines_there (number + 1) pieces) (is_silent (strip_carriage_return piece)) refl where
  others : InputLines
  others = lines_from (number + 1) pieces

  by_words : AreRead (number + 1) pieces (lines_from (number + 1) pieces) → is_silent (strip_carriage_return piece) ≡ false → Words (strip_carriage_return piece) → AreRead number (piece ∷ pieces) (lines_from number (piece ∷ pieces))
  by_words behind_it says (has_words words utf8 is) =
      let line : Line = record { number = number; words = words } in
      let here : lines_from number (piece ∷ pieces) ≡ with_line number (Ok words) (lines_from (number + 1) pieces) =
      is_next number piece pieces false says ∙ ap (λ (r : Result (List Word) RefusalKind). with_line number r (lines_from (number + 1) pieces)) (words_there (strip_carriage_return piece) words utf8 is) in
      subst (AreRead number (piece ∷ pieces)) (sym here)
      (inr (inl (line, (lines_from (number + 1) pieces).lines, refl, record { number_is = refl; says = says; utf8 = utf8; words_are = is }, behind_it)))
  by_words behind_it says (has_none kind f) =
      let here : lines_from number (piece ∷ pieces) ≡ with_line number (Err kind) (lines_from (number + 1) pieces) =
      is_next number piece pieces false says ∙ ap (λ (r : Result (List Word) RefusalKind). with_line number r (lines_from (number + 1) pieces)) (no_words_there (strip_carriage_return piece) kind f) in
      subst (AreRead number (piece ∷ pieces)) (sym here) (inr (inr (kind, says, f, refl, refl)))

  by_silent : AreRead (number + 1) pieces (lines_from (number + 1) pieces) → (b : Bool) → is_silent (strip_carriage_return piece) ≡ b → AreRead number (piece ∷ pieces) (lines_from number (piece ∷ pieces))
  by_silent behind_it true is = subst (AreRead number (piece ∷ pieces)) (sym (is_next number piece pieces true is)) (inl (is, behind_it))
  by_silent behind_it false is = by_words behind_it is (words_of (strip_carriage_return piece))

-- and no others
abbrev with_lines : Option LineFault → List Line → InputLines
with_lines fault lines = record { lines = lines; fault = fault }

abbrev with_fault : List Line → Option LineFault → InputLines
with_fault lines fault = record { lines = lines; fault = fault }

lines_again : (number : ℕ) (pieces : List (List ℕ)) (lines : List Line) (fault : Option LineFault) → AreLines number pieces lines fault → lines_from number pieces ≡ record { lines = lines; fault = fault }
lines_again number [] lines fault is = none_left number ∙ ap (with_lines None) (sym is.0) ∙ ap (with_fault lines) (sym is.1)
lines_again number (piece ∷ pieces) lines fault (inl s) = is_next number piece pieces true s.0 ∙ lines_again (number + 1) pieces lines fault s.1
lines_again number (piece ∷ pieces) lines fault (inr (inl s)) =
    let line = s.0 in
    let more = s.1 in
    let l = s.3 in
    let others = lines_again (number + 1) pieces more fault s.4 in
    is_next number piece pieces false l.says
    ∙ ap (λ (r : Result (List Word) RefusalKind). with_line number r (lines_from (number + 1) pieces)) (words_there (strip_carriage_return piece) line.words l.utf8 l.words_are)
    ∙ ap (λ (read : InputLines). with_line number (Ok line.words) read) others
    ∙ ap (λ (n : ℕ). numbered line.words more fault n) (sym l.number_is)
    ∙ ap (with_lines fault) (sym s.2)
  where
    numbered : List Word → List Line → Option LineFault → ℕ → InputLines
    numbered words behind_it told n = record { lines = record { number = n; words = words } ∷ behind_it; fault = told }
lines_again number (piece ∷ pieces) lines fault (inr (inr s)) =
    is_next number piece pieces false s.1
    ∙ ap (λ (r : Result (List Word) RefusalKind). with_line number r (lines_from (number + 1) pieces)) (no_words_there (strip_carriage_return piece) s.0 s.2)
    ∙ ap (with_lines (Some (record { line = number; kind = s.0 }))) (sym s.3)
    ∙ ap (with_fault lines) (sym s.4)

pub lines_are_split : LinesAreSplit
lines_are_split input read = (
  λ e. subst (AreLinesOf input) e (lines_there 1 (pieces_of input)),
  λ is. lines_again 1 (pieces_of input) read.lines read.fault is,
)
