-- What a splitting says of the words that a line has.
use Rattle.std.proofs.Common.{◌≡◌, ℕ, Bool, true, false, cond, List, Option, Some, None, Result, Ok, Err, refl, ap, subst}
use Rattle.std.specs.Prelude.{IfOk, IfErr, IsUtf8}
use Rattle.std.specs.Str.{is_utf8}
use Rattle.std.proofs.lemmas.Str.{IsUtf8-from_is_utf8, is_utf8-from_IsUtf8}
use Rattle.ak_base.specs.declared.ending.RefusalKind.{RefusalKind}
use Rattle.ak_base.specs.declared.ending.RefusalKind.TheVariants as refusal
use Rattle.ak_input.specs.declared.line.Word.{Word}
use Rattle.ak_input.specs.declared.words.WordsFault.{WordsFault}
use Rattle.ak_input.specs.declared.words.WordsFault.TheVariants as fault
use Rattle.ak_input.specs.LineSeen.{IsFaultOf, Splits, HasNoWords}
use Rattle.ak_input.specs.Words.{IsLine, words_from, words_or_fault, line_words}
use Rattle.ak_input.proofs.WordLaws.{line_again, line_takes}

-- what is read is there
read_words : (read : Option (List Word)) (words : List Word) → words_or_fault read ≡ Ok words → read ≡ Some words
read_words None words e = absurd cc
read_words (Some ws) words e = let same : ws ≡ words = cc in ap (λ (x : List Word). Some x) same

words_are : (line : List ℕ) (words : List Word) → line_words line ≡ Ok words → IsUtf8 line × IsLine 1 line words
words_are line words e = by_test (is_utf8 line) refl e where
  by_test : (utf8 : Bool) → is_utf8 line ≡ utf8 → cond utf8 (words_or_fault (words_from None 1 line)) (Err refusal.NotUtf8) ≡ Ok words → IsUtf8 line × IsLine 1 line words
  by_test true is e = (IsUtf8-from_is_utf8 line is, line_takes words 1 line (read_words (words_from None 1 line) words e))
  by_test false is e = absurd cc

-- what is there is read
words_again : (line : List ℕ) (words : List Word) → IsUtf8 line → IsLine 1 line words → line_words line ≡ Ok words
words_again line words utf8 is = rw (is_utf8-from_IsUtf8 line utf8, line_again words 1 line is) refl

pub split_are : (line : List ℕ) (r : Result (List Word) WordsFault) → Splits r (line_words line) → IfOk r (λ words. IsUtf8 line × IsLine 1 line words)
split_are line (Ok words) given = words_are line words given
split_are line (Err e) given = tt

pub split_only : (line : List ℕ) (r : Result (List Word) WordsFault) → Splits r (line_words line) → (words : List Word) → IsUtf8 line → IsLine 1 line words → Splits r (Ok words)
split_only line r given words utf8 is = subst (λ (split : Result (List Word) RefusalKind). Splits r split) (words_again line words utf8 is) given

no_words : (line : List ℕ) → line_words line ≡ Err refusal.BadWord → IsUtf8 line → (words : List Word) → IsLine 1 line words → ⊥
no_words line e utf8 words is = let again = words_again line words utf8 is in absurd cc

not_utf8 : (line : List ℕ) → line_words line ≡ Err refusal.NotUtf8 → IsUtf8 line → ⊥
not_utf8 line e utf8 = by_read (words_from None 1 line) (rw (is_utf8-from_IsUtf8 line utf8) at e) where
  by_read : (read : Option (List Word)) → words_or_fault read ≡ Err refusal.NotUtf8 → ⊥
  by_read None e = absurd cc
  by_read (Some words) e = absurd cc

utf8_of : (line : List ℕ) → line_words line ≡ Err refusal.BadWord → IsUtf8 line
utf8_of line e = by_test (is_utf8 line) refl e where
  by_test : (utf8 : Bool) → is_utf8 line ≡ utf8 → cond utf8 (words_or_fault (words_from None 1 line)) (Err refusal.NotUtf8) ≡ Err refusal.BadWord → IsUtf8 line
  by_test true is e = IsUtf8-from_is_utf8 line is
  by_test false is e = absurd cc

fault_is : (line : List ℕ) (e : WordsFault) → IsFaultOf e (line_words line) → HasNoWords line e
fault_is line fault.NotUtf8 given = not_utf8 line given
fault_is line fault.BadWord given = (utf8_of line given, no_words line given (utf8_of line given))
fault_is line fault.NoMemory given = tt

pub split_none : (line : List ℕ) (r : Result (List Word) WordsFault) → Splits r (line_words line) → IfErr r (λ e. HasNoWords line e)
split_none line (Ok words) given = tt
split_none line (Err e) given = fault_is line e given
