-- The laws: a line tells its entry, and has no line end in it.
use Rattle.std.proofs.Common.{◌≡◌, ℕ, ◌+◌, cond, List, [], ◌∷◌, ◌++◌, refl, sym, ap, ◌∙◌, arith}
use Rattle.std.specs.Prelude.{count_by, ◌==◌}
use Rattle.std.specs.Fmt.{decimal}
use Rattle.std.specs.List.{list_all}
use Rattle.std.proofs.lemmas.Bool.{and_parts, ltb-true, ne_eqb}
use Rattle.std.proofs.lemmas.List.Sums.{sum_by-append}
use Rattle.ak_base.proofs.Surface.{some_is}
use Rattle.ak_journal.specs.Laws.{EntriesAreLines, LinesTellEntries}
use Rattle.ak_journal.specs.Line.{event_words, object_words}
use Rattle.ak_journal.specs.Parting.{parted}
use Rattle.ak_journal.specs.Parts.{behind_blanks, thread_text}
use Rattle.ak_journal.specs.Reading.{entry_of}
use Rattle.ak_journal.proofs.Dark.{AreDark, IsDark, is_dark}
use Rattle.ak_journal.proofs.DarkWords.{entry_dark}
use Rattle.ak_journal.proofs.EntryAgain.{entry_again}

pub lines_tell : LinesTellEntries
lines_tell d e legible_d legible_e same =
    some_is d e (sym (entry_again d legible_d) ∙ ap (λ (line : List ℕ). entry_of (parted line)) same ∙ entry_again e legible_e)

-- ---- line ends
abbrev ends : List ℕ → ℕ
ends text = count_by (λ (b : ℕ). b == 10) text

ends-append : (xs ys : List ℕ) → ends (xs ++ ys) ≡ ends xs + ends ys
ends-append xs ys = sum_by-append (λ b. cond (b == 10) 1 0) xs ys

word_end : (word : List ℕ) → IsDark word → ends word ≡ 0
word_end [] dark = refl
word_end (b ∷ word) dark =
    let parts = and_parts (is_dark b) (list_all is_dark word) dark.all in
    let over = ltb-true 32 b parts.0 in
    rw (ne_eqb b 10 (λ e. omega (arith, e, over))) (word_end word (record { all = parts.1 }))

words_end : (words : List (List ℕ)) → AreDark words → ends (behind_blanks words) ≡ 0
words_end [] dark = refl
words_end (word ∷ words) dark = ends-append word (behind_blanks words) ∙ omega (arith, word_end word dark.0, words_end words dark.1)

line_end : (word : List ℕ) (words : List (List ℕ)) → IsDark word → AreDark words → ends (word ++ behind_blanks words) ≡ 0
line_end word words dark others = ends-append word (behind_blanks words) ∙ omega (arith, word_end word dark, words_end words others)

pub are_lines : EntriesAreLines
are_lines e legible = let dark = entry_dark e legible in line_end (decimal e.stamp) (thread_text e.by.0 ∷ (object_words e.object ++ event_words e.event)) dark.0 dark.1
