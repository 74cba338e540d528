-- Reading the words of a line byte by byte, as a loop does.
use Rattle.std.proofs.Common.{◌≡◌, ℕ, ◌+◌, ◌≤◌, true, false, List, [], ◌∷◌, ◌++◌, length, drop, Option, Some, None, Result, Ok, Err, refl, sym, ap, ◌∙◌, append_assoc}
use Rattle.std.specs.Prelude.{IfOk}
use Rattle.std.specs.Str.{is_utf8}
use Rattle.std.proofs.lemmas.List.{append-nil, drop_all}
use Rattle.ak_input.specs.declared.line.Word.{Word}
use Rattle.ak_input.specs.declared.words.Begun.{Begun}
use Rattle.ak_input.specs.declared.words.WordsFault.{WordsFault}
use Rattle.ak_input.specs.declared.words.WordsFault.TheVariants as fault
use Rattle.ak_input.specs.LineSeen.{Fails, IsFaultOf}
use Rattle.ak_input.specs.Marks.{step, is_outside, ends_before}
use Rattle.ak_base.specs.Option.{◌>>=◌}
use Rattle.ak_input.specs.Words.{grown, opened_at, words_behind, words_from, line_words}

pub words_end : (words : List Word) (begun : Option Begun) (column i : ℕ) (line : List ℕ) (total : Option (List Word)) → length line ≤ i → begun ≡ None
    → words_behind words (words_from begun column (drop i line)) ≡ total → total ≡ Some words
unfolding words_from
words_end words begun column i line total le none so_far =
    sym so_far ∙ rw (drop_all i line le, none, append-nil words) refl

pub word_ends : (words : List Word) (begun : Option Begun) (last : Begun) (column i : ℕ) (line : List ℕ) (total : Option (List Word)) → length line ≤ i → begun ≡ Some last → is_outside last.marks ≡ true
    → words_behind words (words_from begun column (drop i line)) ≡ total → total ≡ Some (words ++ last.word ∷ [])
unfolding words_from
word_ends words begun last column i line total le some is so_far =
    sym so_far ∙ rw (drop_all i line le, some, is) refl

pub word_open : (words : List Word) (begun : Option Begun) (last : Begun) (column i : ℕ) (line : List ℕ) (total : Option (List Word)) → length line ≤ i → begun ≡ Some last → is_outside last.marks ≡ false
    → words_behind words (words_from begun column (drop i line)) ≡ total → total ≡ None
unfolding words_from
word_open words begun last column i line total le some is so_far =
    sym so_far ∙ rw (drop_all i line le, some, is) refl

-- ---- one byte

pub opened_ok : (r : Result (Option Begun) WordsFault) (old : List Word) (begun : Option Begun) (column b : ℕ) → begun ≡ None
    → IfOk r (λ after. opened_at column b ≡ Some after)
    → IfOk r (λ after. (bytes : List ℕ) → words_behind old (words_from begun column (b ∷ bytes)) ≡ words_behind old (words_from after (column + 1) bytes))
unfolding words_from
opened_ok (Err e) old begun column b none is = tt
opened_ok (Ok after) old begun column b none is = λ bytes. rw (none, is) refl

word_behind : (old : List Word) (word : Word) (read : Option (List Word)) → words_behind old (read >>= λ words. Some (word ∷ words)) ≡ words_behind (old ++ word ∷ []) read
word_behind old word None = refl
word_behind old word (Some words) = ap (λ (all : List Word). Some all) (sym (append_assoc old (word ∷ []) words))

pub ended_ok : (r : Result (Option Begun) WordsFault) (old new : List Word) (begun : Option Begun) (w : Begun) (column b : ℕ) → begun ≡ Some w → ends_before w.marks b ≡ true
    → new ≡ old ++ w.word ∷ []
    → IfOk r (λ after. opened_at column b ≡ Some after)
    → IfOk r (λ after. (bytes : List ℕ) → words_behind old (words_from begun column (b ∷ bytes)) ≡ words_behind new (words_from after (column + 1) bytes))
unfolding words_from
ended_ok (Err e) old new begun w column b some ends grown is = tt
ended_ok (Ok after) old new begun w column b some ends grown is = λ bytes. rw (some, ends, is, grown) (word_behind old w.word (words_from after (column + 1) bytes))

pub goes_ok : (old : List Word) (begun : Option Begun) (w v : Begun) (column b : ℕ) → begun ≡ Some w → ends_before w.marks b ≡ false
    → (step w.marks b ≡ Some v.marks) × (v ≡ grown w b v.marks)
    → (bytes : List ℕ) → words_behind old (words_from begun column (b ∷ bytes)) ≡ words_behind old (words_from (Some v) (column + 1) bytes)
unfolding words_from
goes_ok old begun w v column b some ends is bytes =
    rw (some, ends, is.0) (ap (λ (x : Begun). words_behind old (words_from (Some x) (column + 1) bytes)) (sym is.1))

pub goes_fails : (e : WordsFault) (begun : Option Begun) (w : Begun) (column b : ℕ) → begun ≡ Some w → ends_before w.marks b ≡ false
    → Fails e (step w.marks b) → (bytes : List ℕ) → Fails e (words_from begun column (b ∷ bytes))
unfolding words_from
goes_fails fault.NotUtf8 begun w column b some ends fails bytes = absurd fails
goes_fails fault.BadWord begun w column b some ends fails bytes = rw (some, ends, fails) refl
goes_fails fault.NoMemory begun w column b some ends fails bytes = tt

-- ---- the whole line

pub split_ok : (words : List Word) (line : List ℕ) → is_utf8 line ≡ true → words_from None 1 line ≡ Some words → line_words line ≡ Ok words
split_ok words line utf8 is = rw (utf8, is) refl

pub split_fails : (e : WordsFault) (line : List ℕ) → is_utf8 line ≡ true → Fails e (words_from None 1 line) → IsFaultOf e (line_words line)
split_fails fault.NotUtf8 line utf8 fails = absurd fails
split_fails fault.BadWord line utf8 fails = rw (utf8, fails) refl
split_fails fault.NoMemory line utf8 fails = tt
