-- The words that are read of a line are its words, and the words that a line has are read.
use Rattle.std.proofs.Common.{◌≡◌, ℕ, ◌+◌, Bool, true, false, cond, List, [], ◌∷◌, ◌++◌, length, Option, Some, None, refl, sym, ap, subst, ◌∙◌, append_assoc, add-zero, arith}
use Rattle.std.specs.Prelude.{option_map}
use Rattle.std.specs.List.{list_all}
use Rattle.std.proofs.lemmas.List.{append-nil}
use Rattle.std.proofs.lemmas.Bool.{and_parts}
use Rattle.ak_base.proofs.Surface.{bind_some, done, some_is, cond_some}
use Rattle.ak_input.specs.declared.line.Word.{Word}
use Rattle.ak_input.specs.declared.marks.Marks.{Marks}
use Rattle.ak_input.specs.declared.words.Begun.{Begun}
use Rattle.ak_input.specs.Marks.{is_blank, step, plain_step, start, is_outside, ends_before}
use Rattle.ak_base.specs.Option.{◌>>=◌}
use Rattle.ak_input.specs.Words.{GoesOn, IsWordText, is_end, IsLine, begun_at, grown, opened_at, words_from}

-- ---- steps

abbrev word : ℕ → List ℕ → Word
word column bytes = record { column = column; bytes = bytes }

-- ---- what is read

pub record EndsWith (w : Begun) (column : ℕ) (bytes : List ℕ) (words : List Word) (text rest : List ℕ) (tail : List Word) : Type 0 where
  pub parts : bytes ≡ text ++ rest
  pub all : words ≡ word w.word.column (w.word.bytes ++ text) ∷ tail
  pub form : GoesOn w.marks text
  pub ends : is_end rest ≡ true
  pub more : IsLine (column + length text) rest tail

-- what is left to read, where a word is begun or none is
abbrev IsRest : Option Begun → ℕ → List ℕ → List Word → Type 0
IsRest None column bytes words = IsLine column bytes words
IsRest (Some w) column bytes words =
    (text : List ℕ) × (rest : List ℕ) × (tail : List Word) × EndsWith w column bytes words text rest tail

-- one blank more before a line
blank_before : (column b : ℕ) (bytes : List ℕ) (words : List Word) → is_blank b ≡ true → IsLine (column + 1) bytes words → IsLine column (b ∷ bytes) words
blank_before column b bytes [] blank h = rw blank h
blank_before column b bytes (w ∷ words) blank h = (
  b ∷ h.0,
  h.1,
  record {
    parts = ap (λ (t : List ℕ). b ∷ t) h.2.parts;
    blanks = rw blank h.2.blanks;
    place = h.2.place ∙ omega arith;
    form = h.2.form;
    ends = h.2.ends;
  },
  h.3,
)

-- a word that begins a line
word_first : (column b : ℕ) (m : Marks) (bytes : List ℕ) (words : List Word) → is_blank b ≡ false → step start b ≡ Some m → IsRest (Some (begun_at column b m)) (column + 1) bytes words → IsLine column (b ∷ bytes) words
word_first column b m bytes words plain stepped h =
    let line : IsLine column (b ∷ bytes) (word column (b ∷ h.0) ∷ h.2) = (
      [],
      h.1,
      record {
        parts = ap (λ (t : List ℕ). b ∷ t) h.3.parts;
        blanks = refl;
        place = omega arith;
        form = (plain, (m, stepped, h.3.form));
        ends = h.3.ends;
      },
      subst (λ (n : ℕ). IsLine n h.1 h.2) (omega arith) h.3.more,
    ) in
    subst (λ (ws : List Word). IsLine column (b ∷ bytes) ws) (sym h.3.all) line

opened_take : (column b : ℕ) (bytes : List ℕ) (words : List Word) (blank : Bool) → is_blank b ≡ blank
    → ((begun : Option Begun) → words_from begun (column + 1) bytes ≡ Some words → IsRest begun (column + 1) bytes words)
    → (opened_at column b >>= λ begun. words_from begun (column + 1) bytes) ≡ Some words → IsLine column (b ∷ bytes) words
opened_take column b bytes words true is later e = blank_before column b bytes words is (later None (rw is at e))
opened_take column b bytes words false is later e =
    begun_takes (step start b) refl (rw is at e) where
      begun_takes : (o : Option Marks) → step start b ≡ o → (option_map (λ m. Some (begun_at column b m)) o >>= λ begun. words_from begun (column + 1) bytes) ≡ Some words → IsLine column (b ∷ bytes) words
      begun_takes None stepped e = absurd cc
      begun_takes (Some m) stepped e = word_first column b m bytes words is stepped (later (Some (begun_at column b m)) e)

-- what is read later was there
abbrev Later : ℕ → List ℕ → Type 0
Later column bytes = (begun : Option Begun) (words : List Word) → words_from begun (column + 1) bytes ≡ Some words → IsRest begun (column + 1) bytes words

ended_take : (column b : ℕ) (bytes : List ℕ) (w : Begun) (words others : List Word) → Later column bytes → ends_before w.marks b ≡ true
    → (opened_at column b >>= λ begun. words_from begun (column + 1) bytes) ≡ Some others → w.word ∷ others ≡ words → IsRest (Some w) column (b ∷ bytes) words
ended_take column b bytes w words others later is read all =
    let parts = and_parts (is_outside w.marks) (is_end (b ∷ bytes)) is in
    let line = opened_take column b bytes others (is_blank b) refl (λ begun h. later begun others h) read in (
      [],
      b ∷ bytes,
      others,
      record {
        parts = refl;
        all = sym all ∙ ap (λ (t : List ℕ). word w.word.column t ∷ others) (sym (append-nil w.word.bytes));
        form = parts.0;
        ends = parts.1;
        more = subst (λ (n : ℕ). IsLine n (b ∷ bytes) others) (omega arith) line;
      },
    )

goes_take : (column b : ℕ) (bytes : List ℕ) (w : Begun) (words : List Word) (m : Marks) → Later column bytes → ends_before w.marks b ≡ false → step w.marks b ≡ Some m
    → words_from (Some (grown w b m)) (column + 1) bytes ≡ Some words → IsRest (Some w) column (b ∷ bytes) words
goes_take column b bytes w words m later is stepped read =
    let h = later (Some (grown w b m)) words read in (
      b ∷ h.0,
      h.1,
      h.2,
      record {
        parts = ap (λ (t : List ℕ). b ∷ t) h.3.parts;
        all = h.3.all ∙ ap (λ (t : List ℕ). word w.word.column t ∷ h.2) (append_assoc w.word.bytes (b ∷ []) h.0);
        form = (is, (m, stepped, h.3.form));
        ends = h.3.ends;
        more = subst (λ (n : ℕ). IsLine n h.1 h.2) (omega arith) h.3.more;
      },
    )

begun_take : (column b : ℕ) (bytes : List ℕ) (w : Begun) (words : List Word) → Later column bytes → (ends : Bool) → ends_before w.marks b ≡ ends
    → cond ends ((opened_at column b >>= λ begun. words_from begun (column + 1) bytes) >>= λ words. Some (w.word ∷ words)) (step w.marks b >>= λ m. words_from (Some (grown w b m)) (column + 1) bytes) ≡ Some words
    → IsRest (Some w) column (b ∷ bytes) words
begun_take column b bytes w words later true is e =
    let s = bind_some (opened_at column b >>= λ begun. words_from begun (column + 1) bytes) (λ words. Some (w.word ∷ words)) words e in
    ended_take column b bytes w words s.0 later is s.1 (some_is (w.word ∷ s.0) words s.2)
begun_take column b bytes w words later false is e =
    let s = bind_some (step w.marks b) (λ m. words_from (Some (grown w b m)) (column + 1) bytes) words e in
    goes_take column b bytes w words s.0 later is s.1 s.2

-- what is read was there
pub words_take : (bytes : List ℕ) (begun : Option Begun) (column : ℕ) (words : List Word) → words_from begun column bytes ≡ Some words → IsRest begun column bytes words
unfolding words_from
words_take [] None column words e = subst (λ (ws : List Word). IsLine column [] ws) (some_is [] words e) refl
words_take [] (Some w) column words e =
    let t = cond_some (is_outside w.marks) (w.word ∷ []) words e in (
      [],
      [],
      [],
      record {
        parts = refl;
        all = sym t.1 ∙ ap (λ (t : List ℕ). word w.word.column t ∷ []) (sym (append-nil w.word.bytes));
        form = t.0;
        ends = refl;
        more = refl;
      },
    )
words_take (b ∷ bytes) None column words e = opened_take column b bytes words (is_blank b) refl (λ begun h. words_take bytes begun (column + 1) words h) e
words_take (b ∷ bytes) (Some w) column words e =
    begun_take column b bytes w words (λ begun ws h. words_take bytes begun (column + 1) ws h) (ends_before w.marks b) refl e

-- ---- what is there is read

goes_again : (text : List ℕ) (w : Begun) (column : ℕ) (rest : List ℕ) (words : List Word) → GoesOn w.marks text → is_end rest ≡ true → words_from None (column + length text) rest ≡ Some words → words_from (Some w) column (text ++ rest) ≡ Some (word w.word.column (w.word.bytes ++ text) ∷ words)
unfolding words_from
goes_again [] w column [] words form ends later =
    let none : words ≡ [] = sym (some_is [] words later) in
    rw (form, none, append-nil w.word.bytes) refl
goes_again [] w column (c ∷ rest) words form ends later =
    let same = subst (λ (n : ℕ). words_from None n (c ∷ rest) ≡ Some words) (add-zero column) later in
    rw (form, ends, same, append-nil w.word.bytes) refl
goes_again (b ∷ text) w column rest words form ends later =
    let next = goes_again text (grown w b form.1.0) (column + 1) rest words form.1.2 ends (subst (λ (n : ℕ). words_from None n rest ≡ Some words) (omega arith) later) in
    rw (form.0, form.1.1) (next ∙ ap (λ (t : List ℕ). done (word w.word.column t ∷ words)) (append_assoc w.word.bytes (b ∷ []) text))

first_again : (bytes : List ℕ) (column : ℕ) (rest : List ℕ) (words : List Word) → IsWordText bytes → is_end rest ≡ true → words_from None (column + length bytes) rest ≡ Some words → words_from None column (bytes ++ rest) ≡ Some (word column bytes ∷ words)
unfolding words_from
first_again [] column rest words form ends later = absurd cc
first_again (b ∷ bytes) column rest words form ends later =
    let same : plain_step start b ≡ form.1.0 = some_is (plain_step start b) form.1.0 form.1.1 in
    let next = goes_again bytes (begun_at column b form.1.0) (column + 1) rest words form.1.2 ends (subst (λ (n : ℕ). words_from None n rest ≡ Some words) (omega arith) later) in
    rw form.0 (subst (λ (m : Marks). words_from (Some (begun_at column b m)) (column + 1) (bytes ++ rest) ≡ Some (word column (b ∷ bytes) ∷ words)) (sym same) next)

gap_again : (gap : List ℕ) (column : ℕ) (text : List ℕ) (words : List Word) → list_all is_blank gap ≡ true → words_from None (column + length gap) text ≡ Some words → words_from None column (gap ++ text) ≡ Some words
unfolding words_from
gap_again [] column text words blanks later = subst (λ (n : ℕ). words_from None n text ≡ Some words) (add-zero column) later
gap_again (b ∷ gap) column text words blanks later =
    let parts = and_parts (is_blank b) (list_all is_blank gap) blanks in
    rw parts.0 (gap_again gap (column + 1) text words parts.1 (subst (λ (n : ℕ). words_from None n text ≡ Some words) (omega arith) later))

blanks_again : (text : List ℕ) (column : ℕ) → list_all is_blank text ≡ true → words_from None column text ≡ Some []
unfolding words_from
blanks_again [] column blanks = refl
blanks_again (b ∷ text) column blanks =
    let parts = and_parts (is_blank b) (list_all is_blank text) blanks in
    rw parts.0 (blanks_again text (column + 1) parts.1)

pub line_again : (words : List Word) (column : ℕ) (text : List ℕ) → IsLine column text words → words_from None column text ≡ Some words
line_again [] column text h = blanks_again text column h
line_again (w ∷ words) column text h =
    let more = line_again words (w.column + length w.bytes) h.1 h.3 in
    let first = first_again w.bytes w.column h.1 words h.2.form h.2.ends more in
    let all = gap_again h.0 column (w.bytes ++ h.1) (w ∷ words) h.2.blanks (subst (λ (n : ℕ). words_from None n (w.bytes ++ h.1) ≡ Some (w ∷ words)) h.2.place first) in
    subst (λ (t : List ℕ). words_from None column t ≡ Some (w ∷ words)) (sym h.2.parts) all

pub line_takes : (words : List Word) (column : ℕ) (text : List ℕ) → words_from None column text ≡ Some words → IsLine column text words
line_takes words column text e = words_take text None column words e
