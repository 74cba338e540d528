-- Words in order, and the parts of a line that may be left out, are read as they are written. A part is read where the words behind
-- it do not begin with what would be taken for it.
use Rattle.std.proofs.Common.{◌≡◌, ℕ, Bool, true, List, [], ◌∷◌, ◌++◌, Option, Some, None, refl, sym, ap, subst, ◌∙◌, inl, inr, ⊎_elim, arith}
use Rattle.std.specs.Prelude.{option_map}
use Rattle.std.specs.List.{AllZip}
use Rattle.std.specs.Str.{bytes_eq}
use Rattle.std.proofs.lemmas.List.{append-nil}
use Rattle.std.proofs.lemmas.Slice.Eq.{bytes_eq-Decides}
use Rattle.ak_base.specs.declared.limited.Limited.{Limited}
use Rattle.ak_base.specs.declared.limited.Limited.TheVariants.{Within}
use Rattle.ak_base.specs.Word.{is_word}
use Rattle.ak_base.specs.declared.code.Code.{Code}
use Rattle.ak_base.specs.Option.{where_true, ◌>>=◌}
use Rattle.ak_base.proofs.Surface.{bind_some, cond_some, done, some_is}
use Rattle.ak_input.specs.Written.{WritesNumber, quoted_text, code_of}
use Rattle.ak_input.proofs.Surface.{number_takes, number_again}
use Rattle.ak_describe.specs.Forms.{code_found, code_behind, name_found, name_behind, form_of, text_found, text_behind}
use Rattle.ak_describe.specs.Grammar.{IsName, IsPart, AreParts, IsTextPart, WritesCode, WritesText}
use Rattle.ak_describe.specs.Words.{first_of, behind, ends, code_at, name_at, name_of, many_from, many, filled, some_behind}
use Rattle.ak_describe.proofs.grammar.Codes.{code_again_is, code_takes_is}
use Rattle.ak_describe.proofs.grammar.Words.{same_bytes, name_takes, name_again, text_takes, text_again}

-- what is read, and the words behind it
abbrev pub read_as : {A : Type 0} → A → List (List ℕ) → Option (A × List (List ℕ))
read_as x rest = Some (x, rest)

pub read_is : {A : Type 0} (x y : A) (rest others : List (List ℕ)) → read_as x rest ≡ read_as y others → (x ≡ y) × (rest ≡ others)
read_is {A} x y rest others e = (
  some_is x y (ap (λ (o : Option (A × List (List ℕ))). option_map (λ (p : A × List (List ℕ)). p.0) o) e),
  some_is rest others (ap (λ (o : Option (A × List (List ℕ))). option_map (λ (p : A × List (List ℕ)). p.1) o) e),
)

-- the readers of a word take just what it writes
abbrev pub Takes : {A : Type 0} → (List ℕ → Option A) → (List ℕ → A → Type 0) → Type 0
Takes {A} read Writes = (word : List ℕ) (x : A) → read word ≡ Some x → Writes word x

abbrev pub TakesAll : {A : Type 0} → (List ℕ → Option A) → (List ℕ → A → Type 0) → Type 0
TakesAll {A} read Writes = (word : List ℕ) (x : A) → Writes word x → read word ≡ Some x

-- ---- the first words
pub ends_nil : (words : List (List ℕ)) → ends words ≡ true → words ≡ []
ends_nil [] e = refl
ends_nil (w ∷ words) e = absurd cc

-- the words are all those of the part, where none is left
pub all_of : (words part rest : List (List ℕ)) → words ≡ part ++ rest → rest ≡ [] → words ≡ part
all_of words [] rest is none = is ∙ none
all_of words (w ∷ part) rest is none = is ∙ ap (λ (ws : List (List ℕ)). w ∷ ws) (all_of (part ++ rest) part rest refl none)

pub behind_takes : (words : List (List ℕ)) (key : List ℕ) (rest : List (List ℕ)) → behind words key ≡ Some rest → words ≡ key ∷ rest
behind_takes [] key rest e = absurd cc
behind_takes (w ∷ words) key rest e =
    let t = cond_some (bytes_eq w key) words rest e in
    ap (λ (v : List ℕ). v ∷ words) ((bytes_eq-Decides w key).0 t.0) ∙ ap (λ (ws : List (List ℕ)). key ∷ ws) t.1

pub behind_again : (key : List ℕ) (rest : List (List ℕ)) → behind (key ∷ rest) key ≡ Some rest
behind_again key rest = ap (λ (b : Bool). where_true b rest) (same_bytes key)

-- the words do not begin with the key
abbrev pub NotFirst : List ℕ → List (List ℕ) → Type 0
NotFirst key words = behind words key ≡ None

-- they begin with none that could be read
abbrev pub IsStop : {A : Type 0} → (List ℕ → Option A) → List (List ℕ) → Type 0
IsStop read [] = Unit {0}
IsStop read (w ∷ words) = read w ≡ None

-- the first one, read
abbrev pub word_at : {A : Type 0} → (List ℕ → Option A) → List (List ℕ) → Option (A × List (List ℕ))
word_at read words = first_of words >>= λ word. read word.0 >>= λ x. Some (x, word.1)

pub word_at-takes : {A : Type 0} (read : List ℕ → Option A) (words : List (List ℕ)) (x : A) (rest : List (List ℕ)) → word_at read words ≡ read_as x rest → (w : List ℕ) × (words ≡ w ∷ rest) × (read w ≡ Some x)
word_at-takes read [] x rest e = absurd cc
word_at-takes {A} read (w ∷ words) x rest e =
    let s = bind_some {B = A × List (List ℕ)} (read w) (λ (y : A). read_as y words) (x, rest) e in
    let p = read_is s.0 x words rest s.2 in
    (w, ap (λ (ws : List (List ℕ)). w ∷ ws) p.1, s.1 ∙ ap (λ (y : A). done y) p.0)

pub word_at-again : {A : Type 0} (read : List ℕ → Option A) (w : List ℕ) (rest : List (List ℕ)) (x : A) → read w ≡ Some x → word_at read (w ∷ rest) ≡ read_as x rest
word_at-again {A} read w rest x e = ap (λ (o : Option A). o >>= (λ (y : A). read_as y rest)) e

-- the first one, a name
pub name_at-takes : (words : List (List ℕ)) (name : List ℕ) (rest : List (List ℕ)) → word_at name_of words ≡ read_as name rest → (words ≡ name ∷ rest) × (is_word name ≡ true)
name_at-takes words name rest e =
    let w = word_at-takes name_of words name rest e in
    let is = name_takes w.0 name w.2 in
    (w.1 ∙ ap (λ (v : List ℕ). v ∷ rest) is.1, subst (λ (v : List ℕ). is_word v ≡ true) is.1 is.0)

pub name_at-again : (name : List ℕ) (rest : List (List ℕ)) → is_word name ≡ true → word_at name_of (name ∷ rest) ≡ read_as name rest
name_at-again name rest is = word_at-again name_of name rest name (name_again name name (is, refl))

-- one word alone
pub only_takes : {A : Type 0} (read : List ℕ → Option A) (words : List (List ℕ)) (x : A) → (word_at read words >>= λ found. where_true (ends found.1) found.0) ≡ Some x → (w : List ℕ) × (words ≡ w ∷ []) × (read w ≡ Some x)
only_takes {A} read words x e =
    let s = bind_some (word_at read words) (λ (found : A × List (List ℕ)). where_true (ends found.1) found.0) x e in
    let t = cond_some (ends s.0.1) s.0.0 x s.2 in
    let w = word_at-takes read words s.0.0 s.0.1 s.1 in
    (w.0, w.1 ∙ ap (λ (ws : List (List ℕ)). w.0 ∷ ws) (ends_nil s.0.1 t.0), w.2 ∙ ap (λ (y : A). done y) t.1)

pub only_again : {A : Type 0} (read : List ℕ → Option A) (w : List ℕ) (x : A) → read w ≡ Some x → (word_at read (w ∷ []) >>= λ found. where_true (ends found.1) found.0) ≡ Some x
only_again {A} read w x e = ap (λ (o : Option A). (o >>= (λ (y : A). read_as y [])) >>= (λ (found : A × List (List ℕ)). where_true (ends found.1) found.0)) e

-- ---- a part that may be left out
-- these words are such a part, and the rest
abbrev pub IsBehind : {A : Type 0} → (A → List (List ℕ) → Type 0) → A → List (List ℕ) → List (List ℕ) → Type 0
IsBehind Is x words rest = (part : List (List ℕ)) × (words ≡ part ++ rest) × Is x part

abbrev pub part_at : {A : Type 0} → (List ℕ → Option A) → List (List ℕ) → Option (List (List ℕ)) → Option (Option A × List (List ℕ))
part_at read words None = Some (None, words)
part_at read words (Some rest) = word_at read rest >>= λ found. Some (Some found.0, found.1)

pub part_takes : {A : Type 0} (read : List ℕ → Option A) (Writes : List ℕ → A → Type 0) (key : List ℕ) (words : List (List ℕ)) (x : Option A) (rest : List (List ℕ)) → Takes read Writes
    → part_at read words (behind words key) ≡ read_as x rest → (part : List (List ℕ)) × (words ≡ part ++ rest) × IsPart key Writes x part
part_takes {A} read Writes key words x rest takes e = by_key (behind words key) refl e where
  by_key : (o : Option (List (List ℕ))) → behind words key ≡ o → part_at read words o ≡ read_as x rest → (part : List (List ℕ)) × (words ≡ part ++ rest) × IsPart key Writes x part
  by_key None is e =
      let p = read_is {A = Option A} None x words rest e in
      ([], p.1, subst (λ (y : Option A). IsPart key Writes y []) p.0 refl)
  by_key (Some after) is e =
      let s = bind_some {B = Option A × List (List ℕ)} (word_at read after) (λ (found : A × List (List ℕ)). read_as {A = Option A} (Some found.0) found.1) (x, rest) e in
      let p = read_is {A = Option A} (Some s.0.0) x s.0.1 rest s.2 in
      let w = word_at-takes read after s.0.0 s.0.1 s.1 in (
        key ∷ w.0 ∷ [],
        behind_takes words key after is ∙ ap (λ (ws : List (List ℕ)). key ∷ ws) (w.1 ∙ ap (λ (ws : List (List ℕ)). w.0 ∷ ws) p.1),
        subst (λ (y : Option A). IsPart key Writes y (key ∷ w.0 ∷ [])) p.0 (w.0, refl, takes w.0 s.0.0 w.2),
      )

pub part_again : {A : Type 0} (read : List ℕ → Option A) (Writes : List ℕ → A → Type 0) (key : List ℕ) (part : List (List ℕ)) (x : Option A) (rest : List (List ℕ)) → TakesAll read Writes → NotFirst key rest
    → IsPart key Writes x part → part_at read (part ++ rest) (behind (part ++ rest) key) ≡ read_as x rest
part_again {A} read Writes key part None rest all none is =
    subst (λ (ps : List (List ℕ)). part_at read (ps ++ rest) (behind (ps ++ rest) key) ≡ read_as {A = Option A} None rest) (sym is) (ap (λ (o : Option (List (List ℕ))). part_at read rest o) none)
part_again {A} read Writes key part (Some x) rest all none is =
    subst (λ (ps : List (List ℕ)). part_at read (ps ++ rest) (behind (ps ++ rest) key) ≡ read_as {A = Option A} (Some x) rest) (sym is.1)
    (ap (λ (o : Option (List (List ℕ))). part_at read (key ∷ is.0 ∷ rest) o) (behind_again key (is.0 ∷ rest))
    ∙ ap (λ (o : Option (A × List (List ℕ))). o >>= (λ (found : A × List (List ℕ)). read_as {A = Option A} (Some found.0) found.1)) (word_at-again read is.0 rest x (all is.0 x is.2)))

-- what holds of a line behind the part, and where the part begins it, holds of it with the part
pub part_begins : {A : Type 0} (Writes : List ℕ → A → Type 0) (key : List ℕ) (x : Option A) (part rest : List (List ℕ)) (P : List (List ℕ) → Type 0) → IsPart key Writes x part → P rest → ((more : List (List ℕ)) → P (key ∷ more)) → P (part ++ rest)
part_begins Writes key None part rest P is here there = subst (λ (ps : List (List ℕ)). P (ps ++ rest)) (sym is) here
part_begins Writes key (Some x) part rest P is here there = subst (λ (ps : List (List ℕ)). P (ps ++ rest)) (sym is.1) (there (is.0 ∷ rest))

-- ---- a code, a name
code_found-is : (words : List (List ℕ)) (o : Option (List (List ℕ))) → code_found words o ≡ part_at code_of words o
unfolding code_at
code_found-is words None = refl
code_found-is words (Some rest) = refl

name_found-is : (words : List (List ℕ)) (o : Option (List (List ℕ))) → name_found words o ≡ part_at name_of words o
unfolding name_at
name_found-is words None = refl
name_found-is words (Some rest) = refl

pub code_part_takes : (key : List ℕ) (words : List (List ℕ)) (x : Option Code) (rest : List (List ℕ)) → code_behind words key ≡ read_as x rest → (part : List (List ℕ)) × (words ≡ part ++ rest) × IsPart key WritesCode x part
code_part_takes key words x rest e = part_takes code_of WritesCode key words x rest code_takes_is (sym (code_found-is words (behind words key)) ∙ e)

pub code_part_again : (key : List ℕ) (part : List (List ℕ)) (x : Option Code) (rest : List (List ℕ)) → NotFirst key rest → IsPart key WritesCode x part → code_behind (part ++ rest) key ≡ read_as x rest
code_part_again key part x rest none is = code_found-is (part ++ rest) (behind (part ++ rest) key) ∙ part_again code_of WritesCode key part x rest code_again_is none is

pub name_part_takes : (key : List ℕ) (words : List (List ℕ)) (x : Option (List ℕ)) (rest : List (List ℕ)) → name_behind words key ≡ read_as x rest → (part : List (List ℕ)) × (words ≡ part ++ rest) × IsPart key IsName x part
name_part_takes key words x rest e = part_takes name_of IsName key words x rest name_takes (sym (name_found-is words (behind words key)) ∙ e)

pub name_part_again : (key : List ℕ) (part : List (List ℕ)) (x : Option (List ℕ)) (rest : List (List ℕ)) → NotFirst key rest → IsPart key IsName x part → name_behind (part ++ rest) key ≡ read_as x rest
name_part_again key part x rest none is = name_found-is (part ++ rest) (behind (part ++ rest) key) ∙ part_again name_of IsName key part x rest name_again none is

-- ---- one or more behind a key
abbrev AreTaken : {A : Type 0} → (List ℕ → A → Type 0) → List (List ℕ) → List A × List (List ℕ) → Type 0
AreTaken Writes words got = (texts : List (List ℕ)) × (words ≡ texts ++ got.1) × AllZip Writes texts got.0

one_more : {A : Type 0} (read : List ℕ → Option A) (Writes : List ℕ → A → Type 0) (w : List ℕ) (words : List (List ℕ)) (o : Option A) (others : List A × List (List ℕ)) → Takes read Writes → read w ≡ o
    → AreTaken Writes words others → AreTaken Writes (w ∷ words) (many_from o w words others)
one_more read Writes w words None others takes is later = ([], refl, tt)
one_more read Writes w words (Some x) others takes is later = (w ∷ later.0, ap (λ (ws : List (List ℕ)). w ∷ ws) later.1, (takes w x is, later.2))

many_take : {A : Type 0} (read : List ℕ → Option A) (Writes : List ℕ → A → Type 0) (words : List (List ℕ)) → Takes read Writes → AreTaken Writes words (many read words)
many_take read Writes [] takes = ([], refl, tt)
many_take read Writes (w ∷ words) takes = one_more read Writes w words (read w) (many read words) takes refl (many_take read Writes words takes)

filled_take : {A : Type 0} (Writes : List ℕ → A → Type 0) (key : List ℕ) (words after : List (List ℕ)) (found : List A) (left : List (List ℕ)) (xs : List A) (rest texts : List (List ℕ)) → words ≡ key ∷ after
    → filled found left ≡ read_as xs rest → after ≡ texts ++ left → AllZip Writes texts found → (part : List (List ℕ)) × (words ≡ part ++ rest) × AreParts key Writes xs part
filled_take Writes key words after [] left xs rest texts is e all written = absurd cc
filled_take {A} Writes key words after (x ∷ found) left xs rest texts is e all written =
    let p = read_is {A = List A} (x ∷ found) xs left rest e in (
      key ∷ texts,
      is ∙ ap (λ (ws : List (List ℕ)). key ∷ ws) (all ∙ ap (λ (ws : List (List ℕ)). texts ++ ws) p.1),
      subst (λ (ys : List A). AreParts key Writes ys (key ∷ texts)) p.0 (texts, refl, written),
    )

pub parts_take : {A : Type 0} (read : List ℕ → Option A) (Writes : List ℕ → A → Type 0) (key : List ℕ) (words : List (List ℕ)) (xs : List A) (rest : List (List ℕ)) → Takes read Writes
    → some_behind read words (behind words key) ≡ read_as xs rest → (part : List (List ℕ)) × (words ≡ part ++ rest) × AreParts key Writes xs part
parts_take {A} read Writes key words xs rest takes e = by_key (behind words key) refl e where
  by_key : (o : Option (List (List ℕ))) → behind words key ≡ o → some_behind read words o ≡ read_as xs rest → (part : List (List ℕ)) × (words ≡ part ++ rest) × AreParts key Writes xs part
  by_key None is e =
      let p = read_is {A = List A} [] xs words rest e in
      ([], p.1, subst (λ (ys : List A). AreParts key Writes ys []) p.0 refl)
  by_key (Some after) is e =
      let m = many_take read Writes after takes in
      filled_take Writes key words after (many read after).0 (many read after).1 xs rest m.0 (behind_takes words key after is) e m.1 m.2

many_again : {A : Type 0} (read : List ℕ → Option A) (Writes : List ℕ → A → Type 0) (texts : List (List ℕ)) (xs : List A) (rest : List (List ℕ)) → TakesAll read Writes → IsStop read rest → AllZip Writes texts xs → many read (texts ++ rest) ≡ (xs, rest)
many_again read Writes [] [] [] all stop written = refl
many_again {A} read Writes [] [] (w ∷ rest) all stop written = ap (λ (o : Option A). many_from o w rest (many read rest)) stop
many_again read Writes [] (x ∷ xs) rest all stop written = absurd written
many_again read Writes (t ∷ texts) [] rest all stop written = absurd written
many_again {A} read Writes (t ∷ texts) (x ∷ xs) rest all stop written =
    ap (λ (o : Option A). many_from o t (texts ++ rest) (many read (texts ++ rest))) (all t x written.0)
    ∙ ap (λ (others : List A × List (List ℕ)). many_from (Some x) t (texts ++ rest) others) (many_again read Writes texts xs rest all stop written.1)

pub parts_again : {A : Type 0} (read : List ℕ → Option A) (Writes : List ℕ → A → Type 0) (key : List ℕ) (part : List (List ℕ)) (xs : List A) (rest : List (List ℕ)) → TakesAll read Writes → NotFirst key rest → IsStop read rest
    → AreParts key Writes xs part → some_behind read (part ++ rest) (behind (part ++ rest) key) ≡ read_as xs rest
parts_again {A} read Writes key part [] rest all none stop is =
    subst (λ (ps : List (List ℕ)). some_behind read (ps ++ rest) (behind (ps ++ rest) key) ≡ read_as {A = List A} [] rest) (sym is) (ap (λ (o : Option (List (List ℕ))). some_behind read rest o) none)
parts_again {A} read Writes key part (x ∷ xs) rest all none stop is =
    subst (λ (ps : List (List ℕ)). some_behind read (ps ++ rest) (behind (ps ++ rest) key) ≡ read_as {A = List A} (x ∷ xs) rest) (sym is.1)
    (ap (λ (o : Option (List (List ℕ))). some_behind read (key ∷ (is.0 ++ rest)) o) (behind_again key (is.0 ++ rest))
    ∙ ap (λ (found : List A × List (List ℕ)). filled found.0 found.1) (many_again read Writes is.0 (x ∷ xs) rest all stop is.2))

pub parts_begin : {A : Type 0} (Writes : List ℕ → A → Type 0) (key : List ℕ) (xs : List A) (part rest : List (List ℕ)) (P : List (List ℕ) → Type 0) → AreParts key Writes xs part → P rest → ((more : List (List ℕ)) → P (key ∷ more)) → P (part ++ rest)
parts_begin Writes key [] part rest P is here there = subst (λ (ps : List (List ℕ)). P (ps ++ rest)) (sym is) here
parts_begin Writes key (x ∷ xs) part rest P is here there = subst (λ (ps : List (List ℕ)). P (ps ++ rest)) (sym is.1) (there (is.0 ++ rest))

pub form_takes : (word : List ℕ) (n : ℕ) → form_of word ≡ Some n → WritesNumber 1 7 word n
form_takes word n e = number_takes 1 7 word n (omega arith) e

pub form_again : (word : List ℕ) (n : ℕ) → WritesNumber 1 7 word n → form_of word ≡ Some n
form_again word n is = number_again 1 7 word n (omega arith) is

-- ---- a text behind a key
pub text_part_takes : (key : List ℕ) (words : List (List ℕ)) (text : Limited (List ℕ)) (rest : List (List ℕ)) → text_behind words key ≡ read_as text rest → (part : List (List ℕ)) × (words ≡ part ++ rest) × IsTextPart key text part
text_part_takes key words text rest e = by_key (behind words key) refl e where
  by_key : (o : Option (List (List ℕ))) → behind words key ≡ o → text_found words o ≡ read_as text rest → (part : List (List ℕ)) × (words ≡ part ++ rest) × IsTextPart key text part
  by_key None is e =
      let p = read_is {A = Limited (List ℕ)} (Within []) text words rest e in
      ([], p.1, inl (refl, sym p.0))
  by_key (Some after) is e =
      let w = word_at-takes quoted_text after text rest e in
      (key ∷ w.0 ∷ [], behind_takes words key after is ∙ ap (λ (ws : List (List ℕ)). key ∷ ws) w.1, inr (w.0, refl, text_takes w.0 text w.2))

text_left_out : (key : List ℕ) (part : List (List ℕ)) (text : Limited (List ℕ)) (rest : List (List ℕ)) → NotFirst key rest → part ≡ [] → text ≡ Within [] → text_behind (part ++ rest) key ≡ read_as text rest
text_left_out key part text rest none is empty =
    subst (λ (ps : List (List ℕ)). text_found (ps ++ rest) (behind (ps ++ rest) key) ≡ read_as text rest) (sym is)
    (ap (λ (o : Option (List (List ℕ))). text_found rest o) none ∙ ap (λ (t : Limited (List ℕ)). read_as t rest) (sym empty))

text_written : (key : List ℕ) (part : List (List ℕ)) (text : Limited (List ℕ)) (rest : List (List ℕ)) (word : List ℕ) → part ≡ key ∷ word ∷ [] → WritesText word text → text_behind (part ++ rest) key ≡ read_as text rest
text_written key part text rest word is written =
    subst (λ (ps : List (List ℕ)). text_found (ps ++ rest) (behind (ps ++ rest) key) ≡ read_as text rest) (sym is)
    (ap (λ (o : Option (List (List ℕ))). text_found (key ∷ word ∷ rest) o) (behind_again key (word ∷ rest)) ∙ word_at-again quoted_text word rest text (text_again word text written))

pub text_part_again : (key : List ℕ) (part : List (List ℕ)) (text : Limited (List ℕ)) (rest : List (List ℕ)) → NotFirst key rest → IsTextPart key text part → text_behind (part ++ rest) key ≡ read_as text rest
text_part_again key part text rest none is =
    ⊎_elim (λ left. text_left_out key part text rest none left.0 left.1) (λ written. text_written key part text rest written.0 written.1 written.2) is

pub text_begins : (key : List ℕ) (text : Limited (List ℕ)) (part rest : List (List ℕ)) (P : List (List ℕ) → Type 0) → IsTextPart key text part → P rest → ((more : List (List ℕ)) → P (key ∷ more)) → P (part ++ rest)
text_begins key text part rest P is here there =
    ⊎_elim
    (λ left. subst (λ (ps : List (List ℕ)). P (ps ++ rest)) (sym left.0) here)
    (λ written. subst (λ (ps : List (List ℕ)). P (ps ++ rest)) (sym written.1) (there (written.0 ∷ rest)))
    is

-- the same of the last part
pub text_begins_all : (key : List ℕ) (text : Limited (List ℕ)) (part : List (List ℕ)) (P : List (List ℕ) → Type 0) → IsTextPart key text part → P [] → ((more : List (List ℕ)) → P (key ∷ more)) → P part
text_begins_all key text part P is here there = subst (λ (ws : List (List ℕ)). P ws) (append-nil part) (text_begins key text part [] P is here there)
