-- A text is read as the pieces that it has between commas, or between blanks, and as no others.
use Rattle.std.proofs.Common.{◌≡◌, ◌≢◌, ℕ, suc, ◌+◌, ◌-◌, ◌≤◌, Bool, true, false, not, ◌&&◌, cond, eqb, ltb, List, [], ◌∷◌, ◌++◌, length, get_or, take, drop, Option, Some, refl, sym, ap, subst, ◌∙◌, arith}
use Rattle.std.specs.Prelude.{filter}
use Rattle.std.specs.List.{list_all, onto_first, slice_get}
use Rattle.std.proofs.lemmas.Bool.{and_parts, and_from, both_ways, eqb-true, ltb-false, ne_eqb, not-true, or_from, or_parts}
use Rattle.std.proofs.lemmas.List.{nil_from_length, take_all, take_more}
use Rattle.ak_base.proofs.Surface.{bind_some, cond_some, done, some_is}
use Rattle.ak_base.specs.Option.{where_true, ◌>>=◌}
use Rattle.ak_input.specs.declared.marks.Marks.{Marks}
use Rattle.ak_input.specs.declared.pieces.Separator.{Separator}
use Rattle.ak_input.specs.declared.pieces.Separator.TheVariants as by
use Rattle.ak_input.specs.Marks.{is_blank, start, step, is_outside}
use Rattle.ak_input.specs.Pieces.{separates, pieces_from, pieces_of, braced}
use Rattle.ak_input.specs.Reading.{is_some_bytes, is_missing, is_blank_at_an_end, words_of}
use Rattle.ak_input.specs.Said.{Closes, AreJoined, IsWordWithin, IsGap, AreParted, IsBraced}

-- ---- the pieces of a text that begins at these marks
abbrev ArePiecesFrom : Separator → Marks → List ℕ → List (List ℕ) → Type 0
ArePiecesFrom by m text [] = ⊥
ArePiecesFrom by m text (one ∷ []) = (text ≡ one) × Closes (separates by) m one
ArePiecesFrom by m text (one ∷ next ∷ more) =
    (b : ℕ) × (rest : List ℕ) × (text ≡ one ++ b ∷ rest) × (separates by b ≡ true) × Closes (separates by) m one × ArePiecesFrom by start rest (next ∷ more)

-- ---- the pieces that are read are pieces of the text

-- one byte more in front of the first piece
first_grows : (by : Separator) (b : ℕ) (m next : Marks) (text : List ℕ) (pieces : List (List ℕ)) → (is_outside m && separates by b) ≡ false → step m b ≡ Some next
    → ArePiecesFrom by next text pieces → ArePiecesFrom by m (b ∷ text) (onto_first b pieces)
first_grows by b m next text [] plain stepped h = absurd h
first_grows by b m next text (one ∷ []) plain stepped h = (ap (λ (t : List ℕ). b ∷ t) h.0, (plain, (next, stepped, h.1)))
first_grows by b m next text (one ∷ piece ∷ more) plain stepped h = (h.0, h.1, ap (λ (t : List ℕ). b ∷ t) h.2, h.3, (plain, (next, stepped, h.4)), h.5)

-- an empty piece in front of the others
first_ends : (by : Separator) (b : ℕ) (m : Marks) (text : List ℕ) (pieces : List (List ℕ)) → is_outside m ≡ true → separates by b ≡ true
    → ArePiecesFrom by start text pieces → ArePiecesFrom by m (b ∷ text) ([] ∷ pieces)
first_ends by b m text [] outside ends h = absurd h
first_ends by b m text (one ∷ more) outside ends h = (b, text, refl, ends, outside, h)

abbrev Later : Separator → List ℕ → Type 0
Later by text = (m : Marks) (pieces : List (List ℕ)) → pieces_from by m text ≡ Some pieces → ArePiecesFrom by m text pieces

byte_takes : (by : Separator) (b : ℕ) (text : List ℕ) (m : Marks) (pieces : List (List ℕ)) (t : Bool) → Later by text → (is_outside m && separates by b) ≡ t
    → cond t (pieces_from by start text >>= λ ps. Some ([] ∷ ps)) (step m b >>= λ next. pieces_from by next text >>= λ ps. Some (onto_first b ps)) ≡ Some pieces
    → ArePiecesFrom by m (b ∷ text) pieces
byte_takes by b text m pieces true later is e =
    let both = and_parts (is_outside m) (separates by b) is in
    let s = bind_some (pieces_from by start text) (λ ps. Some ([] ∷ ps)) pieces e in
    subst (λ (ps : List (List ℕ)). ArePiecesFrom by m (b ∷ text) ps) (some_is ([] ∷ s.0) pieces s.2) (first_ends by b m text s.0 both.0 both.1 (later start s.0 s.1))
byte_takes by b text m pieces false later is e =
    let s = bind_some (step m b) (λ next. pieces_from by next text >>= λ ps. Some (onto_first b ps)) pieces e in
    let r = bind_some (pieces_from by s.0 text) (λ ps. Some (onto_first b ps)) pieces s.2 in
    subst (λ (ps : List (List ℕ)). ArePiecesFrom by m (b ∷ text) ps) (some_is (onto_first b r.0) pieces r.2) (first_grows by b m s.0 text r.0 is s.1 (later s.0 r.0 r.1))

pieces_take : (by : Separator) (text : List ℕ) (m : Marks) (pieces : List (List ℕ)) → pieces_from by m text ≡ Some pieces → ArePiecesFrom by m text pieces
unfolding pieces_from
pieces_take by [] m pieces e =
    let t = cond_some (is_outside m) ([] ∷ []) pieces e in
    subst (λ (ps : List (List ℕ)). ArePiecesFrom by m [] ps) t.1 (refl, t.0)
pieces_take by (b ∷ text) m pieces e = byte_takes by b text m pieces (is_outside m && separates by b) (λ n ps h. pieces_take by text n ps h) refl e

-- ---- the pieces of the text are read

last_made : (by : Separator) (text : List ℕ) (m : Marks) → Closes (separates by) m text → pieces_from by m text ≡ Some (text ∷ [])
unfolding pieces_from
last_made by [] m h = let here : is_outside m ≡ true = h in rw here refl
last_made by (b ∷ text) m h = rw (h.0, h.1.1, last_made by text h.1.0 h.1.2) refl

next_made : (by : Separator) (text : List ℕ) (m : Marks) (b : ℕ) (rest : List ℕ) (pieces : List (List ℕ)) → Closes (separates by) m text → separates by b ≡ true
    → pieces_from by start rest ≡ Some pieces → pieces_from by m (text ++ b ∷ rest) ≡ Some (text ∷ pieces)
unfolding pieces_from
next_made by [] m b rest pieces h ends later = let here : is_outside m ≡ true = h in rw (here, ends, later) refl
next_made by (c ∷ text) m b rest pieces h ends later = rw (h.0, h.1.1, next_made by text h.1.0 b rest pieces h.1.2 ends later) refl

pieces_make : (by : Separator) (pieces : List (List ℕ)) (m : Marks) (text : List ℕ) → ArePiecesFrom by m text pieces → pieces_from by m text ≡ Some pieces
pieces_make by [] m text h = absurd h
pieces_make by (one ∷ []) m text h = subst (λ (t : List ℕ). pieces_from by m t ≡ Some (one ∷ [])) (sym h.0) (last_made by one m h.1)
pieces_make by (one ∷ next ∷ more) m text h =
    subst (λ (t : List ℕ). pieces_from by m t ≡ Some (one ∷ next ∷ more)) (sym h.2) (next_made by one m h.0 h.1 (next ∷ more) h.4 h.3 (pieces_make by (next ∷ more) start h.1 h.5))

-- ---- commas

joined_from : (texts : List (List ℕ)) (text : List ℕ) → ArePiecesFrom by.Comma start text texts → AreJoined text texts
joined_from [] text h = h
joined_from (one ∷ []) text h = h
joined_from (one ∷ next ∷ more) text h = (h.1, h.2 ∙ ap (λ (b : ℕ). one ++ b ∷ h.1) (eqb-true h.0 44 h.3), h.4, joined_from (next ∷ more) h.1 h.5)

joined_to : (texts : List (List ℕ)) (text : List ℕ) → AreJoined text texts → ArePiecesFrom by.Comma start text texts
joined_to [] text h = h
joined_to (one ∷ []) text h = h
joined_to (one ∷ next ∷ more) text h = (44, h.0, h.1, refl, h.2, joined_to (next ∷ more) h.0 h.3)

pub joined_takes : (text : List ℕ) (texts : List (List ℕ)) → pieces_of by.Comma text ≡ Some texts → AreJoined text texts
joined_takes text texts e = joined_from texts text (pieces_take by.Comma text start texts e)

pub joined_again : (text : List ℕ) (texts : List (List ℕ)) → AreJoined text texts → pieces_of by.Comma text ≡ Some texts
joined_again text texts h = pieces_make by.Comma texts start text (joined_to texts text h)

-- ---- blanks: the words that are read are words of the text

-- words after a gap, which may be empty
abbrev Behind : List ℕ → List (List ℕ) → Type 0
Behind text words = (gap : List ℕ) × (rest : List ℕ) × (text ≡ gap ++ rest) × (list_all is_blank gap ≡ true) × AreParted rest words

some_word : (p : List ℕ) → eqb (length p) 0 ≡ false → p ≢ []
some_word p filled = λ is. both_ways (eqb (length p) 0) filled (ap (λ (t : List ℕ). eqb (length t) 0) is)

word_before : (p : List ℕ) (b : ℕ) (rest text : List ℕ) (words : List (List ℕ)) → eqb (length p) 0 ≡ false → Closes (separates by.Blank) start p → is_blank b ≡ true → text ≡ p ++ b ∷ rest
    → Behind rest words → AreParted text (p ∷ words)
word_before p b rest text [] filled closes blank is h = absurd h.4
word_before p b rest text (next ∷ words) filled closes blank is h = (
  b ∷ h.0,
  h.1,
  is ∙ ap (λ (t : List ℕ). p ++ b ∷ t) h.2,
  (λ none. absurd cc, and_from (is_blank b) (list_all is_blank h.0) blank h.3),
  (some_word p filled, closes),
  h.4,
)

-- a piece, a blank, and then words after a gap
piece_before : (p : List ℕ) (b : ℕ) (rest text : List ℕ) (words : List (List ℕ)) (empty : Bool) → eqb (length p) 0 ≡ empty → Closes (separates by.Blank) start p → is_blank b ≡ true
    → text ≡ p ++ b ∷ rest → Behind rest words → Behind text (cond (not empty) (p ∷ words) words)
piece_before p b rest text words true none closes blank is h =
    let nothing : p ≡ [] = nil_from_length p (eqb-true (length p) 0 none) in (
      b ∷ h.0,
      h.1,
      is ∙ ap (λ (t : List ℕ). t ++ b ∷ rest) nothing ∙ ap (λ (t : List ℕ). b ∷ t) h.2,
      and_from (is_blank b) (list_all is_blank h.0) blank h.3,
      h.4,
    )
piece_before p b rest text words false filled closes blank is h = ([], text, refl, refl, word_before p b rest text words filled closes blank is h)

pieces_behind : (ps : List (List ℕ)) (p text : List ℕ) → ArePiecesFrom by.Blank start text (p ∷ ps) → is_missing (slice_get (p ∷ ps) (length ps)) ≡ false → Behind text (filter is_some_bytes (p ∷ ps))
pieces_behind [] p text h last =
    let filled : eqb (length p) 0 ≡ false = last in
    let kept : filter is_some_bytes (p ∷ []) ≡ p ∷ [] = ap (λ (t : Bool). cond (not t) (p ∷ []) []) filled in
    subst (λ (words : List (List ℕ)). Behind text words) (sym kept) ([], text, refl, refl, (h.0, (some_word p filled, h.1)))
pieces_behind (next ∷ more) p text h last =
    piece_before p h.0 h.1 text (filter is_some_bytes (next ∷ more)) (eqb (length p) 0) refl h.4 h.3 h.2 (pieces_behind more next h.1 h.5 last)

parted_from : (pieces : List (List ℕ)) (text : List ℕ) → ArePiecesFrom by.Blank start text pieces → is_blank_at_an_end pieces ≡ false → AreParted text (filter is_some_bytes pieces)
parted_from [] text h ends = absurd h
parted_from (p ∷ []) text h ends =
    let filled : eqb (length p) 0 ≡ false = (or_parts (is_missing (Some p)) (is_missing (Some p)) ends).0 in
    let kept : filter is_some_bytes (p ∷ []) ≡ p ∷ [] = ap (λ (t : Bool). cond (not t) (p ∷ []) []) filled in
    subst (λ (words : List (List ℕ)). AreParted text words) (sym kept) (h.0, (some_word p filled, h.1))
parted_from (p ∷ next ∷ more) text h ends =
    let parts = or_parts (is_missing (Some p)) (is_missing (slice_get (p ∷ next ∷ more) (length (p ∷ next ∷ more) - 1))) ends in
    let place : length (p ∷ next ∷ more) - 1 ≡ length (next ∷ more) = omega arith in
    let last : is_missing (slice_get (p ∷ next ∷ more) (length (next ∷ more))) ≡ false = subst (λ (n : ℕ). is_missing (slice_get (p ∷ next ∷ more) n) ≡ false) place parts.1 in
    let filled : eqb (length p) 0 ≡ false = parts.0 in
    let kept : filter is_some_bytes (p ∷ next ∷ more) ≡ p ∷ filter is_some_bytes (next ∷ more) = ap (λ (t : Bool). cond (not t) (p ∷ filter is_some_bytes (next ∷ more)) (filter is_some_bytes (next ∷ more))) filled in
    subst (λ (words : List (List ℕ)). AreParted text words) (sym kept)
    (word_before p h.0 h.1 text (filter is_some_bytes (next ∷ more)) filled h.4 h.3 h.2 (pieces_behind more next h.1 h.5 last))

pub parted_takes : (body : List ℕ) (words : List (List ℕ)) → words_of body ≡ Some words → AreParted body words
unfolding words_of
parted_takes body words e =
    let s = bind_some (pieces_of by.Blank body) (λ pieces. where_true (not (is_blank_at_an_end pieces)) (filter is_some_bytes pieces)) words e in
    let t = cond_some (not (is_blank_at_an_end s.0)) (filter is_some_bytes s.0) words s.2 in
    subst (λ (ws : List (List ℕ)). AreParted body ws) t.1 (parted_from s.0 body (pieces_take by.Blank body start s.0 s.1) (not-true (is_blank_at_an_end s.0) t.0))

-- ---- blanks: the words of the text are read

-- an empty piece for each blank
empties : List ℕ → List (List ℕ)
empties [] = []
empties (b ∷ gap) = [] ∷ empties gap

gap_pieces : (gap rest : List ℕ) (pieces : List (List ℕ)) → list_all is_blank gap ≡ true → pieces_from by.Blank start rest ≡ Some pieces → pieces_from by.Blank start (gap ++ rest) ≡ Some (empties gap ++ pieces)
unfolding pieces_from empties
gap_pieces [] rest pieces blanks later = later
gap_pieces (b ∷ gap) rest pieces blanks later =
    let parts = and_parts (is_blank b) (list_all is_blank gap) blanks in
    rw (parts.0, gap_pieces gap rest pieces parts.1 later) refl

none_kept : (gap : List ℕ) (pieces : List (List ℕ)) → filter is_some_bytes (empties gap ++ pieces) ≡ filter is_some_bytes pieces
unfolding empties
none_kept [] pieces = refl
none_kept (b ∷ gap) pieces = none_kept gap pieces

last_behind : (front : List (List ℕ)) (first p : List ℕ) (ps : List (List ℕ)) → slice_get (first ∷ (front ++ p ∷ ps)) (length (front ++ p ∷ ps)) ≡ slice_get (p ∷ ps) (length ps)
last_behind [] first p ps = refl
last_behind (q ∷ front) first p ps = last_behind front q p ps

-- the pieces of a text that begins and ends with a word
abbrev HasPieces : List ℕ → List (List ℕ) → Type 0
HasPieces text words =
    (p : List ℕ) × (ps : List (List ℕ)) × (pieces_from by.Blank start text ≡ Some (p ∷ ps)) × (eqb (length p) 0 ≡ false)
    × (is_missing (slice_get (p ∷ ps) (length ps)) ≡ false) × (filter is_some_bytes (p ∷ ps) ≡ words)

filled_word : (p : List ℕ) → p ≢ [] → eqb (length p) 0 ≡ false
filled_word [] some = absurd (some refl)
filled_word (b ∷ p) some = ne_eqb (length (b ∷ p)) 0 (λ e. omega arith)

word_in_front : (word gap rest text : List ℕ) (words : List (List ℕ)) → text ≡ word ++ (gap ++ rest) → IsGap gap → IsWordWithin word → HasPieces rest words → HasPieces text (word ∷ words)
word_in_front word [] rest text words is blanks w h = absurd (blanks.0 refl)
word_in_front word (b ∷ gap) rest text words is blanks w h =
    let parts = and_parts (is_blank b) (list_all is_blank gap) blanks.1 in
    let filled = filled_word word w.0 in
    let pieces = next_made by.Blank word start b (gap ++ rest) (empties gap ++ h.0 ∷ h.1) w.1 parts.0 (gap_pieces gap rest (h.0 ∷ h.1) parts.1 h.2) in
    let kept : filter is_some_bytes (word ∷ (empties gap ++ h.0 ∷ h.1)) ≡ word ∷ words =
    ap (λ (t : Bool). cond (not t) (word ∷ filter is_some_bytes (empties gap ++ h.0 ∷ h.1)) (filter is_some_bytes (empties gap ++ h.0 ∷ h.1))) filled
    ∙ ap (λ (ws : List (List ℕ)). word ∷ ws) (none_kept gap (h.0 ∷ h.1) ∙ h.5) in (
      word,
      empties gap ++ h.0 ∷ h.1,
      subst (λ (t : List ℕ). pieces_from by.Blank start t ≡ Some (word ∷ (empties gap ++ h.0 ∷ h.1))) (sym is) pieces,
      filled,
      ap is_missing (last_behind (empties gap) word h.0 h.1) ∙ h.4,
      kept,
    )

pieces_parted : (words : List (List ℕ)) (text : List ℕ) → AreParted text words → HasPieces text words
pieces_parted [] text h = absurd h
pieces_parted (word ∷ []) text h =
    let filled = filled_word word h.1.0 in
    let kept : filter is_some_bytes (word ∷ []) ≡ word ∷ [] = ap (λ (t : Bool). cond (not t) (word ∷ []) []) filled in
    (word, [], subst (λ (t : List ℕ). pieces_from by.Blank start t ≡ Some (word ∷ [])) (sym h.0) (last_made by.Blank word start h.1.1), filled, filled, kept)
pieces_parted (word ∷ next ∷ words) text h = word_in_front word h.0 h.1 text (next ∷ words) h.2 h.3 h.4 (pieces_parted (next ∷ words) h.1 h.5)

pub parted_again : (body : List ℕ) (words : List (List ℕ)) → AreParted body words → words_of body ≡ Some words
unfolding words_of
parted_again body words h =
    let p = pieces_parted words body h in
    let place : length p.1 ≡ length (p.0 ∷ p.1) - 1 = omega arith in
    let last : is_missing (slice_get (p.0 ∷ p.1) (length (p.0 ∷ p.1) - 1)) ≡ false = subst (λ (n : ℕ). is_missing (slice_get (p.0 ∷ p.1) n) ≡ false) place p.4 in
    let ends : is_blank_at_an_end (p.0 ∷ p.1) ≡ false = or_from (is_missing (Some p.0)) (is_missing (slice_get (p.0 ∷ p.1) (length (p.0 ∷ p.1) - 1))) p.3 last in
    ap (λ (o : Option (List (List ℕ))). o >>= λ pieces. where_true (not (is_blank_at_an_end pieces)) (filter is_some_bytes pieces)) p.2
    ∙ ap (λ (t : Bool). where_true (not t) (filter is_some_bytes (p.0 ∷ p.1))) ends
    ∙ ap (λ (ws : List (List ℕ)). done ws) p.5

-- ---- braces

in_braces : (text : List ℕ) → 2 ≤ length text → get_or text 0 0 ≡ 123 → get_or text (length text - 1) 0 ≡ 125 → IsBraced text (drop 1 (take (length text - 1) text))
in_braces [] long first last = absurd (omega arith)
in_braces (a ∷ []) long first last = absurd (omega arith)
in_braces (a ∷ b ∷ text) long first last =
    let place : length (a ∷ b ∷ text) - 1 ≡ suc (length text) = omega arith in
    let end : get_or (b ∷ text) (length text) 0 ≡ 125 = subst (λ (n : ℕ). get_or (a ∷ b ∷ text) n 0 ≡ 125) place last in
    let whole : take (length text + 1) (b ∷ text) ≡ b ∷ text = take_all (length text + 1) (b ∷ text) (omega arith) in
    let front : b ∷ text ≡ take (length text) (b ∷ text) ++ 125 ∷ [] =
    sym whole ∙ take_more (b ∷ text) (length text) 0 (omega arith) ∙ ap (λ (c : ℕ). take (length text) (b ∷ text) ++ c ∷ []) end in
    subst (λ (n : ℕ). IsBraced (a ∷ b ∷ text) (drop 1 (take n (a ∷ b ∷ text)))) (sym place) (ap (λ (c : ℕ). c ∷ b ∷ text) first ∙ ap (λ (t : List ℕ). 123 ∷ t) front)

pub braced_takes : (text body : List ℕ) → braced text ≡ Some body → IsBraced text body
braced_takes text body e =
    let t = cond_some (not (ltb (length text) 2) && eqb (get_or text 0 0) 123 && eqb (get_or text (length text - 1) 0) 125) (drop 1 (take (length text - 1) text)) body e in
    let p = and_parts (not (ltb (length text) 2) && eqb (get_or text 0 0) 123) (eqb (get_or text (length text - 1) 0) 125) t.0 in
    let q = and_parts (not (ltb (length text) 2)) (eqb (get_or text 0 0) 123) p.0 in
    let long : 2 ≤ length text = ltb-false (length text) 2 (not-true (ltb (length text) 2) q.0) in
    subst (λ (b : List ℕ). IsBraced text b) t.1 (in_braces text long (eqb-true (get_or text 0 0) 123 q.1) (eqb-true (get_or text (length text - 1) 0) 125 p.1))
