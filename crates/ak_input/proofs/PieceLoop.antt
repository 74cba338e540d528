-- Splitting a text into pieces byte by byte, as a loop does.
use Rattle.std.proofs.Common.{◌≡◌, ℕ, ◌+◌, ◌-◌, ◌<◌, ◌≤◌, true, false, ◌&&◌, List, [], ◌∷◌, ◌++◌, length, take, drop, get_or, Option, Some, None, refl, sym, ap, ◌∙◌, append_assoc, arith}
use Rattle.std.specs.Prelude.{map}
use Rattle.std.specs.Borrow.{Bor}
use Rattle.std.specs.List.{onto_first}
use Rattle.std.proofs.lemmas.List.{drop_all, drop_more, take_more, get_or-drop, length-drop, map-append}
use Rattle.ak_input.specs.declared.marks.Marks.{Marks}
use Rattle.ak_input.specs.declared.pieces.Separator.{Separator}
use Rattle.ak_input.specs.Marks.{start, step, is_outside}
use Rattle.ak_input.specs.Pieces.{separates, pieces_from}
use Rattle.ak_input.specs.ReadSeen.{seen}
use Rattle.ak_base.specs.Option.{◌>>=◌}

-- a piece goes on: these bytes stand before the first of those that are read
abbrev pub onto_front : List ℕ → List (List ℕ) → List (List ℕ)
onto_front [] pieces = pieces
onto_front (b ∷ piece) pieces = onto_first b (onto_front piece pieces)

-- behind pieces that were read before, and behind the bytes of the next one
abbrev pub pieces_behind : List (List ℕ) → List ℕ → Option (List (List ℕ)) → Option (List (List ℕ))
pieces_behind front piece read = read >>= λ pieces. Some (front ++ onto_front piece pieces)

pub onto_front-byte : (piece : List ℕ) (b : ℕ) (pieces : List (List ℕ)) → onto_front piece (onto_first b pieces) ≡ onto_front (piece ++ b ∷ []) pieces
onto_front-byte [] b pieces = refl
onto_front-byte (c ∷ piece) b pieces = ap (λ (ps : List (List ℕ)). onto_first c ps) (onto_front-byte piece b pieces)

pub onto_front-end : (piece : List ℕ) (pieces : List (List ℕ)) → onto_front piece ([] ∷ pieces) ≡ piece ∷ pieces
onto_front-end [] pieces = refl
onto_front-end (c ∷ piece) pieces = ap (λ (ps : List (List ℕ)). onto_first c ps) (onto_front-end piece pieces)

byte_behind : (front : List (List ℕ)) (piece : List ℕ) (b : ℕ) (read : Option (List (List ℕ))) → pieces_behind front piece (read >>= λ pieces. Some (onto_first b pieces)) ≡ pieces_behind front (piece ++ b ∷ []) read
byte_behind front piece b None = refl
byte_behind front piece b (Some pieces) = ap (λ (ps : List (List ℕ)). Some (front ++ ps)) (onto_front-byte piece b pieces)

piece_behind : (front : List (List ℕ)) (piece : List ℕ) (read : Option (List (List ℕ))) → pieces_behind front piece (read >>= λ pieces. Some ([] ∷ pieces)) ≡ pieces_behind (front ++ piece ∷ []) [] read
piece_behind front piece None = refl
piece_behind front piece (Some pieces) =
    ap (λ (ps : List (List ℕ)). Some (front ++ ps)) (onto_front-end piece pieces) ∙ ap (λ (ps : List (List ℕ)). Some ps) (sym (append_assoc front (piece ∷ []) pieces))

pub pieces_behind-nil : (read : Option (List (List ℕ))) → pieces_behind [] [] read ≡ read
pieces_behind-nil None = refl
pieces_behind-nil (Some pieces) = refl

-- the bytes from a place to the next one
pub grown_piece : (text : List ℕ) (from i : ℕ) → from ≤ i → i < length text → take (i + 1 - from) (drop from text) ≡ take (i - from) (drop from text) ++ get_or text i 0 ∷ []
grown_piece text from i le lt =
    let more : i + 1 - from ≡ (i - from) + 1 = omega arith in
    let long : i - from < length (drop from text) = omega (arith, length-drop from text) in
    let place : from + (i - from) ≡ i = omega arith in
    rw more (take_more (drop from text) (i - from) 0 long ∙ ap (λ (b : ℕ). take (i - from) (drop from text) ++ b ∷ []) (get_or-drop from text (i - from) 0 ∙ ap (λ (j : ℕ). get_or text j 0) place))

pub empty_piece : (text : List ℕ) (from : ℕ) → take (from - from) (drop from text) ≡ []
empty_piece text from = let none : from - from ≡ 0 = omega arith in rw none refl

-- from the place `from` on the piece at i is read
abbrev pub at : List ℕ → ℕ → ℕ → List ℕ
at text from i = take (i - from) (drop from text)

pub piece_ends : (front : List (List ℕ)) (by : Separator) (m : Marks) (text : List ℕ) (from i : ℕ) (total : Option (List (List ℕ))) → i < length text
    → (is_outside m && separates by (get_or text i 0)) ≡ true
    → pieces_behind front (at text from i) (pieces_from by m (drop i text)) ≡ total
    → pieces_behind (front ++ at text from i ∷ []) (at text (i + 1) (i + 1)) (pieces_from by start (drop (i + 1) text)) ≡ total
unfolding pieces_from
piece_ends front by m text from i total lt is so_far =
    let one : pieces_behind front (at text from i) (pieces_from by m (drop i text)) ≡ pieces_behind (front ++ at text from i ∷ []) [] (pieces_from by start (drop (i + 1) text)) =
    rw (drop_more text i 0 lt, is) (piece_behind front (at text from i) (pieces_from by start (drop (i + 1) text))) in
    rw (empty_piece text (i + 1)) (sym one ∙ so_far)

pub piece_goes_on : (front : List (List ℕ)) (by : Separator) (m next : Marks) (text : List ℕ) (from i : ℕ) (total : Option (List (List ℕ))) → from ≤ i → i < length text
    → (is_outside m && separates by (get_or text i 0)) ≡ false → Some next ≡ step m (get_or text i 0)
    → pieces_behind front (at text from i) (pieces_from by m (drop i text)) ≡ total
    → pieces_behind front (at text from (i + 1)) (pieces_from by next (drop (i + 1) text)) ≡ total
unfolding pieces_from
piece_goes_on front by m next text from i total le lt is stepped so_far =
    let one : pieces_behind front (at text from i) (pieces_from by m (drop i text)) ≡ pieces_behind front (at text from i ++ get_or text i 0 ∷ []) (pieces_from by next (drop (i + 1) text)) =
    rw (drop_more text i 0 lt, is, ← stepped) (byte_behind front (at text from i) (get_or text i 0) (pieces_from by next (drop (i + 1) text))) in
    rw (grown_piece text from i le lt) (sym one ∙ so_far)

pub piece_fails : (front : List (List ℕ)) (by : Separator) (m : Marks) (text : List ℕ) (from i : ℕ) (total : Option (List (List ℕ))) → i < length text
    → (is_outside m && separates by (get_or text i 0)) ≡ false → None ≡ step m (get_or text i 0)
    → pieces_behind front (at text from i) (pieces_from by m (drop i text)) ≡ total → total ≡ None
unfolding pieces_from
piece_fails front by m text from i total lt is stepped so_far =
    let one : pieces_behind front (at text from i) (pieces_from by m (drop i text)) ≡ None = rw (drop_more text i 0 lt, is, ← stepped) refl in
    sym so_far ∙ one

pub pieces_end : (front : List (List ℕ)) (by : Separator) (m : Marks) (text : List ℕ) (from i : ℕ) (total : Option (List (List ℕ))) → length text ≤ i → is_outside m ≡ true
    → pieces_behind front (at text from i) (pieces_from by m (drop i text)) ≡ total → total ≡ Some (front ++ at text from i ∷ [])
unfolding pieces_from
pieces_end front by m text from i total le closed so_far =
    sym so_far ∙ rw (drop_all i text le, closed, onto_front-end (at text from i) []) refl

pub pieces_open : (front : List (List ℕ)) (by : Separator) (m : Marks) (text : List ℕ) (from i : ℕ) (total : Option (List (List ℕ))) → length text ≤ i → is_outside m ≡ false
    → pieces_behind front (at text from i) (pieces_from by m (drop i text)) ≡ total → total ≡ None
unfolding pieces_from
pieces_open front by m text from i total le is so_far = sym so_far ∙ rw (drop_all i text le, is) refl

-- ---- what the code's steps say

pub pushed : (old new : List (Bor (List ℕ))) (piece : Bor (List ℕ)) → new ≡ old ++ piece ∷ [] → map seen new ≡ map seen old ++ piece.now ∷ []
pushed old new piece e = ap (λ (ps : List (Bor (List ℕ))). map seen ps) e ∙ map-append seen old (piece ∷ [])

pub piece_pushed : (front new : List (List ℕ)) (by : Separator) (m after : Marks) (text : List ℕ) (from i : ℕ) (total : Option (List (List ℕ))) → i < length text
    → (is_outside m && separates by (get_or text i 0)) ≡ true → new ≡ front ++ at text from i ∷ [] → after ≡ start
    → pieces_behind front (at text from i) (pieces_from by m (drop i text)) ≡ total
    → pieces_behind new (at text (i + 1) (i + 1)) (pieces_from by after (drop (i + 1) text)) ≡ total
piece_pushed front new by m after text from i total lt is grown again so_far =
    rw (grown, again) (piece_ends front by m text from i total lt is so_far)

-- the last piece goes to the end of the text
pub pieces_all : (front new : List (List ℕ)) (by : Separator) (m : Marks) (text : List ℕ) (from i : ℕ) (total : Option (List (List ℕ))) → i ≡ length text → is_outside m ≡ true
    → new ≡ front ++ take (length text - from) (drop from text) ∷ []
    → pieces_behind front (at text from i) (pieces_from by m (drop i text)) ≡ total → total ≡ Some new
pieces_all front new by m text from i total end closed grown so_far =
    let le : length text ≤ i = omega arith in
    pieces_end front by m text from i total le closed so_far ∙ ap (λ (j : ℕ). some_pieces (front ++ at text from j ∷ [])) end ∙ ap (λ (ps : List (List ℕ)). some_pieces ps) (sym grown) where
      some_pieces : List (List ℕ) → Option (List (List ℕ))
      some_pieces ps = Some ps
