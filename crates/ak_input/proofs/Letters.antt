-- The four letters before a text's colon name its kind, and the code of these letters names the same kind.
use Rattle.std.proofs.Common.{◌≡◌, ℕ, zero, suc, ◌<◌, ◌≤◌, Bool, true, false, not, ◌&&◌, ◌||◌, cond, eqb, leb, ltb, List, [], ◌∷◌, ◌++◌, length, get_or, take, drop, Option, Some, None, refl, sym, ap, subst, ◌∙◌, arith}
use Rattle.std.specs.Int.{w32, to_be_bytes, from_be_bytes}
use Rattle.std.specs.Str.{bytes_eq}
use Rattle.std.proofs.lemmas.Bool.{both_ways, eqb-true, eq-eqb, le-ltb, ltb-false, not-false, or_from, or_parts, false_from_ne_true}
use Rattle.std.proofs.lemmas.List.{drop_more, take-append-drop}
use Rattle.std.proofs.lemmas.Nat.{be_bytes_4}
use Rattle.std.proofs.lemmas.Slice.Eq.{bytes_eq-Decides}
use Rattle.ak_base.proofs.Surface.{some_is}
use Rattle.ak_message.specs.declared.kind.Kind.{Kind}
use Rattle.ak_message.specs.declared.kind.Kind.TheVariants as k
use Rattle.ak_message.specs.Kind.{kind_letters, code_of_kind, kind_of_code}
use Rattle.ak_message.proofs.Surface.{code-letters}
use Rattle.ak_input.specs.Payload.{kind_before, kind_lettered}

-- ---- kinds by their letters, and by the code of these

-- four bytes have the code of a kind if and only if they are its letters
same_code : (bytes : List ℕ) → length bytes ≡ 4 → ((i : ℕ) → get_or bytes i 0 < 256) → (kind : Kind) → eqb (from_be_bytes w32 bytes) (code_of_kind kind) ≡ bytes_eq bytes (kind_letters kind)
same_code bytes size small kind = by_test (eqb (from_be_bytes w32 bytes) (code_of_kind kind)) refl where
  by_test : (t : Bool) → eqb (from_be_bytes w32 bytes) (code_of_kind kind) ≡ t → eqb (from_be_bytes w32 bytes) (code_of_kind kind) ≡ bytes_eq bytes (kind_letters kind)
  by_test true is =
      let code : from_be_bytes w32 bytes ≡ code_of_kind kind = eqb-true (from_be_bytes w32 bytes) (code_of_kind kind) is in
      let back : to_be_bytes w32 (code_of_kind kind) ≡ bytes = be_bytes_4 bytes (code_of_kind kind) size small (sym code) in
      is ∙ sym ((bytes_eq-Decides bytes (kind_letters kind)).1 (sym back ∙ code-letters kind))
  by_test false is =
      is
      ∙ sym (false_from_ne_true (bytes_eq bytes (kind_letters kind))
      (λ same. both_ways (eqb (from_be_bytes w32 bytes) (code_of_kind kind)) is (eq-eqb (from_be_bytes w32 bytes) (code_of_kind kind) (ap (from_be_bytes w32) ((bytes_eq-Decides bytes (kind_letters kind)).0 same)))))

abbrev table : Bool → Bool → Bool → Bool → Bool → Bool → Bool → Bool → Bool → Bool → Bool → Bool → Bool → Option Kind
table a b c d e f g h i j l m n =
    cond a (Some k.Bool) (cond b (Some k.Int8) (cond c (Some k.Int16) (cond d (Some k.Int32) (cond e (Some k.Int64) (cond f (Some k.UInt8) (cond g (Some k.UInt16)
    (cond h (Some k.UInt32) (cond i (Some k.UInt64) (cond j (Some k.Text) (cond l (Some k.Message) (cond m (Some k.Messenger) (cond n (Some k.Raw) None))))))))))))

lettered_is : (bytes : List ℕ) → length bytes ≡ 4 → ((i : ℕ) → get_or bytes i 0 < 256) → kind_of_code (from_be_bytes w32 bytes) ≡ kind_lettered bytes
lettered_is bytes size small =
    λ at.
    table (same_code bytes size small k.Bool at) (same_code bytes size small k.Int8 at) (same_code bytes size small k.Int16 at) (same_code bytes size small k.Int32 at)
    (same_code bytes size small k.Int64 at) (same_code bytes size small k.UInt8 at) (same_code bytes size small k.UInt16 at) (same_code bytes size small k.UInt32 at)
    (same_code bytes size small k.UInt64 at) (same_code bytes size small k.Text at) (same_code bytes size small k.Message at) (same_code bytes size small k.Messenger at)
    (same_code bytes size small k.Raw at)

take_four : (text : List ℕ) → 5 ≤ length text → take 4 text ≡ get_or text 0 0 ∷ get_or text 1 0 ∷ get_or text 2 0 ∷ get_or text 3 0 ∷ []
take_four (a ∷ b ∷ c ∷ d ∷ text) long = refl
take_four text long = absurd (omega arith)

four_small : (a b c d : ℕ) → a < 256 → b < 256 → c < 256 → d < 256 → (i : ℕ) → get_or (a ∷ b ∷ c ∷ d ∷ []) i 0 < 256
four_small a b c d p q r s zero = p
four_small a b c d p q r s (suc zero) = q
four_small a b c d p q r s (suc (suc zero)) = r
four_small a b c d p q r s (suc (suc (suc zero))) = s
four_small a b c d p q r s (suc (suc (suc (suc i)))) = omega arith

pub coded_before : (text : List ℕ) → 5 ≤ length text → get_or text 4 0 ≡ 58 → ((i : ℕ) → get_or text i 0 < 256)
    → kind_of_code (from_be_bytes w32 (get_or text 0 0 ∷ get_or text 1 0 ∷ get_or text 2 0 ∷ get_or text 3 0 ∷ [])) ≡ kind_before text
coded_before text long colon small =
    let tests : (ltb (length text) 5 || not (eqb (get_or text 4 0) 58)) ≡ false =
    or_from (ltb (length text) 5) (not (eqb (get_or text 4 0) 58)) (le-ltb (length text) 5 long) (ap not (eq-eqb (get_or text 4 0) 58 colon)) in
    lettered_is (get_or text 0 0 ∷ get_or text 1 0 ∷ get_or text 2 0 ∷ get_or text 3 0 ∷ []) refl (four_small (get_or text 0 0) (get_or text 1 0) (get_or text 2 0) (get_or text 3 0) (small 0) (small 1) (small 2) (small 3))
    ∙ ap kind_lettered (sym (take_four text long))
    ∙ sym (ap (λ (t : Bool). cond t None (kind_lettered (take 4 text))) tests)

-- ---- the letters before a colon

-- one row of the table
row : (letters : List ℕ) (here kind : Kind) (rest : Option Kind) → cond (bytes_eq letters (kind_letters here)) (Some here) rest ≡ Some kind
    → (rest ≡ Some kind → letters ≡ kind_letters kind) → letters ≡ kind_letters kind
row letters here kind rest e later = by_test (bytes_eq letters (kind_letters here)) refl e where
  by_test : (t : Bool) → bytes_eq letters (kind_letters here) ≡ t → cond t (Some here) rest ≡ Some kind → letters ≡ kind_letters kind
  by_test true is e = (bytes_eq-Decides letters (kind_letters here)).0 is ∙ ap kind_letters (some_is here kind e)
  by_test false is e = later e

letters_take : (letters : List ℕ) (kind : Kind) → kind_lettered letters ≡ Some kind → letters ≡ kind_letters kind
letters_take letters kind e =
    row letters k.Bool kind _ e
    (λ e1. row letters k.Int8 kind _ e1
    (λ e2. row letters k.Int16 kind _ e2
    (λ e3. row letters k.Int32 kind _ e3
    (λ e4. row letters k.Int64 kind _ e4
    (λ e5. row letters k.UInt8 kind _ e5
    (λ e6. row letters k.UInt16 kind _ e6
    (λ e7. row letters k.UInt32 kind _ e7
    (λ e8. row letters k.UInt64 kind _ e8
    (λ e9. row letters k.Text kind _ e9
    (λ e10. row letters k.Message kind _ e10
    (λ e11. row letters k.Messenger kind _ e11
    (λ e12. row letters k.Raw kind None e12 (λ none. absurd cc)))))))))))))

-- a text that has a kind begins with the kind's letters and a colon
pub kind_takes : (text : List ℕ) (kind : Kind) → kind_before text ≡ Some kind → text ≡ kind_letters kind ++ 58 ∷ drop 5 text
kind_takes text kind e = by_test (ltb (length text) 5 || not (eqb (get_or text 4 0) 58)) refl e where
  by_test : (t : Bool) → (ltb (length text) 5 || not (eqb (get_or text 4 0) 58)) ≡ t → cond t None (kind_lettered (take 4 text)) ≡ Some kind → text ≡ kind_letters kind ++ 58 ∷ drop 5 text
  by_test true is e = absurd cc
  by_test false is e =
      let parts = or_parts (ltb (length text) 5) (not (eqb (get_or text 4 0) 58)) is in
      let colon : get_or text 4 0 ≡ 58 = eqb-true (get_or text 4 0) 58 (not-false (eqb (get_or text 4 0) 58) parts.1) in
      let long : 5 ≤ length text = ltb-false (length text) 5 parts.0 in
      let letters : take 4 text ≡ kind_letters kind = letters_take (take 4 text) kind e in
      let behind : drop 4 text ≡ 58 ∷ drop 5 text = drop_more text 4 0 long ∙ ap (λ (b : ℕ). b ∷ drop 5 text) colon in
      sym (take-append-drop 4 text) ∙ ap (λ (t : List ℕ). take 4 text ++ t) behind ∙ ap (λ (t : List ℕ). t ++ 58 ∷ drop 5 text) letters

-- ---- a text that does not begin with a capital letter has no kind
abbrev is_capital : ℕ → Bool
is_capital b = leb 65 b && leb b 90

first_letter : (kind : Kind) (rest : List ℕ) → is_capital (get_or (kind_letters kind ++ rest) 0 0) ≡ true
first_letter k.Bool rest = refl
first_letter k.Int8 rest = refl
first_letter k.Int16 rest = refl
first_letter k.Int32 rest = refl
first_letter k.Int64 rest = refl
first_letter k.UInt8 rest = refl
first_letter k.UInt16 rest = refl
first_letter k.UInt32 rest = refl
first_letter k.UInt64 rest = refl
first_letter k.Text rest = refl
first_letter k.Message rest = refl
first_letter k.Messenger rest = refl
first_letter k.Raw rest = refl

pub no_kind : (text : List ℕ) → (leb 65 (get_or text 0 0) && leb (get_or text 0 0) 90) ≡ false → kind_before text ≡ None
no_kind text other = by_kind (kind_before text) refl where
  by_kind : (o : Option Kind) → kind_before text ≡ o → kind_before text ≡ None
  by_kind None e = e
  by_kind (Some kind) e =
      absurd (both_ways (is_capital (get_or text 0 0)) other (subst (λ (t : List ℕ). is_capital (get_or t 0 0) ≡ true) (sym (kind_takes text kind e)) (first_letter kind (58 ∷ drop 5 text))))
