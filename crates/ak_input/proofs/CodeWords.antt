-- A word is the text of the code that is read of it, and the codes that it writes are read.
use Rattle.std.proofs.Common.{◌≡◌, ◌↔◌, ◌⊎◌, inl, inr, ℕ, ◌+◌, ◌*◌, ◌<◌, ◌≤◌, Bool, true, false, ◌&&◌, cond, eqb, List, [], ◌∷◌, ◌++◌, length, get_or, take, drop, Option, Some, None, refl, sym, ap, subst, arith}
use Rattle.std.specs.Prelude.{◌==◌, All, codes, option_map}
use Rattle.std.specs.Int.{w32, from_be_bytes}
use Rattle.std.specs.List.{list_all, starts_with}
use Rattle.std.proofs.lemmas.Bool.{eqb-true, and_parts, cases_lt}
use Rattle.std.proofs.lemmas.Bool.Decides.{Decides-eqb, nat_tests}
use Rattle.std.proofs.lemmas.List.{get_or_past}
use Rattle.std.proofs.lemmas.List.Elements.{All-nil, All-cons, All-get_or}
use Rattle.std.proofs.lemmas.Slice.Eq.{starts_is}
use Rattle.ak_base.specs.declared.code.Code.{Code}
use Rattle.ak_base.specs.Code.{may_be_quoted, may_all_be_quoted, IsCodeText}
use Rattle.ak_base.specs.Option.{where_true, ◌>>=◌}
use Rattle.ak_input.specs.Payload.{hex_value, raw_from}
use Rattle.ak_input.specs.Reading.{code_from}
use Rattle.ak_input.proofs.CodeLaws.{code_again, code_takes}
use Rattle.ak_input.proofs.NumberWords.{mapped_some}
use Rattle.ak_base.proofs.Surface.{bind_some, cond_some}
use Rattle.ak_input.specs.Written.{coded, code_of}
use Rattle.ak_input.specs.Said.{WritesCode}

-- ---- a code is written in bytes
abbrev AreBytes : List ℕ → Type 0
AreBytes text = All (λ b. b < 256) text

quotable_small : (b : ℕ) → may_be_quoted b ≡ true → b < 256
quotable_small b h = grind (arith, nat_tests)

digit_small : (b d : ℕ) → hex_value b ≡ Some d → b < 256
digit_small b d h = grind (arith, nat_tests)

quotable_bytes : (bytes : List ℕ) → list_all may_be_quoted bytes ≡ true → AreBytes bytes
quotable_bytes [] h = All-nil (λ b. b < 256)
quotable_bytes (b ∷ bytes) h =
    let parts = and_parts (may_be_quoted b) (list_all may_be_quoted bytes) h in
    All-cons (λ b. b < 256) b bytes (quotable_small b parts.0) (quotable_bytes bytes parts.1)

hex_bytes : (text : List ℕ) (high : Option ℕ) (bytes : List ℕ) → raw_from high text ≡ Some bytes → AreBytes text
unfolding raw_from
hex_bytes [] high bytes e = All-nil (λ b. b < 256)
hex_bytes (b ∷ text) None bytes e =
    let s = bind_some (hex_value b) (λ high. raw_from (Some high) text) bytes e in
    All-cons (λ b. b < 256) b text (digit_small b s.0 s.1) (hex_bytes text (Some s.0) bytes s.2)
hex_bytes (b ∷ text) (Some high) bytes e =
    let s = bind_some (hex_value b) (λ low. raw_from None text >>= λ bytes. Some ((16 * high + low) ∷ bytes)) bytes e in
    let r = bind_some (raw_from None text) (λ bytes. Some ((16 * high + s.0) ∷ bytes)) bytes s.2 in
    All-cons (λ b. b < 256) b text (digit_small b s.0 s.1) (hex_bytes text None r.0 r.1)

quoted_bytes : (text : List ℕ) (n : ℕ) → length text ≡ 6
    → where_true (eqb (get_or text 0 0) 39 && eqb (get_or text 5 0) 39 && may_all_be_quoted (take 4 (drop 1 text))) (from_be_bytes w32 (take 4 (drop 1 text))) ≡ Some n → AreBytes text
quoted_bytes (v ∷ a ∷ b ∷ c ∷ d ∷ w ∷ []) n size e =
    let t = cond_some (eqb v 39 && eqb w 39 && may_all_be_quoted (a ∷ b ∷ c ∷ d ∷ [])) (from_be_bytes w32 (a ∷ b ∷ c ∷ d ∷ [])) n e in
    let p = and_parts (eqb v 39 && eqb w 39) (may_all_be_quoted (a ∷ b ∷ c ∷ d ∷ [])) t.0 in
    let ends = and_parts (eqb v 39) (eqb w 39) p.0 in
    let inner = quotable_bytes (a ∷ b ∷ c ∷ d ∷ []) p.1 in
    let first : v < 256 = omega (arith, eqb-true v 39 ends.0) in
    let last : w < 256 = omega (arith, eqb-true w 39 ends.1) in
    six v a b c d w first last (inner 0 0 (omega arith)) (inner 1 0 (omega arith)) (inner 2 0 (omega arith)) (inner 3 0 (omega arith)) where
      six : (v a b c d w : ℕ) → v < 256 → w < 256 → a < 256 → b < 256 → c < 256 → d < 256 → AreBytes (v ∷ a ∷ b ∷ c ∷ d ∷ w ∷ [])
      six v a b c d w hv hw ha hb hc hd =
          All-cons (λ x. x < 256) v (a ∷ b ∷ c ∷ d ∷ w ∷ []) hv
          (All-cons (λ x. x < 256) a (b ∷ c ∷ d ∷ w ∷ []) ha
          (All-cons (λ x. x < 256) b (c ∷ d ∷ w ∷ []) hb
          (All-cons (λ x. x < 256) c (d ∷ w ∷ []) hc
          (All-cons (λ x. x < 256) d (w ∷ []) hd
          (All-cons (λ x. x < 256) w [] hw (All-nil (λ x. x < 256)))))))
quoted_bytes text n size e = absurd (omega arith)

digits_bytes : (text : List ℕ) (n : ℕ) → starts_with ◌==◌ text (codes "0x") ≡ true → option_map (from_be_bytes w32) (raw_from None (drop 2 text)) ≡ Some n → AreBytes text
digits_bytes text n begins e =
    let front = (starts_is Decides-eqb text (codes "0x") (starts_with ◌==◌ text (codes "0x")) refl).0 begins in
    let m = mapped_some (from_be_bytes w32) (raw_from None (drop 2 text)) n e in
    let whole : AreBytes (codes "0x" ++ drop 2 text) =
    All-cons (λ b. b < 256) 48 (120 ∷ drop 2 text) (omega arith) (All-cons (λ b. b < 256) 120 (drop 2 text) (omega arith) (hex_bytes (drop 2 text) None m.0 m.1)) in
    subst AreBytes (sym front) whole

code_bytes : (text : List ℕ) (n : ℕ) → code_from text ≡ Some n → AreBytes text
unfolding code_from
code_bytes text n e = by_length (eqb (length text) 6) (eqb (length text) 10) (starts_with ◌==◌ text (codes "0x")) refl refl refl e where
  by_length : (six ten begins : Bool) → eqb (length text) 6 ≡ six → eqb (length text) 10 ≡ ten → starts_with ◌==◌ text (codes "0x") ≡ begins
      → cond six (where_true (eqb (get_or text 0 0) 39 && eqb (get_or text 5 0) 39 && may_all_be_quoted (take 4 (drop 1 text))) (from_be_bytes w32 (take 4 (drop 1 text)))) (cond (ten && begins) (option_map (from_be_bytes w32) (raw_from None (drop 2 text))) None) ≡ Some n
      → AreBytes text
  by_length true ten begins is six h e = quoted_bytes text n (eqb-true (length text) 6 is) e
  by_length false true true is ten h e = digits_bytes text n h e
  by_length false true false is ten h e = absurd cc
  by_length false false begins is ten h e = absurd cc

pub byte_at : (text : List ℕ) → AreBytes text → (i : ℕ) → get_or text i 0 < 256
byte_at text all i = by_place (cases_lt i (length text)) where
  by_place : (i < length text) ⊎ (length text ≤ i) → get_or text i 0 < 256
  by_place (inl within) = All-get_or (λ b. b < 256) text i 0 within all
  by_place (inr past) = rw (get_or_past text i 0 past) (omega arith)

-- the number of a code
pub code_number : (text : List ℕ) (n : ℕ) → code_from text ≡ Some n → IsCodeText text n
code_number text n e = code_takes text n (byte_at text (code_bytes text n e)) e

-- ---- the law
pub code_again_is : (word : List ℕ) (code : Code) → WritesCode word code → code_of word ≡ Some code
code_again_is word code h = ap (option_map coded) (code_again word code.0 h)

pub code_takes_is : (word : List ℕ) (code : Code) → code_of word ≡ Some code → WritesCode word code
code_takes_is word code e =
    let m = mapped_some coded (code_from word) code e in
    let text = code_number word m.0 m.1 in
    subst (λ (c : Code). WritesCode word c) m.2 text

pub code_is_read : (word : List ℕ) (code : Code) → WritesCode word code ↔ (code_of word ≡ Some code)
code_is_read word code = (code_again_is word code, code_takes_is word code)
