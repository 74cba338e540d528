-- The texts of a code, and that a text has one code.
use Rattle.std.proofs.Common.{◌≡◌, ◌≢◌, ℕ, zero, suc, ◌/◌, ◌%◌, ◌^◌, ◌<◌, List, [], ◌∷◌, ◌++◌, length, get_or, take, drop, Bool, true, false, refl, sym, ap, ◌∙◌, inl, inr, ⊎_elim, arith, w32}
use Rattle.std.specs.Char.{digit_char, digit_value}
use Rattle.std.specs.Int.{from_be_bytes}
use Rattle.std.proofs.lemmas.Bool.{cond-true, cond-false}
use Rattle.std.proofs.lemmas.Nat.{be_bytes_4, from_be_bytes-to_be_bytes_4}
use Rattle.std.proofs.lemmas.Str.{digit_value-digit_char}
use Rattle.ak_base.specs.Code.{bytes_of, may_all_be_quoted, quoted, hex, hex_of, code_text, IsCodeText, OneCodeText, PrintedCodesAreRead}

pub code_text-quoted : (code : ℕ) → may_all_be_quoted (bytes_of code) ≡ true → code_text code ≡ quoted (bytes_of code)
unfolding code_text
code_text-quoted code all = cond-true _ _ _ all

pub code_text-hex : (code : ℕ) → may_all_be_quoted (bytes_of code) ≡ false → code_text code ≡ hex (bytes_of code)
unfolding code_text
code_text-hex code some = cond-false _ _ _ some

pub printed_codes_are_read : PrintedCodesAreRead
printed_codes_are_read code small = by (may_all_be_quoted (bytes_of code)) refl
  where
    by : (b : Bool) → may_all_be_quoted (bytes_of code) ≡ b → IsCodeText (code_text code) code
    by true e = record { is_code = small; form = inr (e, code_text-quoted code e) }
    by false e = record { is_code = small; form = inl (code_text-hex code e) }

-- two digits write one byte
digit_char_injective : (d e : ℕ) → d < 16 → e < 16 → digit_char d ≡ digit_char e → d ≡ e
digit_char_injective d e p q same = sym (digit_value-digit_char d (omega arith)) ∙ ap digit_value same ∙ digit_value-digit_char e (omega arith)

hex_of_injective : (a b : ℕ) → a < 256 → b < 256 → hex_of a ≡ hex_of b → a ≡ b
hex_of_injective a b p q e =
    let high : a / 16 ≡ b / 16 = digit_char_injective _ _ (omega arith) (omega arith) (ap (λ x. get_or x 0 0) e) in
    let low : a % 16 ≡ b % 16 = digit_char_injective _ _ (omega arith) (omega arith) (ap (λ x. get_or x 1 0) e) in
    omega (arith, high, low)

hex_injective : (a b c d p q r s : ℕ) → a < 256 → b < 256 → c < 256 → d < 256 → p < 256 → q < 256 → r < 256 → s < 256
    → hex (a ∷ b ∷ c ∷ d ∷ []) ≡ hex (p ∷ q ∷ r ∷ s ∷ []) → (a ∷ b ∷ c ∷ d ∷ []) ≡ (p ∷ q ∷ r ∷ s ∷ [])
hex_injective a b c d p q r s ha hb hc hd hp hq hr hs e =
    let e1 = hex_of_injective a p ha hp (ap (λ x. take 2 (drop 2 x)) e) in
    let e2 = hex_of_injective b q hb hq (ap (λ x. take 2 (drop 4 x)) e) in
    let e3 = hex_of_injective c r hc hr (ap (λ x. take 2 (drop 6 x)) e) in
    let e4 = hex_of_injective d s hd hs (ap (λ x. take 2 (drop 8 x)) e) in
    cc

bytes_from_hex : (m n : ℕ) → hex (bytes_of m) ≡ hex (bytes_of n) → bytes_of m ≡ bytes_of n
bytes_from_hex m n e = hex_injective _ _ _ _ _ _ _ _ (omega arith) (omega arith) (omega arith) (omega arith) (omega arith) (omega arith) (omega arith) (omega arith) e

-- the first byte tells the forms apart
hex_ne_quoted : (bs cs : List ℕ) → hex bs ≢ quoted cs
hex_ne_quoted bs cs e = omega (arith, ap (λ x. get_or x 0 0) e)

pub one_code_text : OneCodeText
one_code_text text m n p q = sym (from_be_bytes-to_be_bytes_4 m p.is_code) ∙ ap (from_be_bytes w32) same ∙ from_be_bytes-to_be_bytes_4 n q.is_code
  where
    same : bytes_of m ≡ bytes_of n
    same = ⊎_elim
        (λ a. ⊎_elim (λ b. bytes_from_hex m n (sym a ∙ b)) (λ b. absurd (hex_ne_quoted (bytes_of m) (bytes_of n) (sym a ∙ b.1))) q.form)
        (λ a. ⊎_elim (λ b. absurd (hex_ne_quoted (bytes_of n) (bytes_of m) (sym b ∙ a.1))) (λ b. ap (λ x. take 4 (drop 1 x)) (sym a.1 ∙ b.1)) q.form)
        p.form

-- a code is below 2 ^ 32
code_below : (a b c d : ℕ) → a < 256 → b < 256 → c < 256 → d < 256 → from_be_bytes w32 (a ∷ b ∷ c ∷ d ∷ []) < 2 ^ 32
code_below a b c d p q r s = omega arith

bytes_again : (a b c d n : ℕ) → a < 256 → b < 256 → c < 256 → d < 256 → n ≡ from_be_bytes w32 (a ∷ b ∷ c ∷ d ∷ []) → bytes_of n ≡ (a ∷ b ∷ c ∷ d ∷ [])
bytes_again a b c d n p q r s is = be_bytes_4 (a ∷ b ∷ c ∷ d ∷ []) n refl small is
  where
    small : (i : ℕ) → get_or (a ∷ b ∷ c ∷ d ∷ []) i 0 < 256
    small zero = p
    small (suc zero) = q
    small (suc (suc zero)) = r
    small (suc (suc (suc zero))) = s
    small (suc (suc (suc (suc i)))) = omega arith

-- what is read between quotes, and after `0x`
pub quoted_found : (text : List ℕ) (n : ℕ) → length text ≡ 6 → get_or text 0 0 ≡ 39 → get_or text 5 0 ≡ 39 → may_all_be_quoted (take 4 (drop 1 text)) ≡ true → ((i : ℕ) → get_or text i 0 < 256)
    → n ≡ from_be_bytes w32 (get_or text 1 0 ∷ get_or text 2 0 ∷ get_or text 3 0 ∷ get_or text 4 0 ∷ []) → IsCodeText text n
quoted_found (v ∷ a ∷ b ∷ c ∷ d ∷ w ∷ []) n size first last all bytes is =
    let e = bytes_again a b c d n (bytes 1) (bytes 2) (bytes 3) (bytes 4) is in
    record {
      is_code = omega (arith, is, code_below a b c d (bytes 1) (bytes 2) (bytes 3) (bytes 4));
      form = inr (ap may_all_be_quoted e ∙ all, (λ i. first i ∷ a ∷ b ∷ c ∷ d ∷ last i ∷ []) ∙ ap quoted (sym e));
    }
quoted_found text n size first last all bytes is = absurd (omega arith)

pub hex_found : (text : List ℕ) (a b c d n : ℕ) → length text ≡ 10 → get_or text 0 0 ≡ 48 → get_or text 1 0 ≡ 120
    → (get_or text 2 0 ∷ get_or text 3 0 ∷ []) ≡ hex_of a → (get_or text 4 0 ∷ get_or text 5 0 ∷ []) ≡ hex_of b
    → (get_or text 6 0 ∷ get_or text 7 0 ∷ []) ≡ hex_of c → (get_or text 8 0 ∷ get_or text 9 0 ∷ []) ≡ hex_of d
    → a < 256 → b < 256 → c < 256 → d < 256 → n ≡ from_be_bytes w32 (a ∷ b ∷ c ∷ d ∷ []) → IsCodeText text n
hex_found (s ∷ t ∷ v0 ∷ v1 ∷ v2 ∷ v3 ∷ v4 ∷ v5 ∷ v6 ∷ v7 ∷ []) a b c d n size zero_is x_is ea eb ec ed pa pb pc pd is =
    let e = bytes_again a b c d n pa pb pc pd is in
    record {
      is_code = omega (arith, is, code_below a b c d pa pb pc pd);
      form = inl ((λ i. zero_is i ∷ x_is i ∷ (ea i ++ eb i ++ ec i ++ ed i)) ∙ ap hex (sym e));
    }
hex_found text a b c d n size zero_is x_is ea eb ec ed pa pb pc pd is = absurd (omega arith)
