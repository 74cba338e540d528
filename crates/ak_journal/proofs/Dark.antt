-- Bytes that are neither blank nor control: no word of an entry has another.
use Rattle.std.proofs.Common.{◌≡◌, ℕ, zero, suc, ◌/◌, ◌%◌, ◌<◌, ◌≤◌, Bool, true, false, ◌&&◌, ltb, leb, List, [], ◌∷◌, ◌++◌, refl, arith}
use Rattle.std.specs.Prelude.{◌==◌, if◌then◌else◌, slice_index}
use Rattle.std.specs.Fmt.{decimal, digits, digits_onto, digit_glyph}
use Rattle.std.specs.List.{list_all}
use Rattle.std.proofs.lemmas.Bool.{and_from, and_parts, le-leb, leb-true, lt-ltb}
use Rattle.std.proofs.lemmas.Bool.Decides.{nat_tests}
use Rattle.std.proofs.lemmas.List.Folds.{list_all-append}
use Rattle.hex.specs.Hex.{encode_lower, encode_with, lower_digits, IsBytes}
use Rattle.ak_base.specs.Word.{is_word_byte, is_word}
use Rattle.ak_base.proofs.Surface.{word_byte, word_parts}

abbrev pub is_dark : ℕ → Bool
is_dark b = ltb 32 b

pub record IsDark (word : List ℕ) : Type 0 where
  pub all : list_all is_dark word ≡ true

abbrev pub AreDark : List (List ℕ) → Type 0
AreDark [] = Unit {0}
AreDark (word ∷ words) = IsDark word × AreDark words

pub nothing_dark : IsDark []
nothing_dark = record { all = refl }

pub dark_cons : (b : ℕ) (word : List ℕ) → 32 < b → IsDark word → IsDark (b ∷ word)
dark_cons b word over dark = record { all = and_from (is_dark b) (list_all is_dark word) (lt-ltb 32 b over) dark.all }

pub dark_append : (xs ys : List ℕ) → IsDark xs → IsDark ys → IsDark (xs ++ ys)
dark_append xs ys p q = record { all = rw (list_all-append is_dark xs ys) (and_from (list_all is_dark xs) (list_all is_dark ys) p.all q.all) }

pub are_dark_append : (xs ys : List (List ℕ)) → AreDark xs → AreDark ys → AreDark (xs ++ ys)
are_dark_append [] ys p q = q
are_dark_append (word ∷ xs) ys p q = (p.0, are_dark_append xs ys p.1 q)

-- ---- digits
pub record AreDigits (text : List ℕ) : Type 0 where
  pub all : list_all (λ b. leb 48 b && leb b 57) text ≡ true

digits_more : (b : ℕ) (text : List ℕ) → 48 ≤ b → b ≤ 57 → AreDigits text → AreDigits (b ∷ text)
digits_more b text low high more =
    record { all = and_from (leb 48 b && leb b 57) (list_all (λ b. leb 48 b && leb b 57) text) (and_from (leb 48 b) (leb b 57) (le-leb 48 b low) (le-leb b 57 high)) more.all }

digits_are : (n k : ℕ) (acc : List ℕ) → AreDigits acc → AreDigits (digits_onto k 10 false n acc)
digits_are n zero acc h = h
digits_are n (suc k) acc h =
    let digit : ℕ = digit_glyph false (n % 10) in
    let low : 48 ≤ digit = grind (arith, nat_tests) in
    let high : digit ≤ 57 = grind (arith, nat_tests) in
    let more : AreDigits (digit ∷ acc) = digits_more digit acc low high h in
    elim (n / 10 == 0) as (λ t. AreDigits (if t then digit ∷ acc else digits_onto k 10 false (n / 10) (digit ∷ acc))) [ true ↦ more | false ↦ digits_are (n / 10) k (digit ∷ acc) more ]

pub decimal_digits : (n : ℕ) → AreDigits (decimal n)
unfolding digits
decimal_digits n = digits_are n 64 [] (record { all = refl })

pub first_digit : (b : ℕ) (text : List ℕ) → AreDigits (b ∷ text) → (48 ≤ b) × (b ≤ 57) × AreDigits text
first_digit b text h =
    let parts = and_parts (leb 48 b && leb b 57) (list_all (λ b. leb 48 b && leb b 57) text) h.all in
    let ends = and_parts (leb 48 b) (leb b 57) parts.0 in
    (leb-true 48 b ends.0, leb-true b 57 ends.1, record { all = parts.1 })

pub digits_dark : (text : List ℕ) → AreDigits text → IsDark text
digits_dark [] h = nothing_dark
digits_dark (b ∷ text) h = let first = first_digit b text h in dark_cons b text (omega (arith, first.0)) (digits_dark text first.2)

pub decimal_dark : (n : ℕ) → IsDark (decimal n)
decimal_dark n = digits_dark (decimal n) (decimal_digits n)

-- ---- names
bytes_dark : (bytes : List ℕ) → list_all is_word_byte bytes ≡ true → IsDark bytes
bytes_dark [] all = nothing_dark
bytes_dark (b ∷ bytes) all =
    let parts = and_parts (is_word_byte b) (list_all is_word_byte bytes) all in
    dark_cons b bytes (omega (arith, (word_byte b parts.0).0)) (bytes_dark bytes parts.1)

pub word_dark : (word : List ℕ) → is_word word ≡ true → IsDark word
word_dark word is = bytes_dark word (word_parts word is).1

-- ---- hexadecimal digits
hex_dark : (d : ℕ) → d < 16 → 32 < slice_index lower_digits d
hex_dark zero lt = omega arith
hex_dark (suc zero) lt = omega arith
hex_dark (suc (suc zero)) lt = omega arith
hex_dark (suc (suc (suc zero))) lt = omega arith
hex_dark (suc (suc (suc (suc zero)))) lt = omega arith
hex_dark (suc (suc (suc (suc (suc zero))))) lt = omega arith
hex_dark (suc (suc (suc (suc (suc (suc zero)))))) lt = omega arith
hex_dark (suc (suc (suc (suc (suc (suc (suc zero))))))) lt = omega arith
hex_dark (suc (suc (suc (suc (suc (suc (suc (suc zero)))))))) lt = omega arith
hex_dark (suc (suc (suc (suc (suc (suc (suc (suc (suc zero))))))))) lt = omega arith
hex_dark (suc (suc (suc (suc (suc (suc (suc (suc (suc (suc zero)))))))))) lt = omega arith
hex_dark (suc (suc (suc (suc (suc (suc (suc (suc (suc (suc (suc zero))))))))))) lt = omega arith
hex_dark (suc (suc (suc (suc (suc (suc (suc (suc (suc (suc (suc (suc zero)))))))))))) lt = omega arith
hex_dark (suc (suc (suc (suc (suc (suc (suc (suc (suc (suc (suc (suc (suc zero))))))))))))) lt = omega arith
hex_dark (suc (suc (suc (suc (suc (suc (suc (suc (suc (suc (suc (suc (suc (suc zero)))))))))))))) lt = omega arith
hex_dark (suc (suc (suc (suc (suc (suc (suc (suc (suc (suc (suc (suc (suc (suc (suc zero))))))))))))))) lt = omega arith
hex_dark (suc (suc (suc (suc (suc (suc (suc (suc (suc (suc (suc (suc (suc (suc (suc (suc d)))))))))))))))) lt = absurd (omega arith)

pub flat_dark : (flat : List ℕ) → IsBytes flat → IsDark (encode_lower flat)
unfolding encode_with
flat_dark [] bytes = nothing_dark
flat_dark (b ∷ flat) bytes =
    let fits : b < 256 = bytes 0 in
    dark_cons (slice_index lower_digits (b / 16)) (slice_index lower_digits (b % 16) ∷ encode_lower flat) (hex_dark (b / 16) (omega arith))
    (dark_cons (slice_index lower_digits (b % 16)) (encode_lower flat) (hex_dark (b % 16) (omega arith)) (flat_dark flat (λ k. bytes (suc k))))
