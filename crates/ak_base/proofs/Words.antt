-- What words are made of: each is a text.
use Rattle.std.proofs.Common.{ltb, leb, ◌≡◌, ℕ, ◌<◌, ◌≤◌, true, ◌&&◌, List, [], ◌∷◌, length, get_or, Contains, IsUtf8, arith, refl, zero, suc}
use Rattle.std.specs.List.{list_all}
use Rattle.std.specs.Str.{IsAscii}
use Rattle.std.proofs.lemmas.Str.{IsUtf8-from_ascii}
use Rattle.std.proofs.lemmas.Bool.Decides.{nat_tests}
use Rattle.std.proofs.lemmas.Bool.{and_parts}
use Rattle.ak_base.specs.Word.{is_word_byte, is_word}
use Rattle.ak_base.specs.declared.text.TextFault.{TextFault}
use Rattle.ak_base.specs.declared.text.TextFault.TheVariants as fault

pub word_byte : (b : ℕ) → is_word_byte b ≡ true → (45 ≤ b) × (b < 128)
word_byte b h = (grind (arith, nat_tests), grind (arith, nat_tests))

pub word_bytes : (bytes : List ℕ) → list_all is_word_byte bytes ≡ true → (i : ℕ) → (get_or bytes i 0 < 128) × (i < length bytes → 45 ≤ get_or bytes i 0)
word_bytes [] h i = (omega arith, λ lt. absurd (omega arith))
word_bytes (b ∷ bytes) h zero = let w = word_byte b (and_parts (is_word_byte b) _ h).0 in (w.1, λ lt. w.0)
word_bytes (b ∷ bytes) h (suc i) = let w = word_bytes bytes (and_parts (is_word_byte b) _ h).1 i in (w.0, λ lt. w.1 (omega arith))

pub word_parts : (word : List ℕ) → is_word word ≡ true → (length word ≤ 64) × (list_all is_word_byte word ≡ true)
word_parts word h =
    let parts = and_parts (ltb 0 (length word) && leb (length word) 64) (list_all is_word_byte word) h in
    let sizes = and_parts (ltb 0 (length word)) (leb (length word) 64) parts.0 in
    (grind (arith, nat_tests, sizes.1), parts.1)

pub word_ascii : (word : List ℕ) → is_word word ≡ true → IsAscii word
word_ascii word h i = (word_bytes word (word_parts word h).1 i).0

pub word_has_no_zero : (word : List ℕ) → is_word word ≡ true → ¬ (Contains word 0)
word_has_no_zero word h found =
    let w = (word_bytes word (word_parts word h).1 found.0).1 found.1 in
    absurd (omega (arith, w, found.2))

-- a name is a text, so only memory can be missing
pub only_memory : (f : TextFault) (word : List ℕ) → is_word word ≡ true → (f ≡ fault.TooLong → 1024 < length word) → (f ≡ fault.NotUtf8 → ¬ (IsUtf8 word)) → (f ≡ fault.Zero → Contains word 0) → f ≡ fault.NoMemory
only_memory fault.TooLong word h long utf8 none = absurd (omega (arith, long refl, (word_parts word h).0))
only_memory fault.NotUtf8 word h long utf8 none = absurd (utf8 refl (IsUtf8-from_ascii word (word_ascii word h)))
only_memory fault.Zero word h long utf8 none = absurd (word_has_no_zero word h (none refl))
only_memory fault.NoMemory word h long utf8 none = refl
