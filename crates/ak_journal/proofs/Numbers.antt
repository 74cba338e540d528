-- A number that fits is read of what is printed of it.
use Rattle.std.proofs.Common.{◌≡◌, ℕ, ◌+◌, ◌-◌, ◌<◌, Bool, true, false, eqb, ltb, cond, List, [], ◌∷◌, ◌++◌, ℤ, pos, Option, Some, None, refl, sym, ap, arith}
use Rattle.std.specs.Prelude.{codes, option_map, unsigned_abs}
use Rattle.std.specs.Fmt.{decimal}
use Rattle.std.specs.Str.{bytes_eq}
use Rattle.std.proofs.lemmas.Bool.{and_left, eqb-true, le-leb, ltb-false, ne_eqb}
use Rattle.ak_input.proofs.Surface.{ints_read, number_again}
use Rattle.ak_journal.specs.Parts.{thread_text, token_text}
use Rattle.ak_journal.specs.Legible.{Fits32, Fits64, FitsToken}
use Rattle.ak_journal.specs.ReadParts.{thread_numbered, thread_of, token_of, u32_of, u64_of}
use Rattle.ak_journal.proofs.Dark.{AreDigits, decimal_digits, first_digit}

pub u32_again : (n : ℕ) → Fits32 n → u32_of (decimal n) ≡ Some n
u32_again n fits = number_again 0 4294967295 (decimal n) n (omega arith) (refl, omega arith, omega (arith, fits))

pub u64_again : (n : ℕ) → Fits64 n → u64_of (decimal n) ≡ Some n
u64_again n fits =
    ap (λ (o : Option ℤ). option_map unsigned_abs o)
    ((ints_read (pos 0) (pos 18446744073709551615) (decimal n) (pos n) (omega arith) (omega arith)).all refl (le-leb 0 n (omega arith)) (le-leb n 18446744073709551615 (omega (arith, fits))))

-- digits are no word that begins with a letter
pub no_letter : (text : List ℕ) (c : ℕ) (rest : List ℕ) → AreDigits text → 57 < c → bytes_eq text (c ∷ rest) ≡ false
no_letter [] c rest digits over = refl
no_letter (b ∷ text) c rest digits over =
    let first = first_digit b text digits in
    and_left (eqb b c) (bytes_eq text rest) (ne_eqb b c (λ e. omega (arith, e, first.1, over)))

pub token_again : (token : Option ℕ) → FitsToken token → token_of (token_text token) ≡ Some token
token_again None fits = refl
token_again (Some token) fits = rw (no_letter (decimal token) 110 (codes "one") (decimal_digits token) (omega arith), u64_again token fits) refl

-- ---- threads
session_or_looper : (n : ℕ) (session : Bool) → Fits32 n → ltb n 10000 ≡ session → thread_of (cond session (codes "s" ++ decimal n) (codes "l" ++ decimal (n - 10000))) ≡ Some (thread_numbered n)
session_or_looper n true fits is = rw (u32_again n fits) refl
session_or_looper n false fits is =
    let least = ltb-false n 10000 is in
    let read = number_again 0 4294957295 (decimal (n - 10000)) (n - 10000) (omega arith) (refl, omega arith, omega (arith, fits)) in
    let whole : 10000 + (n - 10000) ≡ n = omega (arith, least) in
    rw read (ap (λ (k : ℕ). Some (thread_numbered k)) whole)

pub thread_again : (n : ℕ) → Fits32 n → thread_of (thread_text n) ≡ Some (thread_numbered n)
thread_again n fits = by_main (eqb n 0) refl where
  by_main : (main : Bool) → eqb n 0 ≡ main → thread_of (cond main (codes "m") (cond (ltb n 10000) (codes "s" ++ decimal n) (codes "l" ++ decimal (n - 10000)))) ≡ Some (thread_numbered n)
  by_main true is = ap (λ (k : ℕ). Some (thread_numbered k)) (sym (eqb-true n 0 is))
  by_main false is = session_or_looper n (ltb n 10000) fits refl
