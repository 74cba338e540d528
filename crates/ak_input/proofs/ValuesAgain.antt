-- A value that is no message is read from its text.
use Rattle.std.proofs.Common.{◌≡◌, ℕ, suc, ◌+◌, ◌^◌, ◌<◌, ◌≤◌, Bool, true, false, ◌||◌, cond, eqb, ltb, List, [], ◌∷◌, ◌++◌, length, drop, codes, ℤ, pos, negsuc, Option, Some, None, refl, ap, subst, arith}
use Rattle.std.specs.Prelude.{FitsSigned, int_le, unsigned_abs}
use Rattle.std.specs.Fmt.{decimal, signed_decimal}
use Rattle.std.specs.Int.{w8, w16, w32, w64}
use Rattle.std.specs.List.{flat_map, list_all, position, position_or_len}
use Rattle.std.specs.Str.{bytes_eq}
use Rattle.std.proofs.lemmas.Bool.{and_parts, both_ways, eq-eqb, lt-ltb, le-ltb, le-leb, false_from_ne_true}
use Rattle.std.proofs.lemmas.List.{length-append, take_at}
use Rattle.std.proofs.lemmas.Slice.Eq.{bytes_eq-Decides}
use Rattle.std.proofs.lemmas.Str.{is_utf8-from_IsUtf8}
use Rattle.ak_base.specs.Code.{hex_of}
use Rattle.ak_message.specs.declared.address.Address.{Address}
use Rattle.ak_message.specs.declared.address.Target.{Target}
use Rattle.ak_message.specs.declared.address.Target.TheVariants as target
use Rattle.ak_message.specs.declared.kind.Kind.{Kind}
use Rattle.ak_message.specs.declared.kind.Kind.TheVariants as k
use Rattle.ak_message.specs.Kind.{kind_letters}
use Rattle.ak_message.specs.Message.{bool_value, int8_value, int16_value, int32_value, int64_value, uint8_value, uint16_value, uint32_value, uint64_value, text_value, messenger_value, raw_value}
use Rattle.ak_input.specs.MessageText.{quoted, bool_text, target_text}
use Rattle.ak_input.specs.Payload.{kind_before, kind_lettered, int_within, uint_within, target_from, address_from, unquoted}
use Rattle.ak_input.specs.Reading.{Got, got, text_from, raw_value_from, small_from, payload_from, value_with}
use Rattle.ak_message.specs.Whole.{FitsTarget, FitsAddress}
use Rattle.ak_base.specs.Text.{IsText, IsRaw}
use Rattle.ak_input.proofs.HexLaws.{raws_again}
use Rattle.ak_input.proofs.Numbers.{ints_read}
use Rattle.ak_input.proofs.Passing.{differs, is_digit, decimal_digits}
use Rattle.ak_input.proofs.PiecesAgain.{no_zeros, raw_small}
use Rattle.ak_input.proofs.QuotedLaws.{texts_read}
use Rattle.ak_input.proofs.TextKept.{text_ok}

-- ---- the kind

abbrev kind_unless : Bool → Option Kind → Option Kind
kind_unless test kind = cond test None kind

four_letters : (a b c d : ℕ) (payload : List ℕ) → kind_before (a ∷ b ∷ c ∷ d ∷ 58 ∷ payload) ≡ kind_lettered (a ∷ b ∷ c ∷ d ∷ [])
four_letters a b c d payload =
    let long : ltb (length (a ∷ b ∷ c ∷ d ∷ 58 ∷ payload)) 5 ≡ false = le-ltb (length (a ∷ b ∷ c ∷ d ∷ 58 ∷ payload)) 5 (omega arith) in
    ap (λ (short : Bool). kind_unless (short || false) (kind_lettered (a ∷ b ∷ c ∷ d ∷ []))) long

pub kind_again : (kind : Kind) (payload : List ℕ) → kind_before (kind_letters kind ++ 58 ∷ payload) ≡ Some kind
kind_again k.Bool payload = four_letters 66 79 79 76 payload
kind_again k.Int8 payload = four_letters 66 89 84 69 payload
kind_again k.Int16 payload = four_letters 83 72 82 84 payload
kind_again k.Int32 payload = four_letters 76 79 78 71 payload
kind_again k.Int64 payload = four_letters 76 76 78 71 payload
kind_again k.UInt8 payload = four_letters 85 66 89 84 payload
kind_again k.UInt16 payload = four_letters 85 83 72 84 payload
kind_again k.UInt32 payload = four_letters 85 76 78 71 payload
kind_again k.UInt64 payload = four_letters 85 76 76 71 payload
kind_again k.Text payload = four_letters 67 83 84 82 payload
kind_again k.Message payload = four_letters 77 83 71 71 payload
kind_again k.Messenger payload = four_letters 77 83 78 71 payload
kind_again k.Raw payload = four_letters 82 65 87 84 payload

pub behind_letters : (kind : Kind) (payload : List ℕ) → drop 5 (kind_letters kind ++ 58 ∷ payload) ≡ payload
behind_letters k.Bool payload = refl
behind_letters k.Int8 payload = refl
behind_letters k.Int16 payload = refl
behind_letters k.Int32 payload = refl
behind_letters k.Int64 payload = refl
behind_letters k.UInt8 payload = refl
behind_letters k.UInt16 payload = refl
behind_letters k.UInt32 payload = refl
behind_letters k.UInt64 payload = refl
behind_letters k.Text payload = refl
behind_letters k.Message payload = refl
behind_letters k.Messenger payload = refl
behind_letters k.Raw payload = refl

-- a value is read by its kind
pub value_is : (message : List ℕ → Option Got) (kind : Kind) (payload : List ℕ) → value_with message (kind_letters kind ++ 58 ∷ payload) ≡ payload_from message kind payload
value_is message kind payload = rw (kind_again kind payload, behind_letters kind payload) refl

-- ---- numbers

int_again : (low high z : ℤ) → unsigned_abs low < 10 ^ 20 → unsigned_abs high < 10 ^ 20 → int_le low z ≡ true → int_le z high ≡ true → int_within low high (signed_decimal z) ≡ Some z
int_again low high z small_low small_high over under = (ints_read low high (signed_decimal z) z small_low small_high).all refl over under

uint_again : (high n : ℕ) → high < 10 ^ 20 → n ≤ high → uint_within high (decimal n) ≡ Some n
uint_again high n small le = rw (int_again (pos 0) (pos high) (pos n) (omega arith) small (le-leb 0 n (omega arith)) (le-leb n high le)) refl

within_8 : (z : ℤ) → FitsSigned w8 z → int_within (negsuc 127) (pos 127) (signed_decimal z) ≡ Some z
within_8 (pos x) fits = int_again (negsuc 127) (pos 127) (pos x) (omega arith) (omega arith) refl (le-leb x 127 (omega (arith, fits)))
within_8 (negsuc x) fits = int_again (negsuc 127) (pos 127) (negsuc x) (omega arith) (omega arith) (le-leb x 127 (omega (arith, fits))) refl

within_16 : (z : ℤ) → FitsSigned w16 z → int_within (negsuc 32767) (pos 32767) (signed_decimal z) ≡ Some z
within_16 (pos x) fits = int_again (negsuc 32767) (pos 32767) (pos x) (omega arith) (omega arith) refl (le-leb x 32767 (omega (arith, fits)))
within_16 (negsuc x) fits = int_again (negsuc 32767) (pos 32767) (negsuc x) (omega arith) (omega arith) (le-leb x 32767 (omega (arith, fits))) refl

pub within_32 : (z : ℤ) → FitsSigned w32 z → int_within (negsuc 2147483647) (pos 2147483647) (signed_decimal z) ≡ Some z
within_32 (pos x) fits = int_again (negsuc 2147483647) (pos 2147483647) (pos x) (omega arith) (omega arith) refl (le-leb x 2147483647 (omega (arith, fits)))
within_32 (negsuc x) fits = int_again (negsuc 2147483647) (pos 2147483647) (negsuc x) (omega arith) (omega arith) (le-leb x 2147483647 (omega (arith, fits))) refl

within_64 : (z : ℤ) → FitsSigned w64 z → int_within (negsuc 9223372036854775807) (pos 9223372036854775807) (signed_decimal z) ≡ Some z
within_64 (pos x) fits = int_again (negsuc 9223372036854775807) (pos 9223372036854775807) (pos x) (omega arith) (omega arith) refl (le-leb x 9223372036854775807 (omega (arith, fits)))
within_64 (negsuc x) fits = int_again (negsuc 9223372036854775807) (pos 9223372036854775807) (negsuc x) (omega arith) (omega arith) (le-leb x 9223372036854775807 (omega (arith, fits))) refl

-- ---- the first place of a byte

first_at : (test : ℕ → Bool) (c : ℕ) (front rest : List ℕ) → list_all test front ≡ true → test c ≡ false → position_or_len (λ b. eqb b c) (front ++ c ∷ rest) ≡ length front
first_at test c [] rest all fails = rw (eq-eqb c c refl) refl
first_at test c (b ∷ front) rest all fails =
    let parts = and_parts (test b) (list_all test front) all in
    let next = first_at test c front rest parts.1 fails in
    rw (differs test b c parts.0 fails, next) (omega arith)

pub position_again : (test : ℕ → Bool) (c : ℕ) (front rest : List ℕ) → list_all test front ≡ true → test c ≡ false → position (λ b. eqb b c) (front ++ c ∷ rest) ≡ Some (length front)
position_again test c front rest all fails =
    let less : ltb (length front) (length (front ++ c ∷ rest)) ≡ true = lt-ltb (length front) (length (front ++ c ∷ rest)) (omega (arith, length-append front (c ∷ rest))) in
    rw (first_at test c front rest all fails, less) refl

pub drop_past : (front : List ℕ) (c : ℕ) (rest : List ℕ) → drop (length front + 1) (front ++ c ∷ rest) ≡ rest
drop_past [] c rest = refl
drop_past (b ∷ front) c rest =
    let more : length (b ∷ front) + 1 ≡ suc (length front + 1) = omega arith in
    rw more (drop_past front c rest)

-- ---- addresses

no_letter : (n : ℕ) → n < 10 ^ 20 → bytes_eq (decimal n) (codes "p") ≡ false
no_letter n small =
    false_from_ne_true (bytes_eq (decimal n) (codes "p"))
    (λ e. both_ways (list_all is_digit (codes "p")) refl (subst (λ (t : List ℕ). list_all is_digit t ≡ true) ((bytes_eq-Decides (decimal n) (codes "p")).0 e) (decimal_digits n small)))

target_again : (t : Target) → FitsTarget t → target_from (target_text t) ≡ Some t
target_again target.Preferred fits = refl
target_again (target.Token n) fits = rw (no_letter n (omega arith), uint_again 18446744073709551615 n (omega arith) (omega arith)) refl

address_again : (a : Address) → FitsAddress a → address_from (decimal a.looper ++ 46 ∷ target_text a.target) ≡ Some a
unfolding address_from
address_again a fits =
    let looper_small : a.looper < 10 ^ 20 = omega (arith, fits.0) in
    let looper_within : a.looper ≤ 4294967295 = omega (arith, fits.0) in
    rw (
      position_again is_digit 46 (decimal a.looper) (target_text a.target) (decimal_digits a.looper looper_small) refl,
      take_at (decimal a.looper) (46 ∷ target_text a.target) (length (decimal a.looper)) refl,
      drop_past (decimal a.looper) 46 (target_text a.target),
      uint_again 4294967295 a.looper (omega arith) looper_within,
      target_again a.target fits.1,
    ) refl

-- ---- texts and raw bytes

pub text_again : (bytes : List ℕ) → IsText bytes → text_from (quoted bytes) ≡ Some (got (text_value bytes))
unfolding text_from
text_again bytes fits =
    let read : unquoted (quoted bytes) ≡ Some bytes = (texts_read (quoted bytes) bytes).all refl (no_zeros bytes fits.0.1) in
    rw read (text_ok bytes (is_utf8-from_IsUtf8 bytes fits.1) fits)

pub raw_again : (bytes : List ℕ) → IsRaw bytes → raw_value_from (flat_map hex_of bytes) ≡ Some (got (raw_value bytes))
unfolding raw_value_from
raw_again bytes fits = rw (raws_again bytes (raw_small bytes fits.1), le-leb (length bytes) 1024 fits.0) refl

-- ---- payloads without texts in them

module _ (message : List ℕ → Option Got) where
  pub bool_again : (x : Bool) → payload_from message k.Bool (bool_text x) ≡ Some (got (bool_value x))
  unfolding small_from
  bool_again true = refl
  bool_again false = refl

  pub int8_again : (z : ℤ) → FitsSigned w8 z → payload_from message k.Int8 (signed_decimal z) ≡ Some (got (int8_value z))
  unfolding small_from
  int8_again z fits = rw (within_8 z fits) refl

  pub int16_again : (z : ℤ) → FitsSigned w16 z → payload_from message k.Int16 (signed_decimal z) ≡ Some (got (int16_value z))
  unfolding small_from
  int16_again z fits = rw (within_16 z fits) refl

  pub int32_again : (z : ℤ) → FitsSigned w32 z → payload_from message k.Int32 (signed_decimal z) ≡ Some (got (int32_value z))
  unfolding small_from
  int32_again z fits = rw (within_32 z fits) refl

  pub int64_again : (z : ℤ) → FitsSigned w64 z → payload_from message k.Int64 (signed_decimal z) ≡ Some (got (int64_value z))
  unfolding small_from
  int64_again z fits = rw (within_64 z fits) refl

  pub uint8_again : (n : ℕ) → n < 2 ^ 8 → payload_from message k.UInt8 (decimal n) ≡ Some (got (uint8_value n))
  unfolding small_from
  uint8_again n fits = rw (uint_again 255 n (omega arith) (omega arith)) refl

  pub uint16_again : (n : ℕ) → n < 2 ^ 16 → payload_from message k.UInt16 (decimal n) ≡ Some (got (uint16_value n))
  unfolding small_from
  uint16_again n fits = rw (uint_again 65535 n (omega arith) (omega arith)) refl

  pub uint32_again : (n : ℕ) → n < 2 ^ 32 → payload_from message k.UInt32 (decimal n) ≡ Some (got (uint32_value n))
  unfolding small_from
  uint32_again n fits = rw (uint_again 4294967295 n (omega arith) (omega arith)) refl

  pub uint64_again : (n : ℕ) → n < 2 ^ 64 → payload_from message k.UInt64 (decimal n) ≡ Some (got (uint64_value n))
  unfolding small_from
  uint64_again n fits = rw (uint_again 18446744073709551615 n (omega arith) (omega arith)) refl

  pub messenger_again : (a : Address) → FitsAddress a → payload_from message k.Messenger (decimal a.looper ++ 46 ∷ target_text a.target) ≡ Some (got (messenger_value a))
  unfolding small_from
  messenger_again a fits = rw (address_again a fits) refl
