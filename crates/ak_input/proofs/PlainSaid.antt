-- A payload that is no message is read as what it says, and as nothing else.
use Rattle.std.proofs.Common.{◌≡◌, ◌≢◌, ℕ, ◌+◌, ◌^◌, ◌<◌, ◌≤◌, Bool, true, false, cond, not, eqb, leb, List, ◌∷◌, ◌++◌, length, get_or, take, drop, codes, ℤ, pos, negsuc, Option, Some, None, refl, sym, ap, subst, ◌∙◌, arith}
use Rattle.std.specs.Prelude.{All, Contains, FitsSigned, int_le, option_map}
use Rattle.std.specs.Fmt.{decimal, signed_decimal}
use Rattle.std.specs.Int.{w8, w16, w32, w64}
use Rattle.std.specs.List.{flat_map, list_any}
use Rattle.std.specs.Str.{bytes_eq, is_utf8}
use Rattle.std.proofs.lemmas.Bool.{both_ways, eqb-true, leb-true, leb-false, le-leb, lt-leb}
use Rattle.std.proofs.lemmas.List.{drop_more, take-append-drop}
use Rattle.std.proofs.lemmas.List.Elements.{All-get_or}
use Rattle.std.proofs.lemmas.List.Quantifiers.{position-Some}
use Rattle.std.proofs.lemmas.Slice.Eq.{bytes_eq-Decides}
use Rattle.std.proofs.lemmas.Str.{IsUtf8-from_is_utf8, is_utf8-from_IsUtf8}
use Rattle.ak_base.proofs.Surface.{bind_some, cond_some, some_is}
use Rattle.ak_base.specs.Code.{hex_of}
use Rattle.ak_base.specs.Option.{where_true, ◌>>=◌}
use Rattle.ak_base.specs.declared.limited.Limited.{Limited}
use Rattle.ak_base.specs.declared.limited.Limited.TheVariants.{Within, Over}
use Rattle.ak_message.specs.declared.address.Address.{Address}
use Rattle.ak_message.specs.declared.address.Target.{Target}
use Rattle.ak_message.specs.declared.address.Target.TheVariants as target
use Rattle.ak_message.specs.declared.kind.Kind.{Kind}
use Rattle.ak_message.specs.declared.kind.Kind.TheVariants as k
use Rattle.ak_message.specs.Kind.{is_same_kind}
use Rattle.ak_message.specs.Message.{ValueData, bool_value, int8_value, int16_value, int32_value, int64_value, uint8_value, uint16_value, uint32_value, uint64_value, text_value, message_value, messenger_value, raw_value, kind_of}
use Rattle.ak_message.specs.Whole.{FitsAddress, FitsTarget, FitsValue}
use Rattle.ak_message.proofs.Surface.{same_kind-refl}
use Rattle.ak_input.specs.Got.{Got, got, over}
use Rattle.ak_input.specs.MessageText.{address_text, bool_text, payload_text, quoted, target_text}
use Rattle.ak_input.specs.Payload.{address_from, bool_from, int_within, point_in, raw_from, target_from, uint_within, unquoted}
use Rattle.ak_input.specs.Reading.{payload_from, raw_value_from, raw_within, small_from, text_from, text_got, text_of}
use Rattle.ak_input.specs.Said.{IsLongRaw, IsLongText, IsPrinted, WritesPlain, WritesText}
use Rattle.ak_input.proofs.CodeWords.{byte_at}
use Rattle.ak_input.proofs.HexLaws.{raws_read}
use Rattle.ak_input.proofs.NumberWords.{mapped_some, number_takes}
use Rattle.ak_input.proofs.Numbers.{ints_read}
use Rattle.ak_input.proofs.PiecesAgain.{no_zeros}
use Rattle.ak_input.proofs.QuotedLaws.{Positive, texts_read}
use Rattle.ak_input.proofs.TextKept.{text_long}
use Rattle.ak_input.proofs.ValuesAgain.{bool_again, int8_again, int16_again, int32_again, int64_again, uint8_again, uint16_again, uint32_again, uint64_again, text_again, messenger_again, raw_again}

-- ---- kinds
pub apart : (a b : Kind) → is_same_kind a b ≡ false → a ≢ b
apart a b other = λ same. both_ways (is_same_kind a b) other (subst (λ (x : Kind). is_same_kind x b ≡ true) (sym same) (same_kind-refl b))

-- the value has this kind, and this text is printed of it
abbrev Prints : Kind → List ℕ → ValueData → Type 0
Prints kind text v = IsPrinted text v × (kind_of v ≡ kind)

prints : (text : List ℕ) (v w : ValueData) → v ≡ w → is_same_kind (kind_of v) k.Message ≡ false → text ≡ payload_text v → FitsValue v → Prints (kind_of v) text w
prints text v w same plain is fits =
    subst (λ (x : ValueData). Prints (kind_of v) text x) same (record { no_message = apart (kind_of v) k.Message plain; text_is = is; fits = fits }, refl)

-- ---- bools and numbers
pub bool_takes : (text : List ℕ) (x : Bool) → bool_from text ≡ Some x → text ≡ bool_text x
bool_takes text x e = by_test (bytes_eq text (codes "true")) refl e where
  by_test : (t : Bool) → bytes_eq text (codes "true") ≡ t → cond t (Some true) (where_true (bytes_eq text (codes "false")) false) ≡ Some x → text ≡ bool_text x
  by_test true is e = (bytes_eq-Decides text (codes "true")).0 is ∙ ap bool_text (some_is true x e)
  by_test false is e =
      let t = cond_some (bytes_eq text (codes "false")) false x e in
      (bytes_eq-Decides text (codes "false")).0 t.0 ∙ ap bool_text t.1

fits_8 : (z : ℤ) → int_le (negsuc 127) z ≡ true → int_le z (pos 127) ≡ true → FitsSigned w8 z
fits_8 (pos x) over under = omega (arith, leb-true x 127 under)
fits_8 (negsuc x) over under = omega (arith, leb-true x 127 over)

fits_16 : (z : ℤ) → int_le (negsuc 32767) z ≡ true → int_le z (pos 32767) ≡ true → FitsSigned w16 z
fits_16 (pos x) over under = omega (arith, leb-true x 32767 under)
fits_16 (negsuc x) over under = omega (arith, leb-true x 32767 over)

fits_32 : (z : ℤ) → int_le (negsuc 2147483647) z ≡ true → int_le z (pos 2147483647) ≡ true → FitsSigned w32 z
fits_32 (pos x) over under = omega (arith, leb-true x 2147483647 under)
fits_32 (negsuc x) over under = omega (arith, leb-true x 2147483647 over)

fits_64 : (z : ℤ) → int_le (negsuc 9223372036854775807) z ≡ true → int_le z (pos 9223372036854775807) ≡ true → FitsSigned w64 z
fits_64 (pos x) over under = omega (arith, leb-true x 9223372036854775807 under)
fits_64 (negsuc x) over under = omega (arith, leb-true x 9223372036854775807 over)

pub int32_takes : (text : List ℕ) (z : ℤ) → int_within (negsuc 2147483647) (pos 2147483647) text ≡ Some z → (text ≡ signed_decimal z) × FitsSigned w32 z
int32_takes text z e =
    let is = (ints_read (negsuc 2147483647) (pos 2147483647) text z (omega arith) (omega arith)).found e in
    (is.0, fits_32 z is.1 is.2)

uint_takes : (high n : ℕ) (text : List ℕ) → high < 10 ^ 20 → uint_within high text ≡ Some n → (text ≡ decimal n) × (n ≤ high)
uint_takes high n text small e =
    let read = ap (λ (o : Option ℕ). o >>= (λ (m : ℕ). where_true (leb 0 m) m)) e ∙ ap (λ (b : Bool). where_true b n) (le-leb 0 n (omega arith)) in
    let is = number_takes 0 high text n small read in
    (is.0, is.2)

-- ---- addresses
target_takes : (text : List ℕ) (t : Target) → target_from text ≡ Some t → (text ≡ target_text t) × FitsTarget t
target_takes text t e = by_test (bytes_eq text (codes "p")) refl e where
  by_test : (b : Bool) → bytes_eq text (codes "p") ≡ b → cond b (Some target.Preferred) (option_map target.Token (uint_within 18446744073709551615 text)) ≡ Some t → (text ≡ target_text t) × FitsTarget t
  by_test true is e = subst (λ (x : Target). (text ≡ target_text x) × FitsTarget x) (some_is target.Preferred t e) ((bytes_eq-Decides text (codes "p")).0 is, tt)
  by_test false is e =
      let m = mapped_some target.Token (uint_within 18446744073709551615 text) t e in
      let n = uint_takes 18446744073709551615 m.0 text (omega arith) m.1 in
      subst (λ (x : Target). (text ≡ target_text x) × FitsTarget x) m.2 (n.0, omega (arith, n.1))

abbrev address : ℕ → Target → Address
address looper t = record { looper = looper; target = t }

address_is : (text : List ℕ) (looper : ℕ) (t : Target) (a : Address) → text ≡ decimal looper ++ 46 ∷ target_text t → looper ≤ 4294967295 → FitsTarget t → address looper t ≡ a → (text ≡ address_text a) × FitsAddress a
address_is text looper t a whole small fits same =
    let below : looper < 2 ^ 32 = omega (arith, small) in
    subst (λ (x : Address). (text ≡ address_text x) × FitsAddress x) same (whole, (below, fits))

address_takes : (text : List ℕ) (a : Address) → address_from text ≡ Some a → (text ≡ address_text a) × FitsAddress a
unfolding address_from
address_takes text a e =
    let s = bind_some (point_in text) (λ place. uint_within 4294967295 (take place text) >>= λ looper. target_from (drop (place + 1) text) >>= λ t. Some (address looper t)) a e in
    let l = bind_some (uint_within 4294967295 (take s.0 text)) (λ looper. target_from (drop (s.0 + 1) text) >>= λ t. Some (address looper t)) a s.2 in
    let t = bind_some (target_from (drop (s.0 + 1) text)) (λ t. Some (address l.0 t)) a l.2 in
    let looper = uint_takes 4294967295 l.0 (take s.0 text) (omega arith) l.1 in
    let whom = target_takes (drop (s.0 + 1) text) t.0 t.1 in
    let p = position-Some (λ b. eqb b 46) text s.0 0 s.1 in
    let rest : drop s.0 text ≡ 46 ∷ drop (s.0 + 1) text = drop_more text s.0 0 p.0 ∙ ap (λ (b : ℕ). b ∷ drop (s.0 + 1) text) (eqb-true (get_or text s.0 0) 46 p.1) in
    let whole : text ≡ decimal l.0 ++ 46 ∷ target_text t.0 =
    sym (take-append-drop s.0 text) ∙ ap (λ (r : List ℕ). take s.0 text ++ r) rest ∙ ap (λ (r : List ℕ). r ++ 46 ∷ drop (s.0 + 1) text) looper.0 ∙ ap (λ (r : List ℕ). decimal l.0 ++ 46 ∷ r) whom.0 in
    address_is text l.0 t.0 a whole looper.1 whom.1 (some_is (address l.0 t.0) a t.2)

-- ---- payloads that take no memory
small_takes : (kind : Kind) (text : List ℕ) (v : ValueData) → small_from kind text ≡ Some v → Prints kind text v
unfolding small_from
small_takes k.Bool text v e =
    let m = mapped_some bool_value (bool_from text) v e in
    prints text (bool_value m.0) v m.2 refl (bool_takes text m.0 m.1) tt
small_takes k.Int8 text v e =
    let m = mapped_some int8_value (int_within (negsuc 127) (pos 127) text) v e in
    let is = (ints_read (negsuc 127) (pos 127) text m.0 (omega arith) (omega arith)).found m.1 in
    prints text (int8_value m.0) v m.2 refl is.0 (fits_8 m.0 is.1 is.2)
small_takes k.Int16 text v e =
    let m = mapped_some int16_value (int_within (negsuc 32767) (pos 32767) text) v e in
    let is = (ints_read (negsuc 32767) (pos 32767) text m.0 (omega arith) (omega arith)).found m.1 in
    prints text (int16_value m.0) v m.2 refl is.0 (fits_16 m.0 is.1 is.2)
small_takes k.Int32 text v e =
    let m = mapped_some int32_value (int_within (negsuc 2147483647) (pos 2147483647) text) v e in
    let is = int32_takes text m.0 m.1 in
    prints text (int32_value m.0) v m.2 refl is.0 is.1
small_takes k.Int64 text v e =
    let m = mapped_some int64_value (int_within (negsuc 9223372036854775807) (pos 9223372036854775807) text) v e in
    let is = (ints_read (negsuc 9223372036854775807) (pos 9223372036854775807) text m.0 (omega arith) (omega arith)).found m.1 in
    prints text (int64_value m.0) v m.2 refl is.0 (fits_64 m.0 is.1 is.2)
small_takes k.UInt8 text v e =
    let m = mapped_some uint8_value (uint_within 255 text) v e in
    let is = uint_takes 255 m.0 text (omega arith) m.1 in
    prints text (uint8_value m.0) v m.2 refl is.0 (omega (arith, is.1))
small_takes k.UInt16 text v e =
    let m = mapped_some uint16_value (uint_within 65535 text) v e in
    let is = uint_takes 65535 m.0 text (omega arith) m.1 in
    prints text (uint16_value m.0) v m.2 refl is.0 (omega (arith, is.1))
small_takes k.UInt32 text v e =
    let m = mapped_some uint32_value (uint_within 4294967295 text) v e in
    let is = uint_takes 4294967295 m.0 text (omega arith) m.1 in
    prints text (uint32_value m.0) v m.2 refl is.0 (omega (arith, is.1))
small_takes k.UInt64 text v e =
    let m = mapped_some uint64_value (uint_within 18446744073709551615 text) v e in
    let is = uint_takes 18446744073709551615 m.0 text (omega arith) m.1 in
    prints text (uint64_value m.0) v m.2 refl is.0 (omega (arith, is.1))
small_takes k.Messenger text v e =
    let m = mapped_some messenger_value (address_from text) v e in
    let is = address_takes text m.0 m.1 in
    prints text (messenger_value m.0) v m.2 refl is.0 is.1
small_takes k.Text text v e = absurd cc
small_takes k.Message text v e = absurd cc
small_takes k.Raw text v e = absurd cc

-- a payload of this kind says this
abbrev SaysPlain : Kind → List ℕ → Got → Type 0
SaysPlain kind text g = (g.kind ≡ kind) × WritesPlain kind text g.value

small_said : (kind : Kind) (text : List ℕ) (g : Got) → option_map got (small_from kind text) ≡ Some g → SaysPlain kind text g
small_said kind text g e =
    let m = mapped_some got (small_from kind text) g e in
    let is = small_takes kind text m.0 m.1 in
    subst (λ (x : Got). SaysPlain kind text x) m.2 (is.1, is)

-- ---- texts

-- no byte of it is zero
none_zero : (bytes : List ℕ) → Positive bytes → Contains bytes 0 → ⊥
none_zero bytes positive found = omega (arith, All-get_or (λ b. 0 < b) bytes found.0 0 found.1 positive, found.2)

abbrev kept : List ℕ → Bool → Bool → Bool → Option Got
kept bytes utf8 short whole = cond utf8 (cond short (where_true whole (got (text_value bytes))) (Some (over k.Text))) None

abbrev SaysText : List ℕ → Got → Type 0
SaysText word g = (text : Limited (List ℕ)) × WritesText word text × (text_got text ≡ g)

by_tests : (word bytes : List ℕ) (g : Got) → word ≡ quoted bytes → Positive bytes → (utf8 short whole : Bool) → is_utf8 bytes ≡ utf8 → leb (length bytes) 1024 ≡ short
    → kept bytes utf8 short whole ≡ Some g → SaysText word g
by_tests word bytes g is positive true true true utf8 short e =
    (Within bytes, (is, ((leb-true (length bytes) 1024 short, none_zero bytes positive), IsUtf8-from_is_utf8 bytes utf8)), some_is (got (text_value bytes)) g e)
by_tests word bytes g is positive true true false utf8 short e = absurd cc
by_tests word bytes g is positive true false whole utf8 short e = (
  Over,
  record { bytes = bytes; text_is = is; no_zero = none_zero bytes positive; utf8 = IsUtf8-from_is_utf8 bytes utf8; long = leb-false (length bytes) 1024 short },
  some_is (over k.Text) g e,
)
by_tests word bytes g is positive false short whole utf8 long e = absurd cc

pub text_said : (word : List ℕ) (g : Got) → text_from word ≡ Some g → SaysText word g
unfolding text_from
text_said word g e =
    let s = bind_some (unquoted word) (λ bytes. text_of bytes) g e in
    let found = (texts_read word s.0).found s.1 in
    by_tests word s.0 g found.0 found.1 (is_utf8 s.0) (leb (length s.0) 1024) (not (list_any (λ b. eqb b 0) s.0)) refl refl s.2

plain_text : (word : List ℕ) (text : Limited (List ℕ)) → WritesText word text → SaysPlain k.Text word (text_got text)
plain_text word (Within bytes) is = (refl, (record { no_message = apart k.Text k.Message refl; text_is = is.0; fits = is.1 }, refl))
plain_text word Over is = (refl, is)

pub text_takes : (word : List ℕ) (g : Got) → text_from word ≡ Some g → SaysPlain k.Text word g
text_takes word g e = let s = text_said word g e in subst (λ (x : Got). SaysPlain k.Text word x) s.2 (plain_text word s.0 s.1)

pub long_again : (word : List ℕ) → IsLongText word → text_from word ≡ Some (over k.Text)
unfolding text_from
long_again word is =
    let read = (texts_read word is.bytes).all is.text_is (no_zeros is.bytes is.no_zero) in
    rw read (text_long is.bytes (is_utf8-from_IsUtf8 is.bytes is.utf8) is.long)

-- ---- raw bytes
raw_by_length : (text bytes : List ℕ) (g : Got) (short : Bool) → leb (length bytes) 1024 ≡ short → text ≡ flat_map hex_of bytes → All (λ b. b < 256) bytes
    → cond short (got (raw_value bytes)) (over k.Raw) ≡ g → SaysPlain k.Raw text g
raw_by_length text bytes g true short is small e =
    subst (λ (x : Got). SaysPlain k.Raw text x) e
    (refl, (record { no_message = apart k.Raw k.Message refl; text_is = is; fits = (leb-true (length bytes) 1024 short, byte_at bytes small) }, refl))
raw_by_length text bytes g false short is small e =
    subst (λ (x : Got). SaysPlain k.Raw text x) e (refl, record { bytes = bytes; text_is = is; small = small; long = leb-false (length bytes) 1024 short })

raw_takes : (text : List ℕ) (g : Got) → raw_value_from text ≡ Some g → SaysPlain k.Raw text g
unfolding raw_value_from
raw_takes text g e =
    let s = bind_some (raw_from None text) (λ bytes. Some (raw_within bytes)) g e in
    let found = (raws_read text s.0).found s.1 in
    raw_by_length text s.0 g (leb (length s.0) 1024) refl found.0 found.1 (some_is (raw_within s.0) g s.2)

long_raw : (text : List ℕ) → IsLongRaw text → raw_value_from text ≡ Some (over k.Raw)
unfolding raw_value_from
long_raw text is =
    let read : raw_from None text ≡ Some is.bytes = (raws_read text is.bytes).all is.text_is is.small in
    rw (read, lt-leb (length is.bytes) 1024 is.long) refl

-- ---- all of them, by kind

-- a value that is no message, and fits, is read from its payload
plain_again : (message : List ℕ → Option Got) (v : ValueData) → kind_of v ≢ k.Message → FitsValue v → payload_from message (kind_of v) (payload_text v) ≡ Some (got v)
plain_again message (bool_value x) plain fits = bool_again message x
plain_again message (int8_value z) plain fits = int8_again message z fits
plain_again message (int16_value z) plain fits = int16_again message z fits
plain_again message (int32_value z) plain fits = int32_again message z fits
plain_again message (int64_value z) plain fits = int64_again message z fits
plain_again message (uint8_value n) plain fits = uint8_again message n fits
plain_again message (uint16_value n) plain fits = uint16_again message n fits
plain_again message (uint32_value n) plain fits = uint32_again message n fits
plain_again message (uint64_value n) plain fits = uint64_again message n fits
plain_again message (text_value bytes) plain fits = text_again bytes fits
plain_again message (message_value what fs popped) plain fits = absurd (plain refl)
plain_again message (messenger_value a) plain fits = messenger_again message a fits
plain_again message (raw_value bytes) plain fits = raw_again bytes fits

abbrev pub got_as : Kind → Limited ValueData → Got
got_as kind value = record { kind = kind; value = value }

pub payload_written : (message : List ℕ → Option Got) (kind : Kind) (text : List ℕ) (value : Limited ValueData) → WritesPlain kind text value → payload_from message kind text ≡ Some (got_as kind value)
payload_written message kind text (Within v) is =
    subst (λ (x : Kind). payload_from message x text ≡ Some (got_as x (Within v))) is.1
    (subst (λ (t : List ℕ). payload_from message (kind_of v) t ≡ Some (got_as (kind_of v) (Within v))) (sym is.0.text_is) (plain_again message v is.0.no_message is.0.fits))
payload_written message k.Text text Over is = long_again text is
payload_written message k.Raw text Over is = long_raw text is
payload_written message k.Bool text Over is = absurd is
payload_written message k.Int8 text Over is = absurd is
payload_written message k.Int16 text Over is = absurd is
payload_written message k.Int32 text Over is = absurd is
payload_written message k.Int64 text Over is = absurd is
payload_written message k.UInt8 text Over is = absurd is
payload_written message k.UInt16 text Over is = absurd is
payload_written message k.UInt32 text Over is = absurd is
payload_written message k.UInt64 text Over is = absurd is
payload_written message k.Message text Over is = absurd is
payload_written message k.Messenger text Over is = absurd is

pub payload_said : (message : List ℕ → Option Got) (kind : Kind) (text : List ℕ) (g : Got) → is_same_kind kind k.Message ≡ false → payload_from message kind text ≡ Some g → SaysPlain kind text g
payload_said message k.Bool text g plain e = small_said k.Bool text g e
payload_said message k.Int8 text g plain e = small_said k.Int8 text g e
payload_said message k.Int16 text g plain e = small_said k.Int16 text g e
payload_said message k.Int32 text g plain e = small_said k.Int32 text g e
payload_said message k.Int64 text g plain e = small_said k.Int64 text g e
payload_said message k.UInt8 text g plain e = small_said k.UInt8 text g e
payload_said message k.UInt16 text g plain e = small_said k.UInt16 text g e
payload_said message k.UInt32 text g plain e = small_said k.UInt32 text g e
payload_said message k.UInt64 text g plain e = small_said k.UInt64 text g e
payload_said message k.Messenger text g plain e = small_said k.Messenger text g e
payload_said message k.Text text g plain e = text_takes text g e
payload_said message k.Raw text g plain e = raw_takes text g e
payload_said message k.Message text g plain e = absurd (both_ways true plain refl)
