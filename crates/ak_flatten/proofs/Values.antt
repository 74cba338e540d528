-- The bytes of one value: what they are read as is spelled so, and a value's bytes are read as the value.
use Rattle.std.proofs.Common.{◌≡◌, ℕ, ◌+◌, ◌^◌, ◌<◌, ◌≤◌, Bool, true, false, cond, not, ◌&&◌, ◌||◌, eqb, leb, ℤ, List, [], ◌∷◌, ◌++◌, length, get_or, Contains, Result, Ok, Err, refl, sym, ap, subst, ◌∙◌, append_assoc, arith, inl, inr, Fits}
use Rattle.std.specs.Prelude.{FitsSigned, IsUtf8}
use Rattle.std.specs.Int.{Width, w8, w16, w32, w64, byte_len, from_be_bytes, to_be_bytes, cast_signed, cast_unsigned}
use Rattle.std.specs.List.{list_any}
use Rattle.std.specs.Str.{is_utf8}
use Rattle.std.proofs.Math.Facts.{sfits_to_z, Fits-of_z, of_z-to_z}
use Rattle.std.proofs.lemmas.Bool.{leb-true, le-leb, eqb-true, and_parts, and_from, and_left, and_right, not_from_true, false_from_ne_true, true_from_ne_false, or_cases, cond_both, cases_eq, not-true, not_from_false}
use Rattle.std.proofs.lemmas.Int.{to_z-of_z}
use Rattle.std.proofs.lemmas.List.{append-nil, length-append}
use Rattle.std.proofs.lemmas.Str.{IsUtf8-from_is_utf8, is_utf8-from_IsUtf8}
use Rattle.ak_base.proofs.Surface.{no_zero, zero_in}
use Rattle.ak_base.specs.Text.{IsText}
use Rattle.ak_message.specs.declared.address.Address.{Address}
use Rattle.ak_message.specs.declared.address.Target.{Target}
use Rattle.ak_message.specs.declared.address.Target.TheVariants as target
use Rattle.ak_message.specs.declared.kind.Kind.{Kind}
use Rattle.ak_message.specs.declared.kind.Kind.TheVariants as k
use Rattle.ak_message.specs.Message.{ValueData, bool_value, int8_value, int16_value, int32_value, int64_value, uint8_value, uint16_value, uint32_value, uint64_value, text_value, message_value, messenger_value, raw_value, NestedFields, no_fields, then_field, NestedValues, no_values, then_value, MessageData, kind_of, depth_of, depth_of_value, nested_values, listed_values, nested_fields, listed_fields, message_of_nested, value_of_message}
use Rattle.ak_message.specs.MessageCode.{message_at-value}
use Rattle.ak_message.specs.Whole.{FitsAddress, FitsTarget, FitsValue, FitsFields, IsWhole}
use Rattle.ak_message.specs.Fields.{IsMessage}
use Rattle.ak_flatten.specs.declared.fault.FlatFault.{FlatFault}
use Rattle.ak_flatten.specs.declared.fault.FlatKind.TheVariants as fault
use Rattle.ak_flatten.specs.Format.{is_length}
use Rattle.ak_flatten.specs.Laws.{AreBytes}
use Rattle.ak_message.specs.Popped.{IsUnpoppedValue, AreUnpoppedFields, IsUnpopped}
use Rattle.ak_flatten.specs.Reading.{Left, ◌>>=◌, where_true, number_at, is_text, bool_from, text_from, target_from, is_target, address_from, value_from}
use Rattle.ak_flatten.specs.Spelling.{bool_bytes, target_bytes, address_bytes, value_bytes, spelling}
use Rattle.ak_flatten.proofs.Parts.{bind_ok, test_ok, ok_is, at, Takes, Takes-then, IsWide, wide16, wide32, wide64, number_takes, number_again, byte_takes, byte_again, one_byte}

nothing_left : (bytes front rest : List ℕ) (n : ℕ) → bytes ≡ front ++ rest → length bytes ≡ n → length front ≡ n → rest ≡ []
nothing_left bytes front [] n parts whole len = refl
nothing_left bytes front (b ∷ rest) n parts whole len = absurd (omega (arith, length-append front (b ∷ rest), ap length parts))

all_of : (left rest : Left) (text : List ℕ) (n : ℕ) → Takes left text rest → length left.bytes ≡ n → length text ≡ n → text ≡ left.bytes
all_of left rest text n taken whole len =
    let none = nothing_left left.bytes text rest.bytes n taken.parts whole len in
    sym (taken.parts ∙ ap (λ (r : List ℕ). text ++ r) none ∙ append-nil text)

-- ---- numbers, of bytes that are as many as the number has
unsigned_back : (w : Width) (limit : ℕ) → IsWide w limit → (left : Left) (x : ℕ × Left) → AreBytes left.bytes → length left.bytes ≡ byte_len w → number_at w left ≡ Ok x → (to_be_bytes w x.0 ≡ left.bytes) × (x.0 < limit)
unsigned_back w limit wide left x fits len e =
    let t = number_takes w limit wide left x fits e in
    (all_of left x.1 (to_be_bytes w x.0) (byte_len w) t.0 len (wide.len x.0), t.1)

signed_back : (w : Width) (limit : ℕ) → IsWide w limit → (left : Left) (x : ℕ × Left) → AreBytes left.bytes → length left.bytes ≡ byte_len w → number_at w left ≡ Ok x → (to_be_bytes w (cast_unsigned w (cast_signed w x.0)) ≡ left.bytes) × FitsSigned w (cast_signed w x.0)
signed_back w limit wide left x fits len e =
    let u = unsigned_back w limit wide left x fits len e in
    let below = wide.fit x.0 u.1 in
    (ap (to_be_bytes w) (of_z-to_z below) ∙ u.0, sfits_to_z below)

byte_back : (left : Left) (x : ℕ × Left) → AreBytes left.bytes → length left.bytes ≡ 1 → number_at w8 left ≡ Ok x → (x.0 ∷ [] ≡ left.bytes) × (x.0 < 256)
byte_back left x fits len e =
    let t = byte_takes left x fits e in (all_of left x.1 (x.0 ∷ []) 1 t.0 len refl, t.1)

unsigned_again : (w : Width) (limit : ℕ) → IsWide w limit → (p n : ℕ) → n < limit → (q : ℕ) × (number_at w (at p (to_be_bytes w n)) ≡ Ok (n, at q []))
unsigned_again w limit wide p n lt =
    let a = number_again w limit wide p n [] lt in
    (a.0, ap (λ (t : List ℕ). number_at w (at p t)) (sym (append-nil (to_be_bytes w n))) ∙ a.1)

signed_again : (w : Width) (limit : ℕ) → IsWide w limit → (p : ℕ) (z : ℤ) → FitsSigned w z → (n : ℕ) × (q : ℕ) × (number_at w (at p (to_be_bytes w (cast_unsigned w z))) ≡ Ok (n, at q [])) × (cast_signed w n ≡ z)
signed_again w limit wide p z fits =
    let a = unsigned_again w limit wide p (cast_unsigned w z) (wide.small _ (Fits-of_z fits)) in
    (cast_unsigned w z, a.0, a.1, to_z-of_z w z fits)

-- ---- texts
pub text_is : (bytes : List ℕ) → IsText bytes → is_text bytes ≡ true
text_is bytes h = and_from _ _ (is_utf8-from_IsUtf8 bytes h.1) (not_from_false _ (zero_in bytes h.0.1))

pub not_utf8_text : (bytes : List ℕ) → (IsUtf8 bytes → ⊥) → is_text bytes ≡ false
not_utf8_text bytes none = and_left _ _ (false_from_ne_true (is_utf8 bytes) (λ e. none (IsUtf8-from_is_utf8 bytes e)))

pub zero_text : (bytes : List ℕ) → Contains bytes 0 → is_text bytes ≡ false
zero_text bytes some =
    and_right _ _ (not_from_true _ (true_from_ne_false (list_any (λ b. eqb b 0) bytes) (λ e. no_zero bytes e some)))

-- ---- addresses
target_takes : (kind token : ℕ) → is_target kind token ≡ true → target_bytes (target_from kind token) ≡ kind ∷ to_be_bytes w64 token
target_takes kind token e =
    elim (or_cases (eqb kind 1) (eqb kind 0 && eqb token 0) e) [
      | inl one ↦ by_one kind (eqb-true kind 1 one)
      | inr both ↦ let b = and_parts (eqb kind 0) (eqb token 0) both in by_zero kind token (eqb-true kind 0 b.0) (eqb-true token 0 b.1)
    ] where
      by_one : (kind : ℕ) → kind ≡ 1 → target_bytes (target_from kind token) ≡ kind ∷ to_be_bytes w64 token
      by_one kind is = subst (λ (n : ℕ). target_bytes (target_from n token) ≡ n ∷ to_be_bytes w64 token) (sym is) refl

      by_zero : (kind token : ℕ) → kind ≡ 0 → token ≡ 0 → target_bytes (target_from kind token) ≡ kind ∷ to_be_bytes w64 token
      by_zero kind token is none = rw (is, none) refl

target_fits : (kind token : ℕ) → token < 2 ^ 64 → FitsTarget (target_from kind token)
target_fits kind token lt = cond_both (eqb kind 0) target.Preferred (target.Token token) FitsTarget (λ _. tt) (λ _. lt)

address_parts : (looper kind token : ℕ) (left rest : Left) → left.bytes ≡ (to_be_bytes w32 looper ++ kind ∷ to_be_bytes w64 token) ++ rest.bytes → length left.bytes ≡ 13 → is_target kind token ≡ true → looper < 2 ^ 32 → token < 2 ^ 64 → (address_bytes (record { looper = looper; target = target_from kind token }) ≡ left.bytes) × FitsAddress (record { looper = looper; target = target_from kind token })
address_parts looper kind token left rest parts len target looper_fits token_fits =
    let front : List ℕ = to_be_bytes w32 looper ++ kind ∷ to_be_bytes w64 token in
    let none : rest.bytes ≡ [] = nothing_left left.bytes front rest.bytes 13 parts len refl in
    let all : left.bytes ≡ front = parts ∙ ap (λ (r : List ℕ). front ++ r) none ∙ append-nil front in
    (ap (λ (t : List ℕ). to_be_bytes w32 looper ++ t) (target_takes kind token target) ∙ sym all, (looper_fits, target_fits kind token token_fits))

pub address_takes : (left : Left) (a : Address) → AreBytes left.bytes → length left.bytes ≡ 13 → address_from left ≡ Ok a → (address_bytes a ≡ left.bytes) × FitsAddress a
unfolding address_from
address_takes left a fits len e =
    let x = bind_ok (number_at w32 left) (λ looper. number_at w8 looper.1 >>= λ kind. number_at w64 kind.1 >>= λ token. where_true (is_target kind.0 token.0) fault.BadValue left (record { looper = looper.0; target = target_from kind.0 token.0 })) a e in
    let y = bind_ok (number_at w8 x.0.1) (λ kind. number_at w64 kind.1 >>= λ token. where_true (is_target kind.0 token.0) fault.BadValue left (record { looper = x.0.0; target = target_from kind.0 token.0 })) a x.2 in
    let z = bind_ok (number_at w64 y.0.1) (λ token. where_true (is_target y.0.0 token.0) fault.BadValue left (record { looper = x.0.0; target = target_from y.0.0 token.0 })) a y.2 in
    let made : Address = record { looper = x.0.0; target = target_from y.0.0 z.0.0 } in
    let m = test_ok (is_target y.0.0 z.0.0) fault.BadValue left made a z.2 in
    let tx = number_takes w32 (2 ^ 32) wide32 left x.0 fits x.1 in
    let ty = byte_takes x.0.1 y.0 tx.0.fits y.1 in
    let tz = number_takes w64 (2 ^ 64) wide64 y.0.1 z.0 ty.0.fits z.1 in
    let yz = Takes-then x.0.1 (y.0.0 ∷ []) y.0.1 (to_be_bytes w64 z.0.0) z.0.1 ty.0 tz.0 in
    let xz = Takes-then left (to_be_bytes w32 x.0.0) x.0.1 (y.0.0 ∷ to_be_bytes w64 z.0.0) z.0.1 tx.0 yz in
    subst (λ (b : Address). (address_bytes b ≡ left.bytes) × FitsAddress b) {x = made} m.1 (address_parts x.0.0 y.0.0 z.0.0 left z.0.1 xz.parts len m.0 tx.1 tz.1)

pub address_again : (p : ℕ) (a : Address) → FitsAddress a → address_from (at p (address_bytes a)) ≡ Ok a
unfolding address_from
address_again p a fits = by a.target fits.1 where
  by : (t : Target) → FitsTarget t → address_from (at p (to_be_bytes w32 a.looper ++ target_bytes t)) ≡ Ok (record { looper = a.looper; target = t })
  by target.Preferred h =
      let x = number_again w32 (2 ^ 32) wide32 p a.looper (0 ∷ to_be_bytes w64 0) fits.0 in
      let y = byte_again x.0 0 (to_be_bytes w64 0) in
      let z = number_again w64 (2 ^ 64) wide64 y.0 0 [] (omega arith) in
      rw (x.1, y.1, z.1) refl
  by (target.Token n) h =
      let x = number_again w32 (2 ^ 32) wide32 p a.looper (1 ∷ to_be_bytes w64 n) fits.0 in
      let y = byte_again x.0 1 (to_be_bytes w64 n) in
      let whole : to_be_bytes w64 n ++ [] ≡ to_be_bytes w64 n = append-nil (to_be_bytes w64 n) in
      let z = number_again w64 (2 ^ 64) wide64 y.0 n [] h in
      rw (x.1, y.1, z.1) refl

-- ---- a message as a value
mutual
  pub nested_fields-listed : (fs : NestedFields) → nested_fields (listed_fields fs) ≡ fs
  nested_fields-listed no_fields = refl
  nested_fields-listed (then_field name kind vs fs) = λ i. then_field name kind (nested_values-listed vs i) (nested_fields-listed fs i)

  pub nested_values-listed : (vs : NestedValues) → nested_values (listed_values vs) ≡ vs
  nested_values-listed no_values = refl
  nested_values-listed (then_value v vs) = ap (λ (t : NestedValues). then_value v t) (nested_values-listed vs)

-- what is true of a value that was read where messages may stand so many deep
pub record IsReadValue (levels : ℕ) (kind : Kind) (v : ValueData) : Type 0 where
  pub same : kind_of v ≡ kind
  pub fits : FitsValue v
  pub unpopped : IsUnpoppedValue v
  pub shallow : depth_of_value v ≤ levels

pub record IsReadMessage (levels : ℕ) (m : MessageData) : Type 0 where
  pub whole : IsWhole m
  pub unpopped : IsUnpopped m
  pub shallow : depth_of m ≤ levels

-- what a reader of messages gives is spelled by all that it was given, and the other way round
abbrev pub MessageTakes : (Left → Result MessageData FlatFault) → ℕ → Type 0
MessageTakes message levels =
    (left : Left) (m : MessageData) → AreBytes left.bytes → message left ≡ Ok m → (spelling m ≡ left.bytes) × IsReadMessage levels m

abbrev pub MessageAgain : (Left → Result MessageData FlatFault) → ℕ → Type 0
MessageAgain message levels =
    (place : ℕ) (m : MessageData) → IsReadMessage levels m → length (spelling m) < 2 ^ 16 → message (at place (spelling m)) ≡ Ok m

bool_back : (n : ℕ) → leb n 1 ≡ true → bool_bytes (eqb n 1) ≡ n ∷ []
bool_back n e =
    let low = leb-true n 1 e in
    elim (cases_eq n 1) [
      | inl is ↦ subst (λ (k : ℕ). bool_bytes (eqb k 1) ≡ k ∷ []) (sym is) refl
      | inr not_one ↦ zero_case (omega arith)
    ] where
      zero_case : n ≡ 0 → bool_bytes (eqb n 1) ≡ n ∷ []
      zero_case is = subst (λ (k : ℕ). bool_bytes (eqb k 1) ≡ k ∷ []) (sym is) refl

bool_takes : (left : Left) (b : Bool) → AreBytes left.bytes → length left.bytes ≡ 1 → bool_from left ≡ Ok b → bool_bytes b ≡ left.bytes
unfolding bool_from
bool_takes left b fits len e =
    let a = bind_ok (number_at w8 left) (λ n. where_true (leb n.0 1) fault.BadValue left (eqb n.0 1)) b e in
    let s = byte_back left a.0 fits len a.1 in
    let t = test_ok (leb a.0.0 1) fault.BadValue left (eqb a.0.0 1) b a.2 in
    ap bool_bytes (sym t.1) ∙ bool_back a.0.0 t.0 ∙ s.0

bool_again : (p : ℕ) (b : Bool) → bool_from (at p (bool_bytes b)) ≡ Ok b
unfolding bool_from
bool_again p false = let a = byte_again p 0 [] in rw a.1 refl
bool_again p true = let a = byte_again p 1 [] in rw a.1 refl

-- what was made is what came
came : (levels : ℕ) (kind : Kind) (left : Left) (made v : ValueData) → made ≡ v → (value_bytes made ≡ left.bytes) × IsReadValue levels kind made → (value_bytes v ≡ left.bytes) × IsReadValue levels kind v
came levels kind left made v is h = subst (λ (x : ValueData). (value_bytes x ≡ left.bytes) × IsReadValue levels kind x) {x = made} is h

module _ (message : Left → Result MessageData FlatFault) (levels : ℕ) (taken : MessageTakes message levels) where
  pub value_takes : (kind : Kind) (left : Left) (v : ValueData) → AreBytes left.bytes → is_length kind (length left.bytes) ≡ true → value_from message kind left ≡ Ok v → (value_bytes v ≡ left.bytes) × IsReadValue levels kind v
  unfolding value_from
  value_takes k.Bool left v fits len e =
      let a = bind_ok (bool_from left) (λ b. Ok (bool_value b)) v e in
      let t = bool_takes left a.0 fits (eqb-true _ _ len) a.1 in
      came levels k.Bool left (bool_value a.0) v (ok_is _ _ a.2) (t, record { same = refl; fits = tt; unpopped = tt; shallow = omega arith })
  value_takes k.Int8 left v fits len e =
      let b = bind_ok (number_at w8 left) (λ n. Ok (int8_value (cast_signed w8 n.0))) v e in
      let s = byte_back left b.0 fits (eqb-true _ _ len) b.1 in
      let fit : Fits w8 b.0.0 = record { fits = s.1 } in
      came levels k.Int8 left (int8_value (cast_signed w8 b.0.0)) v (ok_is _ _ b.2) (ap (λ (n : ℕ). n ∷ []) (of_z-to_z fit) ∙ s.0, record { same = refl; fits = sfits_to_z fit; unpopped = tt; shallow = omega arith })
  value_takes k.Int16 left v fits len e =
      let b = bind_ok (number_at w16 left) (λ n. Ok (int16_value (cast_signed w16 n.0))) v e in
      let s = signed_back w16 (2 ^ 16) wide16 left b.0 fits (eqb-true _ _ len) b.1 in
      came levels k.Int16 left (int16_value (cast_signed w16 b.0.0)) v (ok_is _ _ b.2) (s.0, record { same = refl; fits = s.1; unpopped = tt; shallow = omega arith })
  value_takes k.Int32 left v fits len e =
      let b = bind_ok (number_at w32 left) (λ n. Ok (int32_value (cast_signed w32 n.0))) v e in
      let s = signed_back w32 (2 ^ 32) wide32 left b.0 fits (eqb-true _ _ len) b.1 in
      came levels k.Int32 left (int32_value (cast_signed w32 b.0.0)) v (ok_is _ _ b.2) (s.0, record { same = refl; fits = s.1; unpopped = tt; shallow = omega arith })
  value_takes k.Int64 left v fits len e =
      let b = bind_ok (number_at w64 left) (λ n. Ok (int64_value (cast_signed w64 n.0))) v e in
      let s = signed_back w64 (2 ^ 64) wide64 left b.0 fits (eqb-true _ _ len) b.1 in
      came levels k.Int64 left (int64_value (cast_signed w64 b.0.0)) v (ok_is _ _ b.2) (s.0, record { same = refl; fits = s.1; unpopped = tt; shallow = omega arith })
  value_takes k.UInt8 left v fits len e =
      let b = bind_ok (number_at w8 left) (λ n. Ok (uint8_value n.0)) v e in
      let s = byte_back left b.0 fits (eqb-true _ _ len) b.1 in
      came levels k.UInt8 left (uint8_value b.0.0) v (ok_is _ _ b.2) (s.0, record { same = refl; fits = s.1; unpopped = tt; shallow = omega arith })
  value_takes k.UInt16 left v fits len e =
      let b = bind_ok (number_at w16 left) (λ n. Ok (uint16_value n.0)) v e in
      let s = unsigned_back w16 (2 ^ 16) wide16 left b.0 fits (eqb-true _ _ len) b.1 in
      came levels k.UInt16 left (uint16_value b.0.0) v (ok_is _ _ b.2) (s.0, record { same = refl; fits = s.1; unpopped = tt; shallow = omega arith })
  value_takes k.UInt32 left v fits len e =
      let b = bind_ok (number_at w32 left) (λ n. Ok (uint32_value n.0)) v e in
      let s = unsigned_back w32 (2 ^ 32) wide32 left b.0 fits (eqb-true _ _ len) b.1 in
      came levels k.UInt32 left (uint32_value b.0.0) v (ok_is _ _ b.2) (s.0, record { same = refl; fits = s.1; unpopped = tt; shallow = omega arith })
  value_takes k.UInt64 left v fits len e =
      let b = bind_ok (number_at w64 left) (λ n. Ok (uint64_value n.0)) v e in
      let s = unsigned_back w64 (2 ^ 64) wide64 left b.0 fits (eqb-true _ _ len) b.1 in
      came levels k.UInt64 left (uint64_value b.0.0) v (ok_is _ _ b.2) (s.0, record { same = refl; fits = s.1; unpopped = tt; shallow = omega arith })
  value_takes k.Text left v fits len e =
      let a = bind_ok (text_from left) (λ t. Ok (text_value t)) v e in
      let t = test_ok (is_text left.bytes) fault.BadValue left left.bytes a.0 a.1 in
      let b = and_parts (is_utf8 left.bytes) (not (list_any (λ b. eqb b 0) left.bytes)) t.0 in
      came levels k.Text left (text_value left.bytes) v (ap (λ (x : List ℕ). text_value x) t.1 ∙ ok_is _ _ a.2) (refl, record { same = refl; fits = ((leb-true _ _ len, no_zero left.bytes (not-true _ b.1)), IsUtf8-from_is_utf8 left.bytes b.0); unpopped = tt; shallow = omega arith })
  value_takes k.Message left v fits len e =
      let b = bind_ok (message left) (λ m. Ok (value_of_message m)) v e in
      let t = taken left b.0 fits b.1 in
      let message_fits : IsMessage (message_of_nested b.0.what (nested_fields b.0.fields) b.0.popped) = subst IsMessage (sym (message_at-value b.0)) t.1.whole.0 in
      came levels k.Message left (value_of_message b.0) v (ok_is _ _ b.2) (t.0, record { same = refl; fits = (message_fits, t.1.whole.1); unpopped = t.1.unpopped; shallow = t.1.shallow })
  value_takes k.Messenger left v fits len e =
      let b = bind_ok (address_from left) (λ a. Ok (messenger_value a)) v e in
      let t = address_takes left b.0 fits (eqb-true _ _ len) b.1 in
      came levels k.Messenger left (messenger_value b.0) v (ok_is _ _ b.2) (t.0, record { same = refl; fits = t.1; unpopped = tt; shallow = omega arith })
  value_takes k.Raw left v fits len e =
      came levels k.Raw left (raw_value left.bytes) v (ok_is _ _ e) (refl, record { same = refl; fits = (leb-true _ _ len, fits); unpopped = tt; shallow = omega arith })

-- the bytes of a value are as many as its kind allows
pub value-is_length : (v : ValueData) → FitsValue v → is_length (kind_of v) (length (value_bytes v)) ≡ true
value-is_length (bool_value false) fits = refl
value-is_length (bool_value true) fits = refl
value-is_length (int8_value z) fits = refl
value-is_length (int16_value z) fits = refl
value-is_length (int32_value z) fits = refl
value-is_length (int64_value z) fits = refl
value-is_length (uint8_value n) fits = refl
value-is_length (uint16_value n) fits = refl
value-is_length (uint32_value n) fits = refl
value-is_length (uint64_value n) fits = refl
value-is_length (text_value bytes) fits = le-leb _ _ fits.0.0
value-is_length (message_value what fs popped) fits = refl
value-is_length (messenger_value a) fits = target_len a.target where
  target_len : (t : Target) → eqb (length (to_be_bytes w32 a.looper ++ target_bytes t)) 13 ≡ true
  target_len target.Preferred = refl
  target_len (target.Token n) = refl
value-is_length (raw_value bytes) fits = le-leb _ _ fits.0

module _ (message : Left → Result MessageData FlatFault) (levels : ℕ) (again : MessageAgain message levels) where
  pub value_again : (place : ℕ) (v : ValueData) → FitsValue v → IsUnpoppedValue v → depth_of_value v ≤ levels → length (value_bytes v) < 2 ^ 16 → value_from message (kind_of v) (at place (value_bytes v)) ≡ Ok v
  unfolding value_from
  value_again place (bool_value b) fits unpopped shallow short = rw (bool_again place b) refl
  value_again place (int8_value z) fits unpopped shallow short =
      let a = byte_again place (cast_unsigned w8 z) [] in rw a.1 (ap (λ (x : ℤ). Ok (int8_value x)) (to_z-of_z w8 z fits))
  value_again place (int16_value z) fits unpopped shallow short =
      let a = signed_again w16 (2 ^ 16) wide16 place z fits in rw a.2 (ap (λ (x : ℤ). Ok (int16_value x)) a.3)
  value_again place (int32_value z) fits unpopped shallow short =
      let a = signed_again w32 (2 ^ 32) wide32 place z fits in rw a.2 (ap (λ (x : ℤ). Ok (int32_value x)) a.3)
  value_again place (int64_value z) fits unpopped shallow short =
      let a = signed_again w64 (2 ^ 64) wide64 place z fits in rw a.2 (ap (λ (x : ℤ). Ok (int64_value x)) a.3)
  value_again place (uint8_value n) fits unpopped shallow short = let a = byte_again place n [] in rw a.1 refl
  value_again place (uint16_value n) fits unpopped shallow short =
      let a = unsigned_again w16 (2 ^ 16) wide16 place n fits in rw a.1 refl
  value_again place (uint32_value n) fits unpopped shallow short =
      let a = unsigned_again w32 (2 ^ 32) wide32 place n fits in rw a.1 refl
  value_again place (uint64_value n) fits unpopped shallow short =
      let a = unsigned_again w64 (2 ^ 64) wide64 place n fits in rw a.1 refl
  value_again place (text_value bytes) fits unpopped shallow short =
      rw (text_is bytes fits) refl
  value_again place (message_value what fs popped) fits unpopped shallow short =
      let m : MessageData = message_of_nested what fs popped in
      let same : value_of_message m ≡ message_value what fs popped = ap (λ (x : NestedFields). message_value what x popped) (nested_fields-listed fs) in
      let read : IsReadMessage levels m =
      record {
        whole = (fits.0, subst FitsFields (sym (nested_fields-listed fs)) fits.1);
        unpopped = (unpopped.0, subst AreUnpoppedFields (sym (nested_fields-listed fs)) unpopped.1);
        shallow = subst (λ (x : ValueData). depth_of_value x ≤ levels) (sym same) shallow;
      }
      in
      let e = again place m read (subst (λ (x : ValueData). length (value_bytes x) < 2 ^ 16) (sym same) short) in
      let at_value : message (at place (value_bytes (message_value what fs popped))) ≡ Ok m = subst (λ (x : ValueData). message (at place (value_bytes x)) ≡ Ok m) same e in
      rw at_value (ap (λ (x : ValueData). Ok x) same)
  value_again place (messenger_value a) fits unpopped shallow short = rw (address_again place a fits) refl
  value_again place (raw_value bytes) fits unpopped shallow short = refl
