-- Reading a flat text from left to right, with the first fault that is met.
use Rattle.std.specs.Prelude.{ℕ, zero, suc, ◌+◌, Bool, not, ◌&&◌, ◌||◌, ◌==◌, nat_lt, nat_le, if◌then◌else◌, List, [], ◌∷◌, ◌++◌, length, take, drop, Option, Some, None, is_some, Result, Ok, Err}
use Rattle.std.specs.Int.{Width, w8, w16, w32, w64, byte_len, from_be_bytes, cast_signed}
use Rattle.std.specs.List.{list_any}
use Rattle.std.specs.Str.{bytes_eq, is_utf8}
use Rattle.ak_base.specs.Word.{is_word}
use Rattle.ak_base.specs.Limits.{word_limit}
use Rattle.ak_message.specs.declared.address.Address.{Address}
use Rattle.ak_message.specs.declared.address.Target.{Target}
use Rattle.ak_message.specs.declared.address.Target.TheVariants as target
use Rattle.ak_message.specs.declared.kind.Kind.{Kind}
use Rattle.ak_message.specs.declared.kind.Kind.TheVariants as k
use Rattle.ak_message.specs.Kind.{kind_of_code}
use Rattle.ak_message.specs.Message.{ValueData, bool_value, int8_value, int16_value, int32_value, int64_value, uint8_value, uint16_value, uint32_value, uint64_value, text_value, message_value, messenger_value, raw_value, FieldData, MessageData, value_of_message}
use Rattle.ak_message.specs.Fields.{field_named}
use Rattle.ak_message.specs.Limits.{field_limit, depth_limit}
use Rattle.ak_flatten.specs.declared.fault.FlatFault.{FlatFault}
use Rattle.ak_flatten.specs.declared.fault.FlatKind.{FlatKind}
use Rattle.ak_flatten.specs.declared.fault.FlatKind.TheVariants as fault
use Rattle.ak_flatten.specs.Format.{magic, is_length}
use Rattle.ak_flatten.specs.Limits.{flat_limit}

-- what is still to be read of the bytes, or of the value that is read, and where that begins
pub record Left : Type 0 where
  pub place : ℕ
  pub bytes : List ℕ

-- a part that was read and what is left behind it, or the first fault
abbrev pub Read : Type 0 → Type 0
Read X = Result (X × Left) FlatFault

abbrev pub fault_at : {X : Type 0} → FlatKind → Left → Result X FlatFault
fault_at kind left = Err (record { place = left.place; kind = kind })

infixl 10 ◌>>=◌
abbrev pub ◌>>=◌ : {A B : Type 0} → Result A FlatFault → (A → Result B FlatFault) → Result B FlatFault
(Ok x) >>= f = f x
(Err e) >>= f = Err e

-- x, or this fault where the test failed
abbrev pub where_true : {X : Type 0} → Bool → FlatKind → Left → X → Result X FlatFault
where_true test kind left x = if test then Ok x else fault_at kind left

-- so many bytes
unfoldable pub bytes_at : ℕ → Left → Read (List ℕ)
bytes_at n left =
    where_true (nat_le n (length left.bytes)) fault.Truncated left
    (take n left.bytes, record { place = left.place + n; bytes = drop n left.bytes })

unfoldable pub number_at : Width → Left → Read ℕ
number_at width left = do
  bytes ← bytes_at (byte_len width) left
  Ok (from_be_bytes width bytes.0, bytes.1)

unfoldable pub magic_at : Left → Result Left FlatFault
magic_at left = do
  bytes ← bytes_at 4 left
  where_true (bytes_eq bytes.0 magic) fault.Magic left bytes.1

unfoldable pub field_count_at : Left → Read ℕ
field_count_at left = do
  count ← number_at w32 left
  where_true (nat_le count.0 field_limit) fault.FieldCount left count

abbrev pub kind_or_fault : Option Kind → Left → Left → Read Kind
kind_or_fault None left _ = fault_at fault.BadType left
kind_or_fault (Some kind) _ rest = Ok (kind, rest)

unfoldable pub kind_at : Left → Read Kind
kind_at left = do
  code ← number_at w32 left
  kind_or_fault (kind_of_code code.0) left code.1

unfoldable pub name_len_at : Left → Read ℕ
name_len_at left = do
  len ← number_at w8 left
  where_true (nat_le 1 len.0 && nat_le len.0 word_limit) fault.BadName left len

-- a name that no earlier field has
unfoldable pub name_at : List FieldData → Left → Read (List ℕ)
name_at earlier left = do
  len ← name_len_at left
  name ← bytes_at len.0 len.1
  word ← where_true (is_word name.0) fault.BadName len.1 name
  where_true (not (is_some (field_named earlier word.0))) fault.RepeatedName len.1 word

unfoldable pub value_count_at : Left → Read ℕ
value_count_at left = do
  count ← number_at w8 left
  where_true (nat_le 1 count.0) fault.NoValues left count

-- ---- the bytes of one value
abbrev pub is_text : List ℕ → Bool
is_text bytes = is_utf8 bytes && not (list_any (λ b. b == 0) bytes)

-- the target that a number and a token write: 0 and 0, or 1 and any token
abbrev pub target_from : ℕ → ℕ → Target
target_from kind token = if kind == 0 then target.Preferred else target.Token token

abbrev pub is_target : ℕ → ℕ → Bool
is_target kind token = kind == 1 || (kind == 0 && token == 0)

unfoldable pub address_from : Left → Result Address FlatFault
address_from left = do
  looper ← number_at w32 left
  kind ← number_at w8 looper.1
  token ← number_at w64 kind.1
  where_true (is_target kind.0 token.0) fault.BadValue left (record { looper = looper.0; target = target_from kind.0 token.0 })

unfoldable pub bool_from : Left → Result Bool FlatFault
bool_from left = do
  n ← number_at w8 left
  where_true (nat_le n.0 1) fault.BadValue left (n.0 == 1)

abbrev pub text_from : Left → Result (List ℕ) FlatFault
text_from left = where_true (is_text left.bytes) fault.BadValue left left.bytes

-- the value that all that is left writes; a message in it is read by `message`
unfoldable pub value_from : (Left → Result MessageData FlatFault) → Kind → Left → Result ValueData FlatFault
value_from message k.Bool left = bool_from left >>= λ b. Ok (bool_value b)
value_from message k.Int8 left = number_at w8 left >>= λ n. Ok (int8_value (cast_signed w8 n.0))
value_from message k.Int16 left = number_at w16 left >>= λ n. Ok (int16_value (cast_signed w16 n.0))
value_from message k.Int32 left = number_at w32 left >>= λ n. Ok (int32_value (cast_signed w32 n.0))
value_from message k.Int64 left = number_at w64 left >>= λ n. Ok (int64_value (cast_signed w64 n.0))
value_from message k.UInt8 left = number_at w8 left >>= λ n. Ok (uint8_value n.0)
value_from message k.UInt16 left = number_at w16 left >>= λ n. Ok (uint16_value n.0)
value_from message k.UInt32 left = number_at w32 left >>= λ n. Ok (uint32_value n.0)
value_from message k.UInt64 left = number_at w64 left >>= λ n. Ok (uint64_value n.0)
value_from message k.Text left = text_from left >>= λ t. Ok (text_value t)
value_from message k.Message left = message left >>= λ m. Ok (value_of_message m)
value_from message k.Messenger left = address_from left >>= λ a. Ok (messenger_value a)
value_from message k.Raw left = Ok (raw_value left.bytes)

-- the length of a value
unfoldable pub value_len_at : Kind → Left → Read ℕ
value_len_at kind left = do
  len ← number_at w16 left
  where_true (is_length kind len.0) fault.BadLength left len

-- ---- values and fields, behind those that were read before
unfoldable pub value_at : (Left → Result MessageData FlatFault) → Kind → Left → Read ValueData
value_at message kind left = do
  len ← value_len_at kind left
  bytes ← bytes_at len.0 len.1
  value ← value_from message kind (record { place = len.1.place; bytes = bytes.0 })
  Ok (value, bytes.1)

unfoldable pub values_at : (Left → Result MessageData FlatFault) → Kind → ℕ → List ValueData → Left → Read (List ValueData)
values_at message kind zero earlier left = Ok (earlier, left)
values_at message kind (suc n) earlier left = do
  value ← value_at message kind left
  values_at message kind n (earlier ++ value.0 ∷ []) value.1

unfoldable pub field_at : (Left → Result MessageData FlatFault) → List FieldData → Left → Read FieldData
field_at message earlier left = do
  kind ← kind_at left
  name ← name_at earlier kind.1
  count ← value_count_at name.1
  values ← values_at message kind.0 count.0 [] count.1
  Ok (record { name = name.0; kind = kind.0; values = values.0 }, values.1)

unfoldable pub fields_at : (Left → Result MessageData FlatFault) → ℕ → List FieldData → Left → Read (List FieldData)
fields_at message zero earlier left = Ok (earlier, left)
fields_at message (suc n) earlier left = do
  field ← field_at message earlier left
  fields_at message n (earlier ++ field.0 ∷ []) field.1

-- what stands before the fields: the code, and the number of fields
unfoldable pub opening_at : Left → Read (ℕ × ℕ)
opening_at left = do
  rest ← magic_at left
  what ← number_at w32 rest
  count ← field_count_at what.1
  Ok ((what.0, count.0), count.1)

-- all that is left as a message in which messages stand at most so many deep
unfoldable pub message_from : ℕ → Left → Result MessageData FlatFault
message_from zero left = fault_at fault.TooDeep left
message_from (suc levels) left = do
  opening ← opening_at left
  fields ← fields_at (message_from levels) opening.0.1 [] opening.1
  where_true (length fields.1.bytes == 0) fault.Trailing fields.1 (record { what = opening.0.0; fields = fields.0; popped = 0 })

-- ---- all the bytes
unfoldable pub read_message : List ℕ → Result MessageData FlatFault
read_message bytes =
    if nat_le (length bytes) flat_limit then message_from depth_limit (record { place = 0; bytes = bytes })
    else Err (record { place = flat_limit; kind = fault.TooLong })
