-- Reading values, fields and messages, each from the whole of its text. What passes a limit is told by its kind alone.
use Rattle.std.specs.Prelude.{ℕ, zero, suc, ◌+◌, ◌-◌, Bool, true, not, ◌&&◌, ◌||◌, ◌==◌, nat_lt, nat_le, if◌then◌else◌, List, [], ◌∷◌, ◌++◌, length, take, drop, filter, codes, position, slice_index, slice_get, pos, negsuc, Option, Some, None, option_map}
use Rattle.std.specs.Int.{w32, from_be_bytes}
use Rattle.std.specs.List.{list_any, starts_with}
use Rattle.std.specs.Str.{bytes_eq, is_utf8}
use Rattle.ak_base.specs.Code.{may_all_be_quoted}
use Rattle.ak_base.specs.Word.{is_word}
use Rattle.ak_base.specs.Limits.{text_limit, raw_limit}
use Rattle.ak_base.specs.declared.limited.Limited.{Limited}
use Rattle.ak_base.specs.declared.limited.Limited.TheVariants.{Within, Over}
use Rattle.ak_message.specs.declared.kind.Kind.{Kind}
use Rattle.ak_message.specs.declared.kind.Kind.TheVariants as k
use Rattle.ak_input.specs.declared.pieces.Separator.TheVariants as by
use Rattle.ak_message.specs.declared.fault.AddFault.{AddFault}
use Rattle.ak_message.specs.Fields.{added, add_fault}
use Rattle.ak_message.specs.Kind.{is_same_kind}
use Rattle.ak_message.specs.Message.{ValueData, bool_value, int8_value, int16_value, int32_value, int64_value, uint8_value, uint16_value, uint32_value, uint64_value, text_value, messenger_value, raw_value, MessageData, value_of_message}
use Rattle.ak_base.specs.Option.{where_true, ◌>>=◌}
use Rattle.ak_input.specs.Payload.{kind_before, bool_from, int_within, uint_within, address_from, raw_from, unquoted}
use Rattle.ak_input.specs.Pieces.{pieces_of, braced}
use Rattle.ak_message.specs.Limits.{value_limit, depth_limit}
pub use Rattle.ak_input.specs.Got.{Got, GotValues, got, over}

-- ---- values that are no message
-- a text has no zero byte, and quotes hold none
abbrev pub text_kept : List ℕ → Option Got
text_kept bytes =
    if nat_le (length bytes) text_limit then where_true (not (list_any (λ b. b == 0) bytes)) (got (text_value bytes))
    else Some (over k.Text)

-- a text, where it is not too long
abbrev pub text_got : Limited (List ℕ) → Got
text_got Over = over k.Text
text_got (Within bytes) = got (text_value bytes)

abbrev pub raw_within : List ℕ → Got
raw_within bytes = if nat_le (length bytes) raw_limit then got (raw_value bytes) else over k.Raw

abbrev pub text_of : List ℕ → Option Got
text_of bytes = if is_utf8 bytes then text_kept bytes else None

unfoldable pub text_from : List ℕ → Option Got
text_from text = unquoted text >>= λ bytes. text_of bytes

unfoldable pub raw_value_from : List ℕ → Option Got
raw_value_from text = raw_from None text >>= λ bytes. Some (raw_within bytes)

-- a payload of the kinds without texts in them
unfoldable pub small_from : Kind → List ℕ → Option ValueData
small_from k.Bool text = option_map bool_value (bool_from text)
small_from k.Int8 text = option_map int8_value (int_within (negsuc 127) (pos 127) text)
small_from k.Int16 text = option_map int16_value (int_within (negsuc 32767) (pos 32767) text)
small_from k.Int32 text = option_map int32_value (int_within (negsuc 2147483647) (pos 2147483647) text)
small_from k.Int64 text = option_map int64_value (int_within (negsuc 9223372036854775807) (pos 9223372036854775807) text)
small_from k.UInt8 text = option_map uint8_value (uint_within 255 text)
small_from k.UInt16 text = option_map uint16_value (uint_within 65535 text)
small_from k.UInt32 text = option_map uint32_value (uint_within 4294967295 text)
small_from k.UInt64 text = option_map uint64_value (uint_within 18446744073709551615 text)
small_from k.Messenger text = option_map messenger_value (address_from text)
small_from k.Text text = None
small_from k.Message text = None
small_from k.Raw text = None

-- a number for short is an Int32
abbrev pub number_or : Option Bool → List ℕ → Option Got
number_or (Some x) text = Some (got (bool_value x))
number_or None text = option_map (λ z. got (int32_value z)) (int_within (negsuc 2147483647) (pos 2147483647) text)

-- without the letters of a kind
unfoldable pub short_from : List ℕ → Option Got
short_from text = if starts_with ◌==◌ text (34 ∷ []) then text_from text else number_or (bool_from text) text

-- ---- values, where messages are read by `message`
abbrev pub payload_from : (List ℕ → Option Got) → Kind → List ℕ → Option Got
payload_from message kind text =
    if is_same_kind kind k.Message then message text
    else if is_same_kind kind k.Text then text_from text
    else if is_same_kind kind k.Raw then raw_value_from text
    else option_map got (small_from kind text)

abbrev pub value_of_kind : (List ℕ → Option Got) → Option Kind → List ℕ → Option Got
value_of_kind message None text = short_from text
value_of_kind message (Some kind) text = payload_from message kind (drop 5 text)

abbrev pub value_with : (List ℕ → Option Got) → List ℕ → Option Got
value_with message text = value_of_kind message (kind_before text) text

-- a value that is no message
abbrev pub plain_from : List ℕ → Option Got
plain_from text = value_with (λ _. None) text

-- values that are added to others, at most 255
abbrev pub joined : Limited (List ValueData) → Limited ValueData → Limited (List ValueData)
joined Over v = Over
joined (Within vs) Over = Over
joined (Within vs) (Within v) = if nat_lt (length vs) value_limit then Within (vs ++ v ∷ []) else Over

abbrev pub first_values : Got → GotValues
first_values v = record { kind = v.kind; values = joined (Within []) v.value }

-- one value more, which has to be of the same kind
abbrev pub more_values : GotValues → Got → Option GotValues
more_values read v = where_true (is_same_kind v.kind read.kind) (record { kind = read.kind; values = joined read.values v.value })

unfoldable pub values_behind : (List ℕ → Option Got) → List (List ℕ) → GotValues → Option GotValues
values_behind message [] read = Some read
values_behind message (text ∷ texts) read = value_with message text >>= λ v. more_values read v >>= λ more. values_behind message texts more

unfoldable pub values_of : (List ℕ → Option Got) → List (List ℕ) → Option GotValues
values_of message [] = None
values_of message (text ∷ texts) = value_with message text >>= λ v. values_behind message texts (first_values v)

-- one or more, with commas between them
abbrev pub values_with : (List ℕ → Option Got) → List ℕ → Option GotValues
values_with message text = pieces_of by.Comma text >>= λ texts. values_of message texts

-- ---- fields
abbrev pub equals_in : List ℕ → Option ℕ
equals_in word = position (λ b. b == 61) word

-- the name and what follows the first `=`
unfoldable pub field_split : List ℕ → Option (List ℕ × List ℕ)
field_split word = do
  place ← equals_in word
  where_true (is_word (take place word)) (take place word, drop (place + 1) word)

-- a message as far as it is read: the names of its fields, and itself where it passes no limit
pub record Built : Type 0 where
  pub names : List (List ℕ)
  pub message : Limited MessageData

-- a value added to a message; where it can't be, or passes a limit itself, the message is not kept
abbrev pub add_or_not : Option AddFault → MessageData → List ℕ → ValueData → Limited MessageData
add_or_not None m name v = Within (record m { fields = added m.fields name v })
add_or_not (Some fault) m name v = Over

abbrev pub with_value : Limited MessageData → List ℕ → Limited ValueData → Limited MessageData
with_value Over name v = Over
with_value (Within m) name Over = Over
with_value (Within m) name (Within v) = add_or_not (add_fault m.fields name v) m name v

-- the first value of a field has any kind, and the others have the same
abbrev pub fits : Option Kind → Kind → Bool
fits None kind = true
fits (Some first) kind = is_same_kind kind first

unfoldable pub values_added : (List ℕ → Option Got) → List ℕ → List (List ℕ) → Option Kind → Limited MessageData → Option (Limited MessageData)
values_added message name [] kind m = Some m
values_added message name (text ∷ texts) kind m = do
  v ← value_with message text
  fitting ← where_true (fits kind v.kind) v
  values_added message name texts (Some fitting.kind) (with_value m name fitting.value)

-- a field begins, and its name has to be a new one
abbrev pub field_begun : Built → List ℕ → Option Built
field_begun b name = where_true (not (list_any (bytes_eq name) b.names)) (record { names = b.names ++ name ∷ []; message = b.message })

unfoldable pub field_behind : (List ℕ → Option Got) → Built → List ℕ → Option Built
field_behind message b word = do
  field ← field_split word
  begun ← field_begun b field.0
  texts ← pieces_of by.Comma field.1
  m ← values_added message field.0 texts None begun.message
  Some (record { names = begun.names; message = m })

unfoldable pub fields_behind : (List ℕ → Option Got) → List (List ℕ) → Built → Option Built
fields_behind message [] b = Some b
fields_behind message (word ∷ words) b = field_behind message b word >>= λ more. fields_behind message words more

-- ---- messages
-- a code in quotes, or in eight digits behind `0x`
unfoldable pub code_from : List ℕ → Option ℕ
code_from text =
    if length text == 6 then where_true (slice_index text 0 == 39 && slice_index text 5 == 39 && may_all_be_quoted (take 4 (drop 1 text))) (from_be_bytes w32 (take 4 (drop 1 text)))
    else if length text == 10 && starts_with ◌==◌ text (codes "0x") then option_map (from_be_bytes w32) (raw_from None (drop 2 text))
    else None

-- the words of a message's text: a code, and then fields
unfoldable pub message_of : (List ℕ → Option Got) → List (List ℕ) → Option (Limited MessageData)
message_of message [] = None
message_of message (text ∷ words) = do
  what ← code_from text
  b ← fields_behind message words (record { names = []; message = Within (record { what = what; fields = []; popped = 0 }) })
  Some b.message

-- the words between blanks, with none before the first or behind the last
abbrev pub is_some_bytes : List ℕ → Bool
is_some_bytes bytes = not (length bytes == 0)

abbrev pub is_missing : Option (List ℕ) → Bool
is_missing None = true
is_missing (Some bytes) = length bytes == 0

abbrev pub got_message : Limited MessageData → Got
got_message Over = over k.Message
got_message (Within m) = got (value_of_message m)

abbrev pub is_blank_at_an_end : List (List ℕ) → Bool
is_blank_at_an_end pieces = is_missing (slice_get pieces 0) || is_missing (slice_get pieces (length pieces - 1))

unfoldable pub words_of : List ℕ → Option (List (List ℕ))
words_of body = do
  pieces ← pieces_of by.Blank body
  where_true (not (is_blank_at_an_end pieces)) (filter is_some_bytes pieces)

-- a message's text in braces, where messages may stand so many deep; a deeper one passes the limit whatever stands in its braces
unfoldable pub message_from : ℕ → List ℕ → Option Got
message_from zero text = braced text >>= λ body. Some (over k.Message)
message_from (suc levels) text = braced text >>= λ body. words_of body >>= λ words. option_map got_message (message_of (message_from levels) words)

-- ---- what stands in an input
abbrev pub read_value : List ℕ → Option Got
read_value text = value_with (message_from depth_limit) text

abbrev pub read_values : List ℕ → Option GotValues
read_values text = values_with (message_from 15) text

abbrev pub read_message : List (List ℕ) → Option (Limited MessageData)
read_message words = message_of (message_from 15) words
