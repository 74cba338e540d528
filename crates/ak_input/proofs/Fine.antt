-- What is read of a value is of the kind that is told, and no message in it is deeper than messages may be there.
use Rattle.std.proofs.Common.{◌≡◌, ℕ, zero, suc, ◌≤◌, Bool, true, false, not, cond, eqb, leb, List, [], ◌∷◌, ◌++◌, length, drop, Option, Some, None, IfSome, refl, arith}
use Rattle.std.specs.Prelude.{◌==◌, option_map, ℤ, pos, negsuc}
use Rattle.std.specs.List.{list_any, starts_with}
use Rattle.std.specs.Str.{is_utf8}
use Rattle.ak_base.specs.Option.{where_true, ◌>>=◌}
use Rattle.ak_base.specs.declared.limited.Limited.{Limited}
use Rattle.ak_base.specs.declared.limited.Limited.TheVariants.{Within, Over}
use Rattle.ak_message.specs.declared.fault.AddFault.{AddFault}
use Rattle.ak_message.specs.declared.kind.Kind.{Kind}
use Rattle.ak_message.specs.declared.kind.Kind.TheVariants as k
use Rattle.ak_message.specs.Fields.{add_fault}
use Rattle.ak_message.specs.Kind.{is_same_kind}
use Rattle.ak_message.specs.Message.{ValueData, bool_value, int8_value, int16_value, int32_value, int64_value, uint8_value, uint16_value, uint32_value, uint64_value, text_value, messenger_value, raw_value, MessageData, kind_of, depth_of_value, depth_of_nested_fields, nested_fields}
use Rattle.ak_message.proofs.Surface.{depth-added}
use Rattle.ak_input.specs.Payload.{kind_before, bool_from, int_within, uint_within, address_from, raw_from, unquoted}
use Rattle.ak_input.specs.Pieces.{braced}
use Rattle.ak_input.specs.Reading as reading
use Rattle.ak_input.specs.Reading.{Got, got, over, text_kept, raw_within, text_of, text_from, raw_value_from, small_from, number_or, short_from, payload_from, value_with, field_split, field_begun, add_or_not, values_added, field_behind, fields_behind, code_from, message_of, got_message, words_of, message_from, read_value}

-- ---- what holds of what is read, if it is read
pub some_then : {A B : Type 0} (P : A → Type 0) (Q : B → Type 0) (o : Option A) (f : A → Option B) → IfSome o P → ((x : A) → P x → IfSome (f x) Q) → IfSome (o >>= f) Q
some_then P Q None f h next = tt
some_then P Q (Some x) f h next = next x h

pub some_any : {A B : Type 0} (Q : B → Type 0) (o : Option A) (f : A → Option B) → ((x : A) → IfSome (f x) Q) → IfSome (o >>= f) Q
some_any Q None f next = tt
some_any Q (Some x) f next = next x

pub some_if : {A : Type 0} (Q : A → Type 0) (test : Bool) (o p : Option A) → IfSome o Q → IfSome p Q → IfSome (cond test o p) Q
some_if Q true o p h other = h
some_if Q false o p h other = other

pub some_map : {A B : Type 0} (Q : B → Type 0) (f : A → B) (o : Option A) → IfSome o (λ (x : A). Q (f x)) → IfSome (option_map f o) Q
some_map Q f None h = tt
some_map Q f (Some x) h = h

-- what holds of what passes no limit
abbrev pub IfWithin : {A : Type 0} → Limited A → (A → Type 0) → Type 0
IfWithin Over P = Unit {0}
IfWithin (Within x) P = P x

-- ---- one value
pub record Holds (most : ℕ) (kind : Kind) (v : ValueData) : Type 0 where
  pub kind_is : kind_of v ≡ kind
  pub shallow : depth_of_value v ≤ most

abbrev pub IsFine : ℕ → Got → Type 0
IsFine most g = IfWithin g.value (Holds most g.kind)

fine_if : (most : ℕ) (test : Bool) (g h : Got) → IsFine most g → IsFine most h → IsFine most (cond test g h)
fine_if most true g h fine other = fine
fine_if most false g h fine other = other

-- a value that is no message
flat : (most : ℕ) (v : ValueData) → depth_of_value v ≡ 0 → IsFine most (got v)
flat most v e = record { kind_is = refl; shallow = omega (arith, e) }

flat_map : {A : Type 0} (most : ℕ) (make : A → ValueData) (o : Option A) → ((x : A) → depth_of_value (make x) ≡ 0) → IfSome (option_map got (option_map make o)) (IsFine most)
flat_map most make None e = tt
flat_map most make (Some x) e = flat most (make x) (e x)

small_fine : (most : ℕ) (kind : Kind) (text : List ℕ) → IfSome (option_map got (small_from kind text)) (IsFine most)
unfolding small_from
small_fine most k.Bool text = flat_map most bool_value (bool_from text) (λ x. refl)
small_fine most k.Int8 text = flat_map most int8_value (int_within (negsuc 127) (pos 127) text) (λ x. refl)
small_fine most k.Int16 text = flat_map most int16_value (int_within (negsuc 32767) (pos 32767) text) (λ x. refl)
small_fine most k.Int32 text = flat_map most int32_value (int_within (negsuc 2147483647) (pos 2147483647) text) (λ x. refl)
small_fine most k.Int64 text = flat_map most int64_value (int_within (negsuc 9223372036854775807) (pos 9223372036854775807) text) (λ x. refl)
small_fine most k.UInt8 text = flat_map most uint8_value (uint_within 255 text) (λ x. refl)
small_fine most k.UInt16 text = flat_map most uint16_value (uint_within 65535 text) (λ x. refl)
small_fine most k.UInt32 text = flat_map most uint32_value (uint_within 4294967295 text) (λ x. refl)
small_fine most k.UInt64 text = flat_map most uint64_value (uint_within 18446744073709551615 text) (λ x. refl)
small_fine most k.Messenger text = flat_map most messenger_value (address_from text) (λ x. refl)
small_fine most k.Text text = tt
small_fine most k.Message text = tt
small_fine most k.Raw text = tt

kept_fine : (most : ℕ) (bytes : List ℕ) → IfSome (text_kept bytes) (IsFine most)
kept_fine most bytes =
    some_if (IsFine most) (leb (length bytes) 1024) (where_true (not (list_any (λ b. eqb b 0) bytes)) (got (text_value bytes))) (Some (over k.Text))
    (some_if (IsFine most) (not (list_any (λ b. eqb b 0) bytes)) (Some (got (text_value bytes))) None (flat most (text_value bytes) refl) tt) tt

text_fine : (most : ℕ) (text : List ℕ) → IfSome (text_from text) (IsFine most)
unfolding text_from
text_fine most text =
    some_any (IsFine most) (unquoted text) (λ bytes. text_of bytes)
    (λ bytes. some_if (IsFine most) (is_utf8 bytes) (text_kept bytes) None (kept_fine most bytes) tt)

raw_fine : (most : ℕ) (text : List ℕ) → IfSome (raw_value_from text) (IsFine most)
unfolding raw_value_from
raw_fine most text =
    some_any (IsFine most) (raw_from None text) (λ bytes. Some (raw_within bytes))
    (λ bytes. fine_if most (leb (length bytes) 1024) (got (raw_value bytes)) (over k.Raw) (flat most (raw_value bytes) refl) tt)

number_fine : (most : ℕ) (o : Option Bool) (text : List ℕ) → IfSome (number_or o text) (IsFine most)
number_fine most (Some x) text = flat most (bool_value x) refl
number_fine most None text =
    some_map (IsFine most) (λ z. got (int32_value z)) (int_within (negsuc 2147483647) (pos 2147483647) text)
    (any_number (int_within (negsuc 2147483647) (pos 2147483647) text)) where
      any_number : (o : Option ℤ) → IfSome o (λ z. IsFine most (got (int32_value z)))
      any_number None = tt
      any_number (Some z) = flat most (int32_value z) refl

short_fine : (most : ℕ) (text : List ℕ) → IfSome (short_from text) (IsFine most)
unfolding short_from
short_fine most text =
    some_if (IsFine most) (starts_with ◌==◌ text (34 ∷ [])) (text_from text) (number_or (bool_from text) text)
    (text_fine most text) (number_fine most (bool_from text) text)

-- where messages are read so
module _ (most : ℕ) (message : List ℕ → Option Got) (fine : (text : List ℕ) → IfSome (message text) (IsFine most)) where
  payload_fine : (kind : Kind) (text : List ℕ) → IfSome (payload_from message kind text) (IsFine most)
  payload_fine kind text =
      some_if (IsFine most) (is_same_kind kind k.Message) (message text) _ (fine text)
      (some_if (IsFine most) (is_same_kind kind k.Text) (text_from text) _ (text_fine most text)
      (some_if (IsFine most) (is_same_kind kind k.Raw) (raw_value_from text) (option_map got (small_from kind text)) (raw_fine most text) (small_fine most kind text)))

  kind_fine : (kind : Option Kind) (text : List ℕ) → IfSome (reading.value_of_kind message kind text) (IsFine most)
  kind_fine None text = short_fine most text
  kind_fine (Some kind) text = payload_fine kind (drop 5 text)

  pub value_fine : (text : List ℕ) → IfSome (value_with message text) (IsFine most)
  value_fine text = kind_fine (kind_before text) text

-- ---- messages: one that is kept has no field that is deeper than this
abbrev Shallow : ℕ → Limited MessageData → Type 0
Shallow most m = IfWithin m (λ (d : MessageData). depth_of_nested_fields (nested_fields d.fields) ≤ most)

added_shallow : (most : ℕ) (fault : Option AddFault) (m : MessageData) (name : List ℕ) (v : ValueData)
    → depth_of_nested_fields (nested_fields m.fields) ≤ most → depth_of_value v ≤ most → Shallow most (add_or_not fault m name v)
added_shallow most None m name v h low = omega (arith, depth-added m.fields name v)
added_shallow most (Some e) m name v h low = tt

value_shallow : (most : ℕ) (kind : Kind) (m : Limited MessageData) (name : List ℕ) (v : Limited ValueData) → Shallow most m → IfWithin v (Holds most kind) → Shallow most (reading.with_value m name v)
value_shallow most kind Over name v h fine = tt
value_shallow most kind (Within m) name Over h fine = tt
value_shallow most kind (Within m) name (Within v) h fine = added_shallow most (add_fault m.fields name v) m name v h fine.shallow

begun_shallow : (most : ℕ) (b : reading.Built) (name : List ℕ) → Shallow most b.message → IfSome (field_begun b name) (λ (c : reading.Built). Shallow most c.message)
begun_shallow most b name h = some_if (λ (c : reading.Built). Shallow most c.message) _ (Some (record { names = b.names ++ name ∷ []; message = b.message })) None h tt

module _ (most : ℕ) (message : List ℕ → Option Got) (fine : (text : List ℕ) → IfSome (message text) (IsFine most)) where
  values_shallow : (texts : List (List ℕ)) (name : List ℕ) (kind : Option Kind) (m : Limited MessageData) → Shallow most m → IfSome (values_added message name texts kind m) (Shallow most)
  unfolding values_added
  values_shallow [] name kind m h = h
  values_shallow (text ∷ texts) name kind m h =
      some_then (IsFine most) (Shallow most) (value_with message text) _ (value_fine most message fine text)
      (λ v fine_v. some_then (IsFine most) (Shallow most) (where_true (reading.fits kind v.kind) v) _ (some_if (IsFine most) (reading.fits kind v.kind) (Some v) None fine_v tt)
      (λ w fine_w. values_shallow texts name (Some w.kind) (reading.with_value m name w.value) (value_shallow most w.kind m name w.value h fine_w)))

  field_shallow : (b : reading.Built) (word : List ℕ) → Shallow most b.message → IfSome (field_behind message b word) (λ (c : reading.Built). Shallow most c.message)
  unfolding field_behind
  field_shallow b word h =
      some_any (λ (c : reading.Built). Shallow most c.message) (field_split word) _
      (λ field. some_then (λ (c : reading.Built). Shallow most c.message) (λ (c : reading.Built). Shallow most c.message) (field_begun b field.0) _ (begun_shallow most b field.0 h)
      (λ begun low. some_any (λ (c : reading.Built). Shallow most c.message) _ _
      (λ texts. some_then (Shallow most) (λ (c : reading.Built). Shallow most c.message) (values_added message field.0 texts None begun.message) _ (values_shallow texts field.0 None begun.message low)
      (λ m low_m. low_m))))

  fields_shallow : (words : List (List ℕ)) (b : reading.Built) → Shallow most b.message → IfSome (fields_behind message words b) (λ (c : reading.Built). Shallow most c.message)
  unfolding fields_behind
  fields_shallow [] b h = h
  fields_shallow (word ∷ words) b h =
      some_then (λ (c : reading.Built). Shallow most c.message) (λ (c : reading.Built). Shallow most c.message) (field_behind message b word) _ (field_shallow b word h)
      (λ more low. fields_shallow words more low)

  message_shallow : (words : List (List ℕ)) → IfSome (message_of message words) (Shallow most)
  unfolding message_of
  message_shallow [] = tt
  message_shallow (text ∷ words) =
      some_any (Shallow most) (code_from text) _
      (λ what. some_then (λ (c : reading.Built). Shallow most c.message) (Shallow most) (fields_behind message words (record { names = []; message = Within (record { what = what; fields = []; popped = 0 }) })) _
      (fields_shallow words (record { names = []; message = Within (record { what = what; fields = []; popped = 0 }) }) (omega arith))
      (λ b low. low))

got_fine : (most : ℕ) (m : Limited MessageData) → Shallow most m → IsFine (suc most) (got_message m)
got_fine most Over h = tt
got_fine most (Within m) h = record { kind_is = refl; shallow = omega (arith, h) }

pub message_fine : (levels : ℕ) (text : List ℕ) → IfSome (message_from levels text) (IsFine levels)
unfolding message_from
message_fine zero text = some_any (IsFine zero) (braced text) _ (λ body. tt)
message_fine (suc levels) text =
    some_any (IsFine (suc levels)) (braced text) _
    (λ body. some_any (IsFine (suc levels)) (words_of body) (λ words. option_map got_message (message_of (message_from levels) words))
    (λ words. some_map (IsFine (suc levels)) got_message (message_of (message_from levels) words)
    (shallow_got (message_of (message_from levels) words) (message_shallow levels (message_from levels) (message_fine levels) words)))) where
      shallow_got : (o : Option (Limited MessageData)) → IfSome o (Shallow levels) → IfSome o (λ (m : Limited MessageData). IsFine (suc levels) (got_message m))
      shallow_got None h = tt
      shallow_got (Some m) h = got_fine levels m h

pub read_fine : (text : List ℕ) → IfSome (read_value text) (IsFine 16)
read_fine text = value_fine 16 (message_from 16) (message_fine 16) text
