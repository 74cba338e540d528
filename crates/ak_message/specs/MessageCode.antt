-- How a proof tells messages apart: each has a code of its own, a tree of numbers.
use Rattle.std.specs.Prelude.{◌≡◌, ◌==◌, ℕ, zero, suc, Bool, true, false, if◌then◌else◌, ℤ, pos, negsuc, List, [], ◌∷◌, refl}
use Rattle.std.specs.Coded.{Coded, code_by}
use base.Stored.{Gv, gnil, gnum, gcons}
use Rattle.std.proofs.Common.{sym, ◌∙◌, ap}
use Rattle.ak_message.specs.declared.address.Address.{Address}
use Rattle.ak_message.specs.declared.address.Target.{Target}
use Rattle.ak_message.specs.declared.address.Target.TheVariants as target
use Rattle.ak_message.specs.Kind.{code_of_kind, kind_at, kind_at-code}
use Rattle.ak_message.specs.Message.{ValueData, bool_value, int8_value, int16_value, int32_value, int64_value, uint8_value, uint16_value, uint32_value, uint64_value, text_value, message_value, messenger_value, raw_value, NestedValues, no_values, then_value, NestedFields, no_fields, then_field, FieldData, MessageData, nested_values, listed_values, nested_fields, listed_fields, value_of_message, message_of_nested}

abbrev number : Gv → ℕ
number gnil = 0
number (gnum n) = n
number (gcons a b) = 0

abbrev first : Gv → Gv
first gnil = gnil
first (gnum n) = gnil
first (gcons a b) = a

abbrev rest : Gv → Gv
rest gnil = gnil
rest (gnum n) = gnil
rest (gcons a b) = b

-- ---- numbers and bytes
abbrev code_of_int : ℤ → Gv
code_of_int (pos n) = gcons (gnum 0) (gnum n)
code_of_int (negsuc n) = gcons (gnum 1) (gnum n)

abbrev int_by : ℕ → ℕ → ℤ
int_by zero n = pos n
int_by (suc _) n = negsuc n

abbrev int_at : Gv → ℤ
int_at g = int_by (number (first g)) (number (rest g))

int_at-code : (z : ℤ) → int_at (code_of_int z) ≡ z
int_at-code (pos n) = refl
int_at-code (negsuc n) = refl

abbrev code_of_bytes : List ℕ → Gv
code_of_bytes [] = gnil
code_of_bytes (b ∷ bs) = gcons (gnum b) (code_of_bytes bs)

abbrev bytes_at : Gv → List ℕ
bytes_at gnil = []
bytes_at (gnum n) = []
bytes_at (gcons a b) = number a ∷ bytes_at b

bytes_at-code : (bs : List ℕ) → bytes_at (code_of_bytes bs) ≡ bs
bytes_at-code [] = refl
bytes_at-code (b ∷ bs) = ap (λ t. b ∷ t) (bytes_at-code bs)

abbrev code_of_bool : Bool → Gv
code_of_bool false = gnum 0
code_of_bool true = gnum 1

abbrev bool_at : Gv → Bool
bool_at g = number g == 1

bool_at-code : (b : Bool) → bool_at (code_of_bool b) ≡ b
bool_at-code false = refl
bool_at-code true = refl

abbrev code_of_target : Target → Gv
code_of_target target.Preferred = gcons (gnum 0) gnil
code_of_target (target.Token n) = gcons (gnum 1) (gnum n)

abbrev target_by : ℕ → ℕ → Target
target_by zero n = target.Preferred
target_by (suc _) n = target.Token n

abbrev target_at : Gv → Target
target_at g = target_by (number (first g)) (number (rest g))

target_at-code : (t : Target) → target_at (code_of_target t) ≡ t
target_at-code target.Preferred = refl
target_at-code (target.Token n) = refl

abbrev code_of_address : Address → Gv
code_of_address a = gcons (gnum a.looper) (code_of_target a.target)

abbrev address_at : Gv → Address
address_at g = record { looper = number (first g); target = target_at (rest g) }

address_at-code : (a : Address) → address_at (code_of_address a) ≡ a
address_at-code a = ap (λ (t : Target). record { looper = a.looper; target = t }) (target_at-code a.target)

-- ---- values: the number of the case, and then its parts
abbrev mutual
  code_of_value : ValueData → Gv
  code_of_value (bool_value x) = gcons (gnum 0) (code_of_bool x)
  code_of_value (int8_value x) = gcons (gnum 1) (code_of_int x)
  code_of_value (int16_value x) = gcons (gnum 2) (code_of_int x)
  code_of_value (int32_value x) = gcons (gnum 3) (code_of_int x)
  code_of_value (int64_value x) = gcons (gnum 4) (code_of_int x)
  code_of_value (uint8_value x) = gcons (gnum 5) (gnum x)
  code_of_value (uint16_value x) = gcons (gnum 6) (gnum x)
  code_of_value (uint32_value x) = gcons (gnum 7) (gnum x)
  code_of_value (uint64_value x) = gcons (gnum 8) (gnum x)
  code_of_value (text_value x) = gcons (gnum 9) (code_of_bytes x)
  code_of_value (message_value what fs popped) = gcons (gnum 10) (gcons (gcons (gnum what) (gnum popped)) (code_of_fields fs))
  code_of_value (messenger_value x) = gcons (gnum 11) (code_of_address x)
  code_of_value (raw_value x) = gcons (gnum 12) (code_of_bytes x)

  code_of_values : NestedValues → Gv
  code_of_values no_values = gnil
  code_of_values (then_value v vs) = gcons (code_of_value v) (code_of_values vs)

  code_of_fields : NestedFields → Gv
  code_of_fields no_fields = gnil
  code_of_fields (then_field name kind vs fs) =
      gcons (gcons (gcons (code_of_bytes name) (gnum (code_of_kind kind))) (code_of_values vs)) (code_of_fields fs)

-- ---- back: all that one tree can be the code of, and what its second part can be
record Read : Type 0 where
  value : ValueData
  values : NestedValues
  fields : NestedFields
  rest_values : NestedValues
  rest_fields : NestedFields

abbrev value_by : ℕ → Gv → NestedFields → ValueData
value_by n g fs =
    if n == 0 then bool_value (bool_at g)
    else if n == 1 then int8_value (int_at g)
    else if n == 2 then int16_value (int_at g)
    else if n == 3 then int32_value (int_at g)
    else if n == 4 then int64_value (int_at g)
    else if n == 5 then uint8_value (number g)
    else if n == 6 then uint16_value (number g)
    else if n == 7 then uint32_value (number g)
    else if n == 8 then uint64_value (number g)
    else if n == 9 then text_value (bytes_at g)
    else if n == 10 then message_value (number (first (first g))) fs (number (rest (first g)))
    else if n == 11 then messenger_value (address_at g)
    else raw_value (bytes_at g)

abbrev nothing : Read
nothing =
    record { value = int32_value (pos 0); values = no_values; fields = no_fields; rest_values = no_values; rest_fields = no_fields }

abbrev read : Gv → Read
read gnil = nothing
read (gnum n) = nothing
read (gcons a b) =
    record {
      value = value_by (number a) b (read b).rest_fields;
      values = then_value (read a).value (read b).values;
      fields = then_field (bytes_at (first (first a))) (kind_at (number (rest (first a)))) (read a).rest_values (read b).fields;
      rest_values = (read b).values;
      rest_fields = (read b).fields;
    }

mutual
  pub read-value : (v : ValueData) → (read (code_of_value v)).value ≡ v
  read-value (bool_value x) = ap bool_value (bool_at-code x)
  read-value (int8_value x) = ap int8_value (int_at-code x)
  read-value (int16_value x) = ap int16_value (int_at-code x)
  read-value (int32_value x) = ap int32_value (int_at-code x)
  read-value (int64_value x) = ap int64_value (int_at-code x)
  read-value (uint8_value x) = refl
  read-value (uint16_value x) = refl
  read-value (uint32_value x) = refl
  read-value (uint64_value x) = refl
  read-value (text_value x) = ap text_value (bytes_at-code x)
  read-value (message_value what fs popped) = ap (λ t. message_value what t popped) (read-fields fs)
  read-value (messenger_value x) = ap messenger_value (address_at-code x)
  read-value (raw_value x) = ap raw_value (bytes_at-code x)

  read-values : (vs : NestedValues) → (read (code_of_values vs)).values ≡ vs
  read-values no_values = refl
  read-values (then_value v vs) = λ i. then_value (read-value v i) (read-values vs i)

  read-fields : (fs : NestedFields) → (read (code_of_fields fs)).fields ≡ fs
  read-fields no_fields = refl
  read-fields (then_field name kind vs fs) =
      λ i. then_field (bytes_at-code name i) (kind_at-code kind i) (read-values vs i) (read-fields fs i)

abbrev pub coded_value : Coded ValueData
coded_value =
    record { code = code_of_value; inj = λ v w p. sym (read-value v) ∙ ap (λ g. (read g).value) p ∙ read-value w }

-- ---- a message is stored as the value that it is
pub listed_values-nested : (vs : List ValueData) → listed_values (nested_values vs) ≡ vs
listed_values-nested [] = refl
listed_values-nested (v ∷ vs) = ap (λ t. v ∷ t) (listed_values-nested vs)

pub listed_fields-nested : (fs : List FieldData) → listed_fields (nested_fields fs) ≡ fs
listed_fields-nested [] = refl
listed_fields-nested (f ∷ fs) =
    λ i. (record { name = f.name; kind = f.kind; values = listed_values-nested f.values i }) ∷ listed_fields-nested fs i

abbrev message_at : ValueData → MessageData
message_at (message_value what fs popped) = message_of_nested what fs popped
message_at _ = message_of_nested 0 no_fields 0

pub message_at-value : (m : MessageData) → message_at (value_of_message m) ≡ m
message_at-value m = λ i. record { what = m.what; fields = listed_fields-nested m.fields i; popped = m.popped }

abbrev pub coded_message : Coded MessageData
coded_message = code_by ValueData coded_value value_of_message message_at message_at-value
