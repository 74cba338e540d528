-- A message with nothing popped is sound where the message was.
use Rattle.std.proofs.Common.{◌≡◌, ◌≢◌, ℕ, ◌+◌, List, [], ◌∷◌, map, AllPairs, refl, sym, ap, subst, ◌∙◌, arith}
use Rattle.std.proofs.lemmas.List.{length-map, get_or-map}
use Rattle.std.proofs.lemmas.List.Elements.{All-map, All-weaker}
use Rattle.ak_message.specs.Fields.{IsField, IsMessage}
use Rattle.ak_message.specs.Message.{ValueData, bool_value, int8_value, int16_value, int32_value, int64_value, uint8_value, uint16_value, uint32_value, uint64_value, text_value, message_value, messenger_value, raw_value, NestedValues, no_values, then_value, NestedFields, no_fields, then_field, FieldData, MessageData, kind_of, depth_of, depth_of_value, depth_of_nested_values, depth_of_nested_fields, nested_values, nested_fields, listed_values, listed_fields, message_of_nested}
use Rattle.ak_message.specs.Popped.{IsUnpoppedValue, AreUnpoppedValues, AreUnpoppedFields, IsUnpopped, unpopped_value, unpopped_values, unpopped_fields, unpopped_field, unpopped}
use Rattle.ak_message.specs.Whole.{FitsValue, FitsValues, FitsFields, IsWhole}

pub kind-unpopped : (v : ValueData) → kind_of (unpopped_value v) ≡ kind_of v
kind-unpopped (bool_value x) = refl
kind-unpopped (int8_value x) = refl
kind-unpopped (int16_value x) = refl
kind-unpopped (int32_value x) = refl
kind-unpopped (int64_value x) = refl
kind-unpopped (uint8_value x) = refl
kind-unpopped (uint16_value x) = refl
kind-unpopped (uint32_value x) = refl
kind-unpopped (uint64_value x) = refl
kind-unpopped (text_value x) = refl
kind-unpopped (message_value what fs popped) = refl
kind-unpopped (messenger_value x) = refl
kind-unpopped (raw_value x) = refl

-- ---- depth
mutual
  depth-unpopped_value : (v : ValueData) → depth_of_value (unpopped_value v) ≡ depth_of_value v
  depth-unpopped_value (bool_value x) = refl
  depth-unpopped_value (int8_value x) = refl
  depth-unpopped_value (int16_value x) = refl
  depth-unpopped_value (int32_value x) = refl
  depth-unpopped_value (int64_value x) = refl
  depth-unpopped_value (uint8_value x) = refl
  depth-unpopped_value (uint16_value x) = refl
  depth-unpopped_value (uint32_value x) = refl
  depth-unpopped_value (uint64_value x) = refl
  depth-unpopped_value (text_value x) = refl
  depth-unpopped_value (message_value what fs popped) = ap (λ (n : ℕ). n + 1) (depth-unpopped_fields fs)
  depth-unpopped_value (messenger_value x) = refl
  depth-unpopped_value (raw_value x) = refl

  depth-unpopped_values : (vs : NestedValues) → depth_of_nested_values (unpopped_values vs) ≡ depth_of_nested_values vs
  depth-unpopped_values no_values = refl
  depth-unpopped_values (then_value v vs) = omega (arith, depth-unpopped_value v, depth-unpopped_values vs)

  depth-unpopped_fields : (fs : NestedFields) → depth_of_nested_fields (unpopped_fields fs) ≡ depth_of_nested_fields fs
  depth-unpopped_fields no_fields = refl
  depth-unpopped_fields (then_field name kind vs fs) = omega (arith, depth-unpopped_values vs, depth-unpopped_fields fs)

-- ---- nothing is popped
mutual
  is_unpopped_value : (v : ValueData) → IsUnpoppedValue (unpopped_value v)
  is_unpopped_value (bool_value x) = tt
  is_unpopped_value (int8_value x) = tt
  is_unpopped_value (int16_value x) = tt
  is_unpopped_value (int32_value x) = tt
  is_unpopped_value (int64_value x) = tt
  is_unpopped_value (uint8_value x) = tt
  is_unpopped_value (uint16_value x) = tt
  is_unpopped_value (uint32_value x) = tt
  is_unpopped_value (uint64_value x) = tt
  is_unpopped_value (text_value x) = tt
  is_unpopped_value (message_value what fs popped) = (refl, are_unpopped_fields fs)
  is_unpopped_value (messenger_value x) = tt
  is_unpopped_value (raw_value x) = tt

  are_unpopped_values : (vs : NestedValues) → AreUnpoppedValues (unpopped_values vs)
  are_unpopped_values no_values = tt
  are_unpopped_values (then_value v vs) = (is_unpopped_value v, are_unpopped_values vs)

  are_unpopped_fields : (fs : NestedFields) → AreUnpoppedFields (unpopped_fields fs)
  are_unpopped_fields no_fields = tt
  are_unpopped_fields (then_field name kind vs fs) = (are_unpopped_values vs, are_unpopped_fields fs)

-- ---- the lists of a message, and those of a message as a value
nested-unpopped_values : (vs : List ValueData) → nested_values (map unpopped_value vs) ≡ unpopped_values (nested_values vs)
nested-unpopped_values [] = refl
nested-unpopped_values (v ∷ vs) = ap (λ (t : NestedValues). then_value (unpopped_value v) t) (nested-unpopped_values vs)

pub nested-unpopped_fields : (fs : List FieldData) → nested_fields (map unpopped_field fs) ≡ unpopped_fields (nested_fields fs)
nested-unpopped_fields [] = refl
nested-unpopped_fields (f ∷ fs) = λ i. then_field f.name f.kind (nested-unpopped_values f.values i) (nested-unpopped_fields fs i)

listed-unpopped_values : (vs : NestedValues) → listed_values (unpopped_values vs) ≡ map unpopped_value (listed_values vs)
listed-unpopped_values no_values = refl
listed-unpopped_values (then_value v vs) = ap (λ (t : List ValueData). unpopped_value v ∷ t) (listed-unpopped_values vs)

listed-unpopped_fields : (fs : NestedFields) → listed_fields (unpopped_fields fs) ≡ map unpopped_field (listed_fields fs)
listed-unpopped_fields no_fields = refl
listed-unpopped_fields (then_field name kind vs fs) =
    λ i. (record { name = name; kind = kind; values = listed-unpopped_values vs i }) ∷ listed-unpopped_fields fs i

-- ---- a message that is sound is so with nothing popped
field-unpopped : (f : FieldData) → IsField f → IsField (unpopped_field f)
field-unpopped f h =
    record {
      word = h.word;
      filled = omega (arith, h.filled, length-map f.values unpopped_value);
      limit = omega (arith, h.limit, length-map f.values unpopped_value);
      same_kind = All-map (λ v. kind_of v ≡ f.kind) unpopped_value f.values (All-weaker (λ v. kind_of v ≡ f.kind) (λ v. kind_of (unpopped_value v) ≡ f.kind) (λ v e. kind-unpopped v ∙ e) f.values h.same_kind);
    }

names-unpopped : (fs : List FieldData) → AllPairs (λ f g. f.name ≢ g.name) fs → AllPairs (λ f g. f.name ≢ g.name) (map unpopped_field fs)
names-unpopped fs h i j d lt within same =
    let len = length-map fs unpopped_field in
    let first = get_or-map unpopped_field fs i d d (omega arith) in
    let second = get_or-map unpopped_field fs j d d (omega arith) in
    h i j d lt (omega arith) (sym (ap (λ (f : FieldData). f.name) first) ∙ same ∙ ap (λ (f : FieldData). f.name) second)

pub depth-unpopped : (m : MessageData) → depth_of (unpopped m) ≡ depth_of m
depth-unpopped m =
    ap (λ (fs : NestedFields). depth_of_nested_fields fs + 1) (nested-unpopped_fields m.fields) ∙ ap (λ (n : ℕ). n + 1) (depth-unpopped_fields (nested_fields m.fields))

message-unpopped : (m : MessageData) → IsMessage m → IsMessage (unpopped m)
message-unpopped m h =
    record {
      code = h.code;
      every_field = All-map IsField unpopped_field m.fields (All-weaker IsField (λ f. IsField (unpopped_field f)) field-unpopped m.fields h.every_field);
      names_differ = names-unpopped m.fields h.names_differ;
      limit = omega (arith, h.limit, length-map m.fields unpopped_field);
      popped_within = omega arith;
      depth_within = omega (arith, h.depth_within, depth-unpopped m);
    }

mutual
  fits-unpopped_value : (v : ValueData) → FitsValue v → FitsValue (unpopped_value v)
  fits-unpopped_value (bool_value x) h = h
  fits-unpopped_value (int8_value x) h = h
  fits-unpopped_value (int16_value x) h = h
  fits-unpopped_value (int32_value x) h = h
  fits-unpopped_value (int64_value x) h = h
  fits-unpopped_value (uint8_value x) h = h
  fits-unpopped_value (uint16_value x) h = h
  fits-unpopped_value (uint32_value x) h = h
  fits-unpopped_value (uint64_value x) h = h
  fits-unpopped_value (text_value x) h = h
  fits-unpopped_value (message_value what fs popped) h =
      (subst (λ (gs : List FieldData). IsMessage (record { what = what; fields = gs; popped = 0 })) (sym (listed-unpopped_fields fs)) (message-unpopped (message_of_nested what fs popped) h.0), fits-unpopped_fields fs h.1)
  fits-unpopped_value (messenger_value x) h = h
  fits-unpopped_value (raw_value x) h = h

  fits-unpopped_values : (vs : NestedValues) → FitsValues vs → FitsValues (unpopped_values vs)
  fits-unpopped_values no_values h = tt
  fits-unpopped_values (then_value v vs) h = (fits-unpopped_value v h.0, fits-unpopped_values vs h.1)

  fits-unpopped_fields : (fs : NestedFields) → FitsFields fs → FitsFields (unpopped_fields fs)
  fits-unpopped_fields no_fields h = tt
  fits-unpopped_fields (then_field name kind vs fs) h = (fits-unpopped_values vs h.0, fits-unpopped_fields fs h.1)

pub whole-unpopped : (m : MessageData) → IsWhole m → IsWhole (unpopped m)
whole-unpopped m h =
    (message-unpopped m h.0, subst FitsFields (sym (nested-unpopped_fields m.fields)) (fits-unpopped_fields (nested_fields m.fields) h.1))

pub is_unpopped : (m : MessageData) → IsUnpopped (unpopped m)
is_unpopped m = (refl, subst AreUnpoppedFields (sym (nested-unpopped_fields m.fields)) (are_unpopped_fields (nested_fields m.fields)))
