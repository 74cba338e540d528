-- The fields of a message: what an addition makes of them, why one is refused, and what is found.
use Rattle.std.specs.Prelude.{◌≡◌, ◌≢◌, ℕ, ◌^◌, ◌<◌, ◌≤◌, Bool, nat_lt, IsTrue, if◌then◌else◌, List, [], ◌∷◌, ◌++◌, length, codes, find, remove, min, All, AllPairs, Option, None, Some, option_and_then, Result, Ok, Err, ok_or}
use Rattle.std.specs.List.{slice_get, slice_set, cons_option}
use Rattle.std.specs.Str.{bytes_eq}
use Rattle.ak_base.specs.Word.{is_word}
use Rattle.ak_message.specs.declared.kind.Kind.{Kind}
use Rattle.ak_message.specs.declared.kind.Kind.TheVariants as k
use Rattle.ak_message.specs.declared.fault.AddFault.{AddFault}
use Rattle.ak_message.specs.declared.fault.AddFault.TheVariants as add
use Rattle.ak_message.specs.declared.fault.FindFault.{FindFault}
use Rattle.ak_message.specs.declared.fault.FindFault.TheVariants as missing
use Rattle.ak_message.specs.declared.fault.ReplaceFault.{ReplaceFault}
use Rattle.ak_message.specs.declared.fault.ReplaceFault.TheVariants as replace
use Rattle.ak_message.specs.declared.fault.RemoveFault.{RemoveFault}
use Rattle.ak_message.specs.declared.fault.RemoveFault.TheVariants as removal
use Rattle.ak_message.specs.Kind.{is_same_kind}
use Rattle.ak_message.specs.Message.{ValueData, FieldData, MessageData, kind_of, depth_of, depth_of_value}
use Rattle.ak_message.specs.Limits.{field_limit, value_limit, depth_limit}

abbrev pub is_named : List ℕ → FieldData → Bool
is_named name f = bytes_eq f.name name

-- the field of that name
abbrev pub field_named : List FieldData → List ℕ → Option FieldData
field_named fields name = find (is_named name) fields

-- ---- adding
abbrev pub new_field : List ℕ → ValueData → FieldData
new_field name value = record { name = name; kind = kind_of value; values = value ∷ [] }

abbrev pub with_value : FieldData → ValueData → FieldData
with_value f value = record { name = f.name; kind = f.kind; values = f.values ++ value ∷ [] }

-- at the end of the values of the field of that name, or as a new field at the end
abbrev pub added : List FieldData → List ℕ → ValueData → List FieldData
added [] name value = new_field name value ∷ []
added (f ∷ fs) name value = if is_named name f then with_value f value ∷ fs else f ∷ added fs name value

-- of so many fields, with this one of the name
abbrev pub place_fault : ℕ → Option FieldData → Kind → Option AddFault
place_fault count None kind = if nat_lt count field_limit then None else Some add.FieldLimit
place_fault count (Some f) kind =
    if is_same_kind f.kind kind then (if nat_lt (length f.values) value_limit then None else Some add.FieldLimit)
    else Some add.BadType

abbrev pub depth_fault : ValueData → Option AddFault
depth_fault value = if nat_lt (depth_of_value value) depth_limit then None else Some add.TooDeep

-- the first fault, or else the second one
abbrev pub or_fault : Option AddFault → Option AddFault → Option AddFault
or_fault (Some e) _ = Some e
or_fault None e = e

abbrev pub add_fault : List FieldData → List ℕ → ValueData → Option AddFault
add_fault fields name value =
    if is_word name then or_fault (place_fault (length fields) (field_named fields name) (kind_of value)) (depth_fault value)
    else Some add.BadName

-- ---- finding
abbrev pub value_in : Option FieldData → Kind → ℕ → Result ValueData FindFault
value_in None kind index = Err missing.NameNotFound
value_in (Some f) kind index =
    if is_same_kind f.kind kind then ok_or (slice_get f.values index) missing.BadIndex
    else Err missing.BadType

abbrev pub found_in : List FieldData → List ℕ → Kind → ℕ → Result ValueData FindFault
found_in fields name kind index = value_in (field_named fields name) kind index

-- ---- adding and finding
-- how many values that field has
abbrev pub value_count_in : Option FieldData → ℕ
value_count_in None = 0
value_count_in (Some f) = length f.values

abbrev pub value_count : List FieldData → List ℕ → ℕ
value_count fields name = value_count_in (field_named fields name)

-- an added value is found behind those of its name that were there, and no other kind is found by that name; the earlier
-- ones are found as before, and so is all that other names find
pub record IsFoundWhenAdded (fields : List FieldData) (name : List ℕ) (value : ValueData) : Type 0 where
  pub last : found_in (added fields name value) name (kind_of value) (value_count fields name) ≡ Ok value
  pub earlier
      : (index : ℕ) → index < value_count fields name
      → found_in (added fields name value) name (kind_of value) index ≡ found_in fields name (kind_of value) index
  pub other_kinds
      : (kind : Kind) (index : ℕ) → kind ≢ kind_of value
      → found_in (added fields name value) name kind index ≡ Err missing.BadType
  pub others
      : (other : List ℕ) (kind : Kind) (index : ℕ) → other ≢ name
      → found_in (added fields name value) other kind index ≡ found_in fields other kind index

-- where nothing speaks against an addition, the value is found after it
abbrev pub AddedValuesAreFound : Type 0
AddedValuesAreFound =
    (fields : List FieldData) (name : List ℕ) (value : ValueData) → add_fault fields name value ≡ None → IsFoundWhenAdded fields name value

-- ---- changing
-- the first field of that name becomes what `change` makes of it, or is gone where that is none
abbrev pub changed : (FieldData → Option FieldData) → List FieldData → List ℕ → List FieldData
changed change [] name = []
changed change (f ∷ fs) name =
    if is_named name f then cons_option (change f) fs else f ∷ changed change fs name

abbrev pub with_values : FieldData → List ValueData → FieldData
with_values f values = record { name = f.name; kind = f.kind; values = values }

-- the value at that place of the field of that name is another one
abbrev pub replaced : List FieldData → List ℕ → ℕ → ValueData → List FieldData
replaced fields name index value = changed (λ f. Some (with_values f (slice_set f.values index value))) fields name

abbrev pub replace_fault_in : Option FieldData → ℕ → ValueData → Option ReplaceFault
replace_fault_in None index value = Some replace.NameNotFound
replace_fault_in (Some f) index value =
    if is_same_kind f.kind (kind_of value) then
    (if nat_lt index (length f.values) then (if nat_lt (depth_of_value value) depth_limit then None else Some replace.TooDeep)
    else Some replace.BadIndex)
    else Some replace.BadType

abbrev pub replace_fault : List FieldData → List ℕ → ℕ → ValueData → Option ReplaceFault
replace_fault fields name index value = replace_fault_in (field_named fields name) index value

-- ---- removing
-- a field without values is none
abbrev pub field_with : FieldData → List ValueData → Option FieldData
field_with f [] = None
field_with f (v ∷ vs) = Some (with_values f (v ∷ vs))

-- the value at that place of the field of that name is gone, and with the last value the field
abbrev pub removed_data : List FieldData → List ℕ → ℕ → List FieldData
removed_data fields name index = changed (λ f. field_with f (remove f.values index)) fields name

abbrev pub removed_name : List FieldData → List ℕ → List FieldData
removed_name fields name = changed (λ _. None) fields name

abbrev pub value_at : Option FieldData → ℕ → Option ValueData
value_at o index = option_and_then (λ (f : FieldData). slice_get f.values index) o

-- the first value of the field of that name
abbrev pub first_named : List FieldData → List ℕ → Option ValueData
first_named fields name = value_at (field_named fields name) 0

abbrev pub remove_fault_in : Option FieldData → ℕ → Option RemoveFault
remove_fault_in None index = Some removal.NameNotFound
remove_fault_in (Some f) index = if nat_lt index (length f.values) then None else Some removal.BadIndex

-- of a value
abbrev pub remove_fault : List FieldData → List ℕ → ℕ → Option RemoveFault
remove_fault fields name index = remove_fault_in (field_named fields name) index

abbrev pub name_fault_in : Option FieldData → Option RemoveFault
name_fault_in None = Some removal.NameNotFound
name_fault_in (Some _) = None

-- of a whole field
abbrev pub name_fault : List FieldData → List ℕ → Option RemoveFault
name_fault fields name = name_fault_in (field_named fields name)

-- ---- what is true of every message
pub record IsField (f : FieldData) : Type 0 where
  pub word : IsTrue (is_word f.name)
  pub filled : 0 < length f.values
  pub limit : length f.values ≤ value_limit
  pub same_kind : All (λ v. kind_of v ≡ f.kind) f.values

-- how many values stand in the field `specifiers` of messages
abbrev pub specifier_count_in : Option FieldData → ℕ
specifier_count_in None = 0
specifier_count_in (Some f) = if is_same_kind f.kind k.Message then length f.values else 0

abbrev pub specifier_count : List FieldData → ℕ
specifier_count fields = specifier_count_in (field_named fields (codes "specifiers"))

pub record IsMessage (m : MessageData) : Type 0 where
  pub code : m.what < 2 ^ 32
  pub every_field : All IsField m.fields
  pub names_differ : AllPairs (λ f g. f.name ≢ g.name) m.fields
  pub limit : length m.fields ≤ field_limit
  pub popped_within : m.popped ≤ specifier_count m.fields
  pub depth_within : depth_of m ≤ depth_limit

-- the message with the fields that are left: no more specifiers are popped than there are
abbrev pub with_fields_left : MessageData → List FieldData → MessageData
with_fields_left m fields = record m { fields = fields; popped = min m.popped (specifier_count fields) }
