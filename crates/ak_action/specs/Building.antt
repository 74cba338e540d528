-- The message that a template makes, of the handler's properties and the message that is handled.
use Rattle.std.specs.Prelude.{◌≡◌, ℕ, ◌<◌, nat_lt, true, IsTrue, if◌then◌else◌, List, [], ◌∷◌, ◌++◌, length, filter, Option, None, Some, slice_get}
use Rattle.ak_base.specs.Word.{is_word}
use Rattle.ak_message.specs.Fields.{field_named, first_named, added, add_fault}
use Rattle.ak_message.specs.Message.{ValueData, FieldData, MessageData, kind_of, depth_of_value}
use Rattle.ak_message.specs.Limits.{field_limit, depth_limit}
use Rattle.ak_action.specs.declared.row.DeskRow.{DeskRow}
use Rattle.ak_action.specs.declared.template.Given.{Given}
use Rattle.ak_action.specs.declared.template.Given.TheVariants as given
use Rattle.ak_action.specs.declared.template.Template.{Template}
use Rattle.ak_action.specs.declared.template.TemplateField.{TemplateField}
use Rattle.ak_action.specs.Row.{first_of}
use Rattle.ak_action.specs.Values.{is_shallow}

-- the first of the values, if there is one
abbrev pub first_given : DeskRow → MessageData → Given → Option ValueData
first_given row m (given.Values v) = slice_get v.list 0
first_given row m (given.Field name) = first_named m.fields name
first_given row m (given.Property name) = first_of row name

-- a value that is there, and that a message can hold
abbrev pub held : Option ValueData → List ValueData
held None = []
held (Some v) = if nat_lt (depth_of_value v) depth_limit then v ∷ [] else []

-- the values of a field, of which those that no message can hold are left out
abbrev pub given_values : DeskRow → MessageData → Given → List ValueData
given_values row m (given.Values v) = filter is_shallow v.list
given_values row m (given.Field name) = held (first_named m.fields name)
given_values row m (given.Property name) = held (first_of row name)

-- a field of these values, none without a value
abbrev pub field_of_values : List ℕ → List ValueData → List FieldData
field_of_values name [] = []
field_of_values name (v ∷ vs) = (record { name = name; kind = kind_of v; values = v ∷ vs }) ∷ []

abbrev pub built_fields : DeskRow → MessageData → List TemplateField → List FieldData
built_fields row m [] = []
built_fields row m (f ∷ fs) = field_of_values f.name (given_values row m f.given) ++ built_fields row m fs

abbrev pub built : DeskRow → MessageData → Template → MessageData
built row m t = record { what = t.what.0; fields = built_fields row m t.fields; popped = 0 }

-- ---- one field more
-- a field of that name can be added
pub record HasRoomFor (fields : List FieldData) (name : List ℕ) : Type 0 where
  pub word : IsTrue (is_word name)
  pub new : field_named fields name ≡ None
  pub limit : length fields < field_limit

abbrev pub with_new : MessageData → List ℕ → List ValueData → MessageData
with_new m name values = record m { fields = m.fields ++ field_of_values name values }

-- ---- one value more, where a message can hold it
abbrev pub Fits : MessageData → List ℕ → ValueData → Type 0
Fits m name v = is_shallow v ≡ true → add_fault m.fields name v ≡ None

abbrev pub with_held : MessageData → List ℕ → ValueData → MessageData
with_held m name v = if is_shallow v then record m { fields = added m.fields name v } else m
