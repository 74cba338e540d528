-- What a field of a message is given, or a property is set to: values of one kind.
use Rattle.std.specs.Prelude.{◌≡◌, ◌<◌, ◌≤◌, ◌++◌, Bool, nat_lt, if◌then◌else◌, List, [], ◌∷◌, length, map, drop, All, Option, None, Some, refl}
use Rattle.std.specs.Coded.{Coded, code_by, coded×, coded_list}
use Rattle.ak_message.specs.declared.kind.Kind.{Kind}
use Rattle.ak_message.specs.Kind.{is_same_kind, coded_kind}
use Rattle.ak_message.specs.Message.{ValueData, kind_of, depth_of_value}
use Rattle.ak_message.specs.MessageCode.{coded_value}
use Rattle.ak_message.specs.Seen.{value_of}
use Rattle.ak_message.specs.Limits.{value_limit, depth_limit}
use Rattle.ak_action.specs.declared.values.Values.TheInside.{Inside}
use Rattle.ak_action.specs.declared.values.ValuesFault.{ValuesFault}
use Rattle.ak_action.specs.declared.values.ValuesFault.TheVariants as fault

pub record ValuesData : Type 0 where
  pub kind : Kind
  pub list : List ValueData

-- one or more, at most 255, all of the kind; each behind the first may stand in a message, and so may the first unless it was taken
-- as one that is set
pub record AreValues (v : ValuesData) : Type 0 where
  pub filled : 1 ≤ length v.list
  pub limit : length v.list ≤ value_limit
  pub same_kind : All (λ x. kind_of x ≡ v.kind) v.list
  pub shallow : All (λ x. depth_of_value x < depth_limit) (drop 1 v.list)

abbrev pub one_value : ValueData → ValuesData
one_value x = record { kind = kind_of x; list = x ∷ [] }

abbrev pub with_last : ValuesData → ValueData → ValuesData
with_last v x = record { kind = v.kind; list = v.list ++ x ∷ [] }

-- a message can hold it
abbrev pub is_shallow : ValueData → Bool
is_shallow x = nat_lt (depth_of_value x) depth_limit

-- why a value is not taken
abbrev pub depth_fault : ValueData → Option ValuesFault
depth_fault x = if nat_lt (depth_of_value x) depth_limit then None else Some fault.TooDeep

abbrev pub push_fault : ValuesData → ValueData → Option ValuesFault
push_fault v x =
    if is_same_kind v.kind (kind_of x) then (if nat_lt (length v.list) value_limit then depth_fault x else Some fault.ValueLimit)
    else Some fault.BadType

-- ---- as the code holds them
abbrev pub values_inside : Inside → ValuesData
values_inside v = record { kind = v.kind; list = map value_of v.list.items }

abbrev pub IsSound : Inside → Type 0
IsSound v = AreValues (values_inside v)

abbrev pub coded_values : Coded ValuesData
coded_values = code_by (Kind × List ValueData) (coded× coded_kind (coded_list coded_value)) (λ v. (v.kind, v.list)) (λ p. record { kind = p.0; list = p.1 }) (λ _. refl)
