-- What a command does to the elements of a property, what it answers, and why it is refused.
use Rattle.std.specs.Prelude.{◌≡◌, ◌≢◌, ℕ, pos, ◌==◌, ◌||◌, Bool, true, false, if◌then◌else◌, List, [], ◌∷◌, length, map, codes, Option, None, Some, Result, Ok, Err}
use Rattle.ak_base.specs.Code.{code_of}
use Rattle.ak_message.specs.declared.kind.Kind.{Kind}
use Rattle.ak_message.specs.declared.kind.Kind.TheVariants as k
use Rattle.ak_message.specs.declared.fault.FindFault.{FindFault}
use Rattle.ak_message.specs.declared.fault.FindFault.TheVariants as missing
use Rattle.ak_message.specs.declared.specifier.At.{At}
use Rattle.ak_message.specs.declared.specifier.At.TheVariants as at
use Rattle.ak_message.specs.Message.{ValueData, FieldData, MessageData, text_value, int32_value}
use Rattle.ak_message.specs.Fields.{field_named, found_in}
use Rattle.ak_value.specs.declared.fault.ElementFault.{ElementFault}
use Rattle.ak_value.specs.declared.fault.ElementFault.TheVariants as fault
use Rattle.ak_value.specs.Elements.{ElementData, ElementsData, with_last}
pub use Rattle.ak_value.specs.Elements.{has_room}
use Rattle.ak_value.specs.Choice.{Part, part_of, elements_in, with_part, chosen}

-- the elements after a command, and the values that it answers, if it answers any
pub record Accessed : Type 0 where
  pub elements : ElementsData
  pub values : Option (List ValueData)

-- ---- what is read of the command's message
-- the first value of the field `data`, of that kind
abbrev pub data_found : Result ValueData FindFault → Result ValueData ElementFault
data_found (Ok value) = Ok value
data_found (Err missing.NameNotFound) = Err fault.BadValue
data_found (Err missing.BadType) = Err fault.BadType
-- no field is without a value
data_found (Err missing.BadIndex) = Err fault.BadValue

abbrev pub data_of : Kind → MessageData → Result ValueData ElementFault
data_of kind m = data_found (found_in m.fields (codes "data") kind 0)

abbrev name_found : Result ValueData FindFault → List ℕ
name_found (Ok (text_value name)) = name
name_found _ = []

-- the name of a new element: that of the form, else the first text of the field `name`, else the empty one
abbrev pub name_of : At → MessageData → List ℕ
name_of (at.Name name) m = name
name_of _ m = name_found (found_in m.fields (codes "name") k.Text 0)

-- ---- the forms that a command takes
abbrev pub is_direct : At → Bool
is_direct at.Direct = true
is_direct _ = false

abbrev pub is_name : At → Bool
is_name (at.Name _) = true
is_name _ = false

abbrev pub gets : ℕ → Bool
gets what = what == code_of (codes "PGET")

abbrev pub sets : ℕ → Bool
sets what = what == code_of (codes "PSET")

abbrev pub counts : ℕ → Bool
counts what = what == code_of (codes "PCNT")

abbrev pub creates : ℕ → Bool
creates what = what == code_of (codes "PCRT")

abbrev pub deletes : ℕ → Bool
deletes what = what == code_of (codes "PDEL")

abbrev pub has_form : ℕ → At → Bool
has_form what at =
    if gets what then true
    else if sets what then true
    else if counts what then is_direct at
    else if creates what then is_direct at || is_name at
    else if deletes what then (if is_direct at then false else true)
    else false

-- ---- what a command does
abbrev answered : ElementsData → List ValueData → Accessed
answered e values = record { elements = e; values = Some values }

abbrev changed : ElementsData → List ElementData → Accessed
changed e list = record { elements = record e { list = list }; values = None }

abbrev pub with_value : ValueData → ElementData → ElementData
with_value value x = record x { value = value }

-- the values of the chosen ones
abbrev pub get : ElementsData → Part → Accessed
get e p = answered e (map (λ x. x.value) (elements_in p e.list))

-- each chosen one gets the value
abbrev pub set : ElementsData → Part → ValueData → Accessed
set e p value = changed e (with_part p e.list (map (with_value value) (elements_in p e.list)))

-- the chosen ones are gone
abbrev pub delete : ElementsData → Part → Accessed
delete e p = changed e (with_part p e.list [])

-- how many there are
abbrev pub count : ElementsData → Accessed
count e = answered e (int32_value (pos (length e.list)) ∷ [])

-- a new last one, with the next id, which is answered
abbrev pub create : ElementsData → List ℕ → ValueData → Accessed
create e name value = record { elements = with_last e name value; values = Some (int32_value (pos e.next_id) ∷ []) }

-- what is made of it, unless it is refused
abbrev pub then_do : {A B : Type 0} → Result A ElementFault → (A → Result B ElementFault) → Result B ElementFault
then_do (Ok x) f = f x
then_do (Err e) f = Err e

-- a command on the chosen ones
abbrev pub on_chosen : ElementsData → At → (Part → Accessed) → Result Accessed ElementFault
on_chosen e at f = then_do (chosen e.list at) (λ p. Ok (f p))

-- a command on the chosen ones with the value of the message
abbrev pub set_chosen : ElementsData → At → MessageData → Result Accessed ElementFault
set_chosen e at m = then_do (data_of e.kind m) (λ value. on_chosen e at (λ p. set e p value))

-- a new one with the value of the message, where there is room
abbrev pub create_last : ElementsData → At → MessageData → Result Accessed ElementFault
create_last e at m =
    then_do (data_of e.kind m) (λ value. if has_room e then Ok (create e (name_of at m) value) else Err fault.ElementLimit)

-- each command: first its value, where it needs one, then the choice, and then the limit
abbrev pub carried_out : ElementsData → ℕ → At → MessageData → Result Accessed ElementFault
carried_out e what at m =
    if gets what then on_chosen e at (get e)
    else if sets what then set_chosen e at m
    else if counts what then Ok (count e)
    else if creates what then create_last e at m
    else on_chosen e at (delete e)

abbrev pub access_of : ElementsData → ℕ → At → MessageData → Result Accessed ElementFault
access_of e what at m = if has_form what at then carried_out e what at m else Err fault.BadScript

-- ---- when each refusal comes, in the order of testing
abbrev pub needs_data : ℕ → Bool
needs_data what = sets what || creates what

abbrev pub chooses : ℕ → Bool
chooses what = gets what || (sets what || deletes what)

abbrev pub data_field : MessageData → Option FieldData
data_field m = field_named m.fields (codes "data")

-- where the command needs a value, the message has the field `data` of the elements' kind
abbrev pub HasData : Kind → ℕ → MessageData → Type 0
HasData kind what m = needs_data what ≡ true → (f : FieldData) × (data_field m ≡ Some f) × (f.kind ≡ kind)

-- the refusal comes where this holds, and nowhere else
abbrev pub Refuses : ElementFault → ElementsData → ℕ → At → MessageData → Type 0
Refuses fault.BadScript e what at m = has_form what at ≡ false
Refuses fault.BadValue e what at m = (has_form what at ≡ true) × (needs_data what ≡ true) × (data_field m ≡ None)
Refuses fault.BadType e what at m =
    (has_form what at ≡ true) × (needs_data what ≡ true) × ((f : FieldData) × (data_field m ≡ Some f) × (f.kind ≢ e.kind))
Refuses fault.NameNotFound e what at m =
    (has_form what at ≡ true) × HasData e.kind what m × (chooses what ≡ true) × (is_name at ≡ true) × (part_of e.list at ≡ None)
Refuses fault.BadIndex e what at m =
    (has_form what at ≡ true) × HasData e.kind what m × (chooses what ≡ true) × (is_name at ≡ false) × (part_of e.list at ≡ None)
Refuses fault.ElementLimit e what at m =
    (has_form what at ≡ true) × HasData e.kind what m × (creates what ≡ true) × (has_room e ≡ false)
Refuses fault.NoMemory e what at m = ⊥
