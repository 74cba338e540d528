-- The elements of a property: what contracts see of them, and what is always true of them.
use Rattle.std.specs.Prelude.{◌≡◌, ℕ, ◌+◌, ◌<◌, ◌≤◌, Bool, ◌&&◌, nat_lt, if◌then◌else◌, List, [], ◌∷◌, ◌++◌, length, All, AllPairs, Option, None, Some, refl}
use Rattle.std.specs.Coded.{Coded, code_by, coded×, coded_list, coded_ℕ}
use Rattle.ak_message.specs.declared.kind.Kind.{Kind}
use Rattle.ak_message.specs.Kind.{is_same_kind, coded_kind}
use Rattle.ak_message.specs.Message.{ValueData, kind_of}
use Rattle.ak_message.specs.MessageCode.{coded_value}
use Rattle.ak_value.specs.declared.fault.ElementFault.{ElementFault}
use Rattle.ak_value.specs.declared.fault.ElementFault.TheVariants as fault
use Rattle.ak_value.specs.Limits.{element_limit, id_limit}

pub record ElementData : Type 0 where
  pub name : List ℕ
  pub id : ℕ
  pub value : ValueData

pub record ElementsData : Type 0 where
  pub kind : Kind
  pub list : List ElementData
  -- the id of the next one that is created
  pub next_id : ℕ

-- the ids rise, so they differ, and all are below the next one
abbrev pub IdsRise : List ElementData → ℕ → Type 0
IdsRise list next_id = AllPairs (λ a b. a.id < b.id) list × All (λ e. (1 ≤ e.id) × (e.id < next_id)) list

pub record IsElements (e : ElementsData) : Type 0 where
  pub limit : length e.list ≤ element_limit
  pub same_kind : All (λ x. kind_of x.value ≡ e.kind) e.list
  pub ids : IdsRise e.list e.next_id
  pub next_id : (1 ≤ e.next_id) × (e.next_id ≤ id_limit)

-- numbered in order from an id on
abbrev pub numbered : ℕ → List (List ℕ × ValueData) → List ElementData
numbered id [] = []
numbered id (x ∷ xs) = (record { name = x.0; id = id; value = x.1 }) ∷ numbered (id + 1) xs

-- the described elements have the ids from 1 on
abbrev pub described : Kind → List (List ℕ × ValueData) → ElementsData
described kind xs = record { kind = kind; list = numbered 1 xs; next_id = length xs + 1 }

-- ---- one more element
-- there are fewer than 64 elements, and an id is left
abbrev pub has_room : ElementsData → Bool
has_room e = nat_lt (length e.list) element_limit && nat_lt e.next_id id_limit

-- another kind, and then that there is no room
abbrev pub add_fault : ElementsData → Kind → Option ElementFault
add_fault e kind =
    if is_same_kind e.kind kind then (if has_room e then None else Some fault.ElementLimit) else Some fault.BadType

-- a new last one, with the next id
abbrev pub with_last : ElementsData → List ℕ → ValueData → ElementsData
with_last e name value =
    record e { list = e.list ++ (record { name = name; id = e.next_id; value = value }) ∷ []; next_id = e.next_id + 1 }

-- ---- the first element
abbrev pub first_value : List ElementData → Option ValueData
first_value [] = None
first_value (x ∷ _) = Some x.value

-- another kind, and then that there is none
abbrev pub set_first_fault : ElementsData → Kind → Option ElementFault
set_first_fault e kind =
    if is_same_kind kind e.kind then (if nat_lt 0 (length e.list) then None else Some fault.BadIndex) else Some fault.BadType

abbrev with_first_value : List ElementData → ValueData → List ElementData
with_first_value [] value = []
with_first_value (x ∷ xs) value = (record x { value = value }) ∷ xs

abbrev pub with_first : ElementsData → ValueData → ElementsData
with_first e value = record e { list = with_first_value e.list value }

-- ---- elements are stored as their parts are
abbrev coded_element : Coded ElementData
coded_element =
    code_by (List ℕ × (ℕ × ValueData)) (coded× (coded_list coded_ℕ) (coded× coded_ℕ coded_value)) (λ e. (e.name, (e.id, e.value)))
    (λ p. record { name = p.0; id = p.1.0; value = p.1.1 })
    (λ _. refl)

abbrev pub coded_elements : Coded ElementsData
coded_elements =
    code_by (Kind × (List ElementData × ℕ)) (coded× coded_kind (coded× (coded_list coded_element) coded_ℕ)) (λ e. (e.kind, (e.list, e.next_id)))
    (λ p. record { kind = p.0; list = p.1.0; next_id = p.1.1 })
    (λ _. refl)
