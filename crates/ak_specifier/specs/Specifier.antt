-- A specifier as a message: what is written, what shows one, and what is read.
use Rattle.std.specs.Prelude.{◌≡◌, ℕ, ℤ, ◌==◌, if◌then◌else◌, List, [], ◌∷◌, codes, Option, Some, None, option_map, option_and_then, Result, Ok}
use Rattle.ak_message.specs.declared.kind.Kind.TheVariants as k
use Rattle.ak_message.specs.declared.fault.FindFault.{FindFault}
use Rattle.ak_message.specs.declared.specifier.At.{At}
use Rattle.ak_message.specs.declared.specifier.At.TheVariants as at
use Rattle.ak_message.specs.declared.specifier.Specifier.{Specifier}
use Rattle.ak_message.specs.Message.{ValueData, FieldData, MessageData, int32_value, text_value}
use Rattle.ak_message.specs.Fields.{new_field, found_in}
use Rattle.ak_message.specs.Specifier.{form_of}

-- ---- what is written
abbrev number_field : List ℕ → ℤ → FieldData
number_field name n = new_field name (int32_value n)

abbrev text_field : List ℕ → List ℕ → FieldData
text_field name text = new_field name (text_value text)

abbrev pub fields_of_form : At → List FieldData
fields_of_form at.Direct = []
fields_of_form (at.Index i) = number_field (codes "index") i ∷ []
fields_of_form (at.Reverse i) = number_field (codes "index") i ∷ []
fields_of_form (at.Range i count) = number_field (codes "index") i ∷ number_field (codes "range") count ∷ []
fields_of_form (at.ReverseRange i count) = number_field (codes "index") i ∷ number_field (codes "range") count ∷ []
fields_of_form (at.Name name) = text_field (codes "name") name ∷ []
fields_of_form (at.Id id) = number_field (codes "id") id ∷ []

-- its code is the number of its form
abbrev pub specifier_message : Specifier → MessageData
specifier_message s =
    record { what = form_of s.at; fields = text_field (codes "property") s.property ∷ fields_of_form s.at; popped = 0 }

-- ---- what shows a specifier: of each field the first value counts, and other fields do not matter
abbrev pub HasNumber : List FieldData → List ℕ → ℤ → Type 0
HasNumber fields name n = found_in fields name k.Int32 0 ≡ Ok (int32_value n)

abbrev pub HasText : List FieldData → List ℕ → List ℕ → Type 0
HasText fields name text = found_in fields name k.Text 0 ≡ Ok (text_value text)

abbrev pub ShowsForm : List FieldData → At → Type 0
ShowsForm fields at.Direct = Unit {0}
ShowsForm fields (at.Index i) = HasNumber fields (codes "index") i
ShowsForm fields (at.Reverse i) = HasNumber fields (codes "index") i
ShowsForm fields (at.Range i count) = HasNumber fields (codes "index") i × HasNumber fields (codes "range") count
ShowsForm fields (at.ReverseRange i count) = HasNumber fields (codes "index") i × HasNumber fields (codes "range") count
ShowsForm fields (at.Name name) = HasText fields (codes "name") name
ShowsForm fields (at.Id id) = HasNumber fields (codes "id") id

pub record Shows (m : MessageData) (s : Specifier) : Type 0 where
  pub form : m.what ≡ form_of s.at
  pub property : HasText m.fields (codes "property") s.property
  pub at : ShowsForm m.fields s.at

-- ---- what is read
abbrev pub number_of : Result ValueData FindFault → Option ℤ
number_of (Ok (int32_value n)) = Some n
number_of _ = None

abbrev pub text_of : Result ValueData FindFault → Option (List ℕ)
text_of (Ok (text_value text)) = Some text
text_of _ = None

abbrev pub number_in : List FieldData → List ℕ → Option ℤ
number_in fields name = number_of (found_in fields name k.Int32 0)

abbrev pub text_in : List FieldData → List ℕ → Option (List ℕ)
text_in fields name = text_of (found_in fields name k.Text 0)

abbrev pub range_in : (ℤ → ℤ → At) → List FieldData → Option At
range_in form fields =
    option_and_then (λ i. option_map (λ count. form i count) (number_in fields (codes "range"))) (number_in fields (codes "index"))

abbrev pub at_in : ℕ → List FieldData → Option At
at_in form fields =
    if form == 1 then Some at.Direct
    else if form == 2 then option_map at.Index (number_in fields (codes "index"))
    else if form == 3 then option_map at.Reverse (number_in fields (codes "index"))
    else if form == 4 then range_in at.Range fields
    else if form == 5 then range_in at.ReverseRange fields
    else if form == 6 then option_map at.Name (text_in fields (codes "name"))
    else if form == 7 then option_map at.Id (number_in fields (codes "id"))
    else None

abbrev pub specifier_in : MessageData → Option Specifier
specifier_in m =
    option_and_then (λ property. option_map (λ at. record { property = property; at = at }) (at_in m.what m.fields))
    (text_in m.fields (codes "property"))
