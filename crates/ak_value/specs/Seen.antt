-- What contracts see of elements as the code holds them, and of an answer.
use Rattle.std.specs.Prelude.{List, ℕ, map, Option, option_map}
use Rattle.ak_message.specs.declared.message.Value.{Value}
use Rattle.ak_message.specs.Message.{ValueData}
use Rattle.ak_message.specs.Seen.{value_of}
use Rattle.ak_value.specs.declared.elements.Element.{Element}
use Rattle.ak_value.specs.declared.elements.Elements.TheInside.{Inside}
use Rattle.ak_value.specs.declared.choice.Part as code
use Rattle.ak_value.specs.Choice as choice
use Rattle.ak_value.specs.Elements.{ElementData, ElementsData, IsElements}

abbrev pub element_of : Element → ElementData
element_of e = record { name = e.name; id = e.id; value = value_of e.value }

abbrev pub elements_of_list : List Element → List ElementData
elements_of_list es = map element_of es

abbrev pub elements_inside : Inside → ElementsData
elements_inside e = record { kind = e.kind; list = elements_of_list e.list.items; next_id = e.next_id }

abbrev pub IsSound : Inside → Type 0
IsSound e = IsElements (elements_inside e)

-- described elements: a name and a value
abbrev pub pairs_of : List (List ℕ × Value) → List (List ℕ × ValueData)
pairs_of xs = map (λ x. (x.0, value_of x.1)) xs

abbrev pub answer_of : Option (List Value) → Option (List ValueData)
answer_of values = option_map (map value_of) values

abbrev pub part_seen : code.Part → choice.Part
part_seen p = record { from = p.from; count = p.count }
