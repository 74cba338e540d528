-- What holds of all elements and commands.
use Rattle.std.specs.Prelude.{◌≡◌, ◌↔◌, ℕ, ℤ, suc, pos, negsuc, ◌+◌, ◌<◌, ◌≤◌, List, [], ◌∷◌, length, map, reverse, Contains, Option, None, Some, option_map, Result, Ok, Err}
use Rattle.ak_message.specs.declared.specifier.At.{At}
use Rattle.ak_message.specs.declared.specifier.At.TheVariants as at
use Rattle.ak_message.specs.Message.{MessageData}
use Rattle.ak_message.specs.Fields.{IsMessage}
use Rattle.ak_value.specs.declared.fault.ElementFault.{ElementFault}
use Rattle.ak_value.specs.Elements.{ElementData, ElementsData, IdsRise}
use Rattle.ak_value.specs.Choice.{Part, part_of, elements_in}
use Rattle.ak_value.specs.Access.{Accessed, access_of, Refuses}

-- what is chosen lies within the list, and is one element or more
abbrev pub ChosenLieWithin : Type 0
ChosenLieWithin =
    (list : List ElementData) (at : At) (p : Part) → part_of list at ≡ Some p → (1 ≤ p.count) × (p.from + p.count ≤ length list)

-- ---- the reverse forms choose what the forward forms choose on the reversed list
abbrev pub elements_of : List ElementData → At → Option (List ElementData)
elements_of list at = option_map (λ p. elements_in p list) (part_of list at)

abbrev pub ReverseIsForward : Type 0
ReverseIsForward =
    (list : List ElementData) (i : ℕ) → elements_of list (at.Reverse (pos (suc i))) ≡ elements_of (reverse list) (at.Index (pos i))

-- the last of the range stands at the reverse index less the count, plus one, from the end
abbrev pub ReverseRangeIsForward : Type 0
ReverseRangeIsForward =
    (list : List ElementData) (i count : ℕ)
    → elements_of list (at.ReverseRange (pos (i + count)) (pos count))
    ≡ option_map reverse (elements_of (reverse list) (at.Range (pos i) (pos count)))

-- it counts from 1, and no form chooses by an index, a count or an id below zero
abbrev pub CountsFromOne : Type 0
CountsFromOne = (list : List ElementData) → part_of list (at.Reverse (pos 0)) ≡ None

abbrev pub NoneBelowZero : Type 0
NoneBelowZero =
    (list : List ElementData) (i : ℕ) (other : ℤ)
    → (part_of list (at.Index (negsuc i)) ≡ None) × (part_of list (at.Reverse (negsuc i)) ≡ None)
    × (part_of list (at.Range (negsuc i) other) ≡ None) × (part_of list (at.Range other (negsuc i)) ≡ None)
    × (part_of list (at.ReverseRange (negsuc i) other) ≡ None) × (part_of list (at.ReverseRange other (negsuc i)) ≡ None)
    × (part_of list (at.Id (negsuc i)) ≡ None)

-- no reverse range has more elements than there are from its index on
abbrev pub ReverseRangeEnds : Type 0
ReverseRangeEnds = (list : List ElementData) (i count : ℕ) → i < count → part_of list (at.ReverseRange (pos i) (pos count)) ≡ None

-- ---- after any commands
pub record Command : Type 0 where
  pub what : ℕ
  pub at : At
  pub message : MessageData

abbrev pub elements_after : ElementsData → Result Accessed ElementFault → ElementsData
elements_after e (Ok a) = a.elements
elements_after e (Err _) = e

abbrev pub after : ElementsData → List Command → ElementsData
after e [] = e
after e (c ∷ cs) = after (elements_after e (access_of e c.what c.at c.message)) cs

abbrev pub ids_of : ElementsData → List ℕ
ids_of e = map (λ x. x.id) e.list

-- the ids rise from 1 up and are below the next one, which never falls
abbrev pub IdsStayRising : Type 0
IdsStayRising =
    (e : ElementsData) (cs : List Command) → 1 ≤ e.next_id → IdsRise e.list e.next_id
    → (e.next_id ≤ (after e cs).next_id) × IdsRise (after e cs).list (after e cs).next_id

-- an id that was given is that of an element which was there: none is given again
abbrev pub NoIdIsUsedAgain : Type 0
NoIdIsUsedAgain =
    (e : ElementsData) (cs : List Command) (id : ℕ) → id < e.next_id → Contains (ids_of (after e cs)) id → Contains (ids_of e) id

-- ---- each refusal has one cause
abbrev pub OneCause : Type 0
OneCause =
    (e : ElementsData) (what : ℕ) (at : At) (m : MessageData) (f : ElementFault) → IsMessage m
    → (access_of e what at m ≡ Err f) ↔ Refuses f e what at m
