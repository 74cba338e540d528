-- Which elements a form chooses: a part of the list, by where it begins and how many it has.
use Rattle.std.specs.Prelude.{ℕ, ℤ, pos, negsuc, ◌+◌, ◌-◌, ◌==◌, Bool, false, ◌&&◌, nat_le, if◌then◌else◌, List, ◌++◌, length, take, drop, Option, None, Some, option_map, option_and_then, Result, ok_or}
use Rattle.std.specs.List.{position, slice_range}
use Rattle.std.specs.Str.{bytes_eq}
use Rattle.ak_message.specs.declared.specifier.At.{At}
use Rattle.ak_message.specs.declared.specifier.At.TheVariants as at
use Rattle.ak_value.specs.declared.fault.ElementFault.{ElementFault}
use Rattle.ak_value.specs.declared.fault.ElementFault.TheVariants as fault
use Rattle.ak_value.specs.Elements.{ElementData}

pub record Part : Type 0 where
  pub from : ℕ
  pub count : ℕ

abbrev pub part : ℕ → ℕ → Part
part from count = record { from = from; count = count }

abbrev pub one_at : ℕ → Part
one_at place = part place 1

-- the part, where the test holds
abbrev pub part_if : Bool → Part → Option Part
part_if holds p = if holds then Some p else None

abbrev pub has_id : ℤ → ElementData → Bool
has_id (pos n) e = e.id == n
has_id (negsuc _) e = false

-- a number that is not below zero
abbrev pub whole_of : ℤ → Option ℕ
whole_of (pos n) = Some n
whole_of (negsuc _) = None

-- so many elements from an index on, and from a reverse index on, which counts from the end, where the last element has 1: one or
-- more, and all of them are there
abbrev pub within : ℕ → ℕ → ℕ → Option Part
within len from count = part_if (nat_le 1 count && nat_le (from + count) len) (part from count)

abbrev pub before_end : ℕ → ℕ → ℕ → Option Part
before_end len index count = part_if (nat_le 1 count && (nat_le count index && nat_le index len)) (part (len - index) count)

-- where a number is below zero there is none
abbrev pub with_number : (ℕ → Option Part) → ℤ → Option Part
with_number f n = option_and_then f (whole_of n)

-- of a list: `direct` means its first element, a name and an id the first element that has it
abbrev pub part_of : List ElementData → At → Option Part
part_of list at.Direct = within (length list) 0 1
part_of list (at.Index i) = with_number (λ from. within (length list) from 1) i
part_of list (at.Reverse i) = with_number (λ index. before_end (length list) index 1) i
part_of list (at.Range i n) = with_number (λ from. with_number (within (length list) from) n) i
part_of list (at.ReverseRange i n) = with_number (λ index. with_number (before_end (length list) index) n) i
part_of list (at.Name name) = option_map one_at (position (λ e. bytes_eq e.name name) list)
part_of list (at.Id id) = option_map one_at (position (has_id id) list)

-- the elements of a part, and those before and behind it
abbrev pub elements_in : Part → List ElementData → List ElementData
elements_in p list = slice_range list p.from (p.from + p.count)

abbrev pub with_part : Part → List ElementData → List ElementData → List ElementData
with_part p list new = take p.from list ++ (new ++ drop (p.from + p.count) list)

-- a name that is not there, and every other choice that is not there
abbrev pub choice_fault : At → ElementFault
choice_fault (at.Name _) = fault.NameNotFound
choice_fault _ = fault.BadIndex

abbrev pub chosen : List ElementData → At → Result Part ElementFault
chosen list at = ok_or (part_of list at) (choice_fault at)
