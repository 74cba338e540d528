-- What a port holds: a message as its flat text, for whom it is, and what is owed to its sender.
use Rattle.std.specs.Prelude.{◌≡◌, ℕ, ◌≤◌, Bool, nat_lt, if◌then◌else◌, List, [], Option, None, Some, Result, Ok, Err, refl}
use Rattle.std.specs.Coded.{Coded, code_by, coded×, coded_list, coded_option, coded_bool, coded_ℕ}
use Rattle.ak_message.specs.declared.address.Address.{Address}
use Rattle.ak_message.specs.declared.address.Target.{Target}
use Rattle.ak_message.specs.declared.address.Target.TheVariants as target
use Rattle.ak_message.specs.Message.{MessageData}
use Rattle.ak_message.specs.Fields.{specifier_count}
use Rattle.ak_flatten.specs.declared.fault.FlatFault.{FlatFault}
use Rattle.ak_flatten.specs.declared.fault.ItemFault.{ItemFault}
use Rattle.ak_flatten.specs.declared.fault.ItemFault.TheVariants as fault
use Rattle.ak_flatten.specs.declared.fault.UnflattenFault.{UnflattenFault}
use Rattle.ak_flatten.specs.declared.fault.UnflattenFault.TheVariants as unread
use Rattle.ak_flatten.specs.declared.item.Duty.{Duty}
use Rattle.ak_flatten.specs.declared.item.Duty.TheVariants as duty
use Rattle.ak_flatten.specs.Laws.{first_fault}
use Rattle.ak_flatten.specs.Reading.{read_message}

pub record ItemData : Type 0 where
  pub target : Target
  -- the sender's
  pub team : ℕ
  pub dropped : Bool
  pub duty : Duty
  -- how many of the message's specifiers are popped, counted from the last
  pub popped : ℕ
  pub flat : List ℕ

abbrev pub message_or_empty : Result MessageData FlatFault → MessageData
message_or_empty (Ok m) = m
message_or_empty (Err _) = record { what = 0; fields = []; popped = 0 }

-- the message that the bytes spell; an empty one where they spell none
abbrev pub spelled : List ℕ → MessageData
spelled bytes = message_or_empty (read_message bytes)

-- the message of an item
abbrev pub message_of : ItemData → MessageData
message_of item = record (spelled item.flat) { popped = item.popped }

-- the bytes spell a message, and no more of its specifiers are popped than it has
pub record IsItem (item : ItemData) : Type 0 where
  pub spells : first_fault item.flat ≡ None
  pub popped_within : item.popped ≤ specifier_count (spelled item.flat).fields

-- ---- why bytes and a number of popped specifiers make no item
abbrev pub popped_fault : ℕ → ℕ → Option ItemFault
popped_fault specifiers popped = if nat_lt specifiers popped then Some fault.Popped else None

abbrev pub fault_behind : Option FlatFault → Option ItemFault → Option ItemFault
fault_behind (Some f) _ = Some (fault.Bad f)
fault_behind None next = next

-- the bytes are tested first
abbrev pub item_fault : List ℕ → ℕ → Option ItemFault
item_fault flat popped = fault_behind (first_fault flat) (popped_fault (specifier_count (spelled flat).fields) popped)

-- an answer's fault is that one, unless memory ran out
abbrev pub IsItemFault : List ℕ → ℕ → ItemFault → Type 0
IsItemFault flat popped fault.NoMemory = Unit {0}
IsItemFault flat popped fault.Popped = item_fault flat popped ≡ Some fault.Popped
IsItemFault flat popped (fault.Bad f) = item_fault flat popped ≡ Some (fault.Bad f)

-- the fault of a reader as that of an item
abbrev pub unread_fault : UnflattenFault → ItemFault
unread_fault (unread.Bad f) = fault.Bad f
unread_fault unread.NoMemory = fault.NoMemory

-- ---- an item is stored as its parts are
abbrev token_of : Target → Option ℕ
token_of target.Preferred = None
token_of (target.Token n) = Some n

abbrev target_of : Option ℕ → Target
target_of None = target.Preferred
target_of (Some n) = target.Token n

pub target_of-token : (t : Target) → target_of (token_of t) ≡ t
target_of-token target.Preferred = refl
target_of-token (target.Token n) = refl

abbrev coded_target : Coded Target
coded_target = code_by (Option ℕ) (coded_option coded_ℕ) token_of target_of target_of-token

abbrev coded_address : Coded Address
coded_address =
    code_by (ℕ × Target) (coded× coded_ℕ coded_target) (λ a. (a.looper, a.target)) (λ p. record { looper = p.0; target = p.1 })
    (λ _. refl)

-- a slot, or an address, or neither
abbrev Owed : Type 0
Owed = Option ℕ × Option Address

abbrev owed : Duty → Owed
owed duty.None = (None, None)
owed (duty.Slot n) = (Some n, None)
owed (duty.Back a) = (None, Some a)

abbrev duty_to : Option ℕ → Option Address → Duty
duty_to (Some n) _ = duty.Slot n
duty_to None (Some a) = duty.Back a
duty_to None None = duty.None

pub duty_to-owed : (d : Duty) → duty_to (owed d).0 (owed d).1 ≡ d
duty_to-owed duty.None = refl
duty_to-owed (duty.Slot n) = refl
duty_to-owed (duty.Back a) = refl

abbrev coded_duty : Coded Duty
coded_duty =
    code_by Owed (coded× (coded_option coded_ℕ) (coded_option coded_address)) owed (λ p. duty_to p.0 p.1) duty_to-owed

abbrev pub coded_item : Coded ItemData
coded_item =
    code_by (Target × (ℕ × (Bool × (Duty × (ℕ × List ℕ)))))
    (coded× coded_target (coded× coded_ℕ (coded× coded_bool (coded× coded_duty (coded× coded_ℕ (coded_list coded_ℕ))))))
    (λ i. (i.target, (i.team, (i.dropped, (i.duty, (i.popped, i.flat))))))
    (λ p. record { target = p.0; team = p.1.0; dropped = p.1.1.0; duty = p.1.1.1.0; popped = p.1.1.1.1.0; flat = p.1.1.1.1.1 })
    (λ _. refl)
