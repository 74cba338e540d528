-- What bytes spell a message, and which laws hold of it.
use Rattle.std.specs.Prelude.{◌≡◌, ℕ, ◌<◌, ◌≤◌, ◌⊎◌, List, length, slice_index, Option, Some}
use Rattle.std.specs.Result.{result_err}
use Rattle.ak_message.specs.Message.{MessageData}
use Rattle.ak_message.specs.Whole.{IsWhole}
use Rattle.ak_flatten.specs.declared.fault.FlatFault.{FlatFault}
use Rattle.ak_flatten.specs.declared.fault.UnflattenFault.{UnflattenFault}
use Rattle.ak_flatten.specs.declared.fault.UnflattenFault.TheVariants as fault
use Rattle.ak_message.specs.Popped.{IsUnpopped, unpopped}
use Rattle.ak_flatten.specs.Reading.{read_message}
use Rattle.ak_flatten.specs.Spelling.{spelling}
use Rattle.ak_flatten.specs.Limits.{flat_limit}

-- the bytes are the flat text of the message
pub record Spells (bytes : List ℕ) (m : MessageData) : Type 0 where
  pub whole : IsWhole m
  pub unpopped : IsUnpopped m
  pub spelled : bytes ≡ spelling m
  pub limit : length bytes ≤ flat_limit

-- the first fault of bytes, none of a flat text
abbrev pub first_fault : List ℕ → Option FlatFault
first_fault bytes = result_err (read_message bytes)

-- an answer's fault is the first one of the bytes, unless memory ran out
abbrev pub IsFirstFault : List ℕ → UnflattenFault → Type 0
IsFirstFault bytes fault.NoMemory = Unit {0}
IsFirstFault bytes (fault.Bad f) = first_fault bytes ≡ Some f

abbrev pub AreBytes : List ℕ → Type 0
AreBytes bytes = (i : ℕ) → slice_index bytes i < 256

-- no bytes spell two messages
abbrev pub OneSpelling : Type 0
OneSpelling = (bytes : List ℕ) (m n : MessageData) → Spells bytes m → Spells bytes n → m ≡ n

-- any bytes spell a message or have a first fault, and never both
abbrev pub SpelledOrFaulty : Type 0
SpelledOrFaulty =
    (bytes : List ℕ)
    → AreBytes bytes
    → (((m : MessageData) × Spells bytes m) ⊎ ((f : FlatFault) × (first_fault bytes ≡ Some f)))
    × ((m : MessageData) (f : FlatFault) → Spells bytes m → first_fault bytes ≡ Some f → ⊥)

-- what is written of a message that is not too long spells the message with nothing popped
abbrev pub WrittenIsRead : Type 0
WrittenIsRead = (m : MessageData) → IsWhole m → length (spelling m) ≤ flat_limit → Spells (spelling m) (unpopped m)
