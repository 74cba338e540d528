-- What holds of all specifiers.
use Rattle.std.specs.Prelude.{◌≡◌, ◌≢◌, ◌≤◌, ◌↔◌, ◌+◌, ℕ, Some, None}
use Rattle.ak_message.specs.Fields.{specifier_count}
use Rattle.ak_message.specs.declared.specifier.Specifier.{Specifier}
use Rattle.ak_message.specs.Message.{MessageData}
use Rattle.ak_specifier.specs.Specifier.{Shows, specifier_message, specifier_in}
use Rattle.ak_specifier.specs.Current.{left_of, popped_once, current_of, specifier_fault, with_specifier}

-- a specifier is read exactly where the message shows it; so a message shows at most one
abbrev pub ReadAsShown : Type 0
ReadAsShown = (m : MessageData) (s : Specifier) → (specifier_in m ≡ Some s) ↔ Shows m s

-- what is written shows the specifier, and is read as it
abbrev pub WrittenIsRead : Type 0
WrittenIsRead = (s : Specifier) → Shows (specifier_message s) s × (specifier_in (specifier_message s) ≡ Some s)

-- where nothing speaks against it, an added specifier is the current one
abbrev pub AddedIsCurrent : Type 0
AddedIsCurrent = (m : MessageData) (s : Specifier) → specifier_fault m ≡ None → current_of (with_specifier m s) ≡ Some s

-- a pop leaves one less
abbrev pub PopLeavesOneLess : Type 0
PopLeavesOneLess = (m : MessageData) → left_of m ≢ 0 → left_of m ≡ left_of (popped_once m) + 1

-- with an added specifier popped, and so many before it, that one is current which was with so many popped
abbrev pub PopShowsTheOneBefore : Type 0
PopShowsTheOneBefore =
    (m : MessageData) (s : Specifier) (n : ℕ) → specifier_fault m ≡ None → n ≤ specifier_count m.fields
    → current_of (record (with_specifier m s) { popped = n + 1 }) ≡ current_of (record m { popped = n })
