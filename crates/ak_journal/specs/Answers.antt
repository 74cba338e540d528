-- When an answer is the one that reading gives: unless memory ran out it always is.
use Rattle.std.specs.Prelude.{◌≡◌, Option, Some, None, Result, Ok, Err}
use Rattle.ak_journal.specs.declared.reading.fault.Unread.{Unread}
use Rattle.ak_journal.specs.declared.reading.fault.Unread.TheVariants as unread

abbrev pub Fails : {Y : Type 0} → Unread → Option Y → Type 0
Fails unread.NoEntry read = read ≡ None
Fails unread.NoMemory read = Unit {0}

-- the answer, seen by the view, is what reading gives
abbrev pub Gives : {X Y : Type 0} → (X → Y) → Result X Unread → Option Y → Type 0
Gives view (Ok x) read = read ≡ Some (view x)
Gives view (Err e) read = Fails e read
