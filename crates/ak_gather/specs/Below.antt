-- Who has had seats at what all threads share.
use Rattle.std.specs.Prelude.{◌≡◌, ◌⊎◌, ℕ, ◌<◌, List, All, Option, None, Some}
use Rattle.ak_base.specs.Thread.{looper_thread, main_thread}
use Rattle.ak_headline.specs.Run.{IsSession}

-- main, one of so many sessions, or a looper with a number below that one
abbrev pub IsBelow : ℕ → ℕ → ℕ → Type 0
IsBelow sessions next thread = (thread ≡ main_thread) ⊎ (IsSession sessions thread ⊎ ((looper : ℕ) × (looper < next) × (thread ≡ looper_thread looper)))

-- the head, of which all names are such threads
abbrev pub AreBelow : ℕ → ℕ → Option (List ℕ) → Type 0
AreBelow sessions next None = ⊥
AreBelow sessions next (Some names) = All (IsBelow sessions next) names
