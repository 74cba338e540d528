-- What bytes are a text.
use Rattle.std.specs.Prelude.{ℕ, ◌≤◌, List, length, Contains, IsUtf8, slice_index, ◌<◌}
use Rattle.ak_base.specs.Limits.{text_limit, raw_limit}

-- at most 1,024 bytes, none of them zero
abbrev pub IsTextBytes : List ℕ → Type 0
IsTextBytes bytes = (length bytes ≤ text_limit) × ¬ (Contains bytes 0)

-- and UTF-8
abbrev pub IsText : List ℕ → Type 0
IsText bytes = IsTextBytes bytes × IsUtf8 bytes

-- a raw value: at most 1,024 bytes of any kind
abbrev pub IsRaw : List ℕ → Type 0
IsRaw bytes = (length bytes ≤ raw_limit) × ((i : ℕ) → slice_index bytes i < 256)
