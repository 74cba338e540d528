-- The table of the flat text, as far as it is numbers: the lengths of its parts and their limits.
use Rattle.std.specs.Prelude.{ℕ, Bool, true, ◌==◌, nat_le, List, codes}
use Rattle.ak_base.specs.Limits.{text_limit, raw_limit}
use Rattle.ak_message.specs.declared.kind.Kind.{Kind}
use Rattle.ak_message.specs.declared.kind.Kind.TheVariants as k

-- what a message begins with
abbrev pub magic : List ℕ
magic = codes "AKM1"

-- whether a value of the kind may have so many bytes
abbrev pub is_length : Kind → ℕ → Bool
is_length k.Bool n = n == 1
is_length k.Int8 n = n == 1
is_length k.Int16 n = n == 2
is_length k.Int32 n = n == 4
is_length k.Int64 n = n == 8
is_length k.UInt8 n = n == 1
is_length k.UInt16 n = n == 2
is_length k.UInt32 n = n == 4
is_length k.UInt64 n = n == 8
is_length k.Text n = nat_le n text_limit
is_length k.Message n = true
is_length k.Messenger n = n == 13
is_length k.Raw n = nat_le n raw_limit
