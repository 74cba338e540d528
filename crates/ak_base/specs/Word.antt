-- Names: 1 to 64 bytes, each a letter, a digit or one of _ - . : /
use Rattle.std.specs.Prelude.{ℕ, Bool, ◌&&◌, ◌||◌, ◌==◌, nat_lt, nat_le, List, length}
use Rattle.std.specs.List.{list_all}
use Rattle.ak_base.specs.Limits.{word_limit}

abbrev is_between : ℕ → ℕ → ℕ → Bool
is_between low high b = nat_le low b && nat_le b high

-- a letter, a digit or one of _ - . : /
abbrev pub is_word_byte : ℕ → Bool
is_word_byte b =
    is_between 97 122 b || is_between 65 90 b || is_between 48 57 b || b == 95 || b == 45 || b == 46 || b == 58 || b == 47

abbrev pub is_word : List ℕ → Bool
is_word bytes = nat_lt 0 (length bytes) && nat_le (length bytes) word_limit && list_all is_word_byte bytes
