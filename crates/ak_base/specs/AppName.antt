-- The forms of what an application is named by: its path, its signature, and the last part of the path.
use Rattle.std.specs.Prelude.{ℕ, Bool, not, ◌&&◌, ◌==◌, nat_lt, if◌then◌else◌, List, [], ◌∷◌, length, codes}
use Rattle.std.specs.List.{starts_with, ends_with, list_any}
use Rattle.ak_base.specs.Word.{is_word}

abbrev pub begins_with : List ℕ → List ℕ → Bool
begins_with front bytes = starts_with ◌==◌ bytes front

-- a path begins with `/` and doesn't end with it
abbrev pub is_path : List ℕ → Bool
is_path bytes = is_word bytes && begins_with (codes "/") bytes && not (ends_with ◌==◌ bytes (codes "/"))

-- a signature begins with `application/` and goes on
abbrev pub is_signature : List ℕ → Bool
is_signature bytes = is_word bytes && begins_with (codes "application/") bytes && nat_lt 12 (length bytes)

abbrev pub is_slash : ℕ → Bool
is_slash byte = byte == 47

-- what stands after the last slash of a path, or all of it where it has none
abbrev pub last_part : List ℕ → List ℕ
last_part [] = []
last_part (byte ∷ rest) =
    if list_any is_slash rest then last_part rest else if is_slash byte then rest else byte ∷ rest
