-- Words of a hey line by themselves.
use Rattle.std.specs.Prelude.{ℕ, Bool, not, ◌&&◌, ◌||◌, if◌then◌else◌, List, codes, Option, Some}
use Rattle.std.specs.Int.{w32, from_be_bytes}
use Rattle.std.specs.Str.{bytes_eq}
use Rattle.ak_base.specs.Word.{is_word}
use Rattle.ak_base.specs.declared.code.Code.{Code}
use Rattle.ak_input.specs.Written.{coded, code_of}

-- ---- the verb
-- the code of four letters
abbrev pub command : List ℕ → Option Code
command letters = Some (coded (from_be_bytes w32 letters))

-- one of the verbs, or else a code
abbrev pub verb_of : List ℕ → Option Code
verb_of word =
    if bytes_eq word (codes "get") then command (codes "PGET")
    else if bytes_eq word (codes "set") then command (codes "PSET")
    else if bytes_eq word (codes "count") then command (codes "PCNT")
    else if bytes_eq word (codes "create") then command (codes "PCRT")
    else if bytes_eq word (codes "delete") then command (codes "PDEL")
    else if bytes_eq word (codes "do") then command (codes "PEXE")
    else if bytes_eq word (codes "getsuites") then command (codes "SUIT")
    else if bytes_eq word (codes "quit") then command (codes "_QRQ")
    else code_of word

-- ---- properties
-- what leads on to something else, so no property
abbrev pub is_key : List ℕ → Bool
is_key word = bytes_eq word (codes "of") || bytes_eq word (codes "to") || bytes_eq word (codes "with") || bytes_eq word (codes "and")

abbrev pub is_property : List ℕ → Bool
is_property word = is_word word && not (is_key word)
