-- The words of a journal's line that are the same at several objects, and how words make a line.
use Rattle.std.specs.Prelude.{ℕ, ◌-◌, ◌==◌, nat_lt, Bool, true, false, if◌then◌else◌, List, [], ◌∷◌, ◌++◌, codes, Option, Some, None}
use Rattle.std.specs.Fmt.{decimal}
use Rattle.hex.specs.Hex.{encode_lower}
use Rattle.ak_base.specs.Thread.{main_thread, looper_thread}
use Rattle.ak_base.specs.declared.app_word.AppWord.{AppWord}
use Rattle.ak_base.specs.declared.app_word.AppWord.TheVariants as app
use Rattle.ak_flatten.specs.declared.item.Duty.{Duty}
use Rattle.ak_flatten.specs.declared.item.Duty.TheVariants as duty
use Rattle.ak_input.specs.MessageText.{address_text}

-- ---- words make a line
-- each behind a blank
abbrev pub behind_blanks : List (List ℕ) → List ℕ
behind_blanks [] = []
behind_blanks (word ∷ words) = 32 ∷ word ++ behind_blanks words

-- parted by single blanks
abbrev pub joined : List (List ℕ) → List ℕ
joined [] = []
joined (word ∷ words) = word ++ behind_blanks words

-- ---- words
-- `m` for main, `s` and the number for a session, `l` and the number for a looper
abbrev pub thread_text : ℕ → List ℕ
thread_text thread =
    if thread == main_thread then codes "m"
    else if nat_lt thread (looper_thread 0) then codes "s" ++ decimal thread
    else codes "l" ++ decimal (thread - looper_thread 0)

-- how an application was named
abbrev pub word_text : AppWord → List ℕ
word_text (app.Path path) = path
word_text (app.Signature signature) = signature
word_text (app.Name name) = name
word_text (app.Team team) = decimal team

-- a flat text, in lower case hexadecimal
abbrev pub flat_text : List ℕ → List ℕ
flat_text flat = encode_lower flat

-- whether a user dropped the message, or a program sent it
abbrev pub mark_text : Bool → List ℕ
mark_text true = codes "drop"
mark_text false = codes "prog"

-- what is owed to the sender
abbrev pub duty_text : Duty → List ℕ
duty_text duty.None = codes "none"
duty_text (duty.Slot n) = codes "slot:" ++ decimal n
duty_text (duty.Back address) = codes "back:" ++ address_text address

-- a token, or that there is none
abbrev pub token_text : Option ℕ → List ℕ
token_text None = codes "none"
token_text (Some token) = decimal token
