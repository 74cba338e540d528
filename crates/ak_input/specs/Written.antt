-- What a word of a line writes: a number in a range, a code, a text in quotes, a value, or the name of an application.
use Rattle.std.specs.Prelude.{◌≡◌, ℕ, ◌≤◌, Bool, false, not, ◌&&◌, ◌==◌, nat_le, if◌then◌else◌, List, Option, Some, None, is_none, option_map}
use Rattle.std.specs.Fmt.{decimal}
use Rattle.std.specs.List.{list_any}
use Rattle.ak_base.specs.AppName.{is_path, is_signature}
use Rattle.ak_base.specs.Word.{is_word}
use Rattle.ak_base.specs.Option.{where_true, ◌>>=◌}
use Rattle.ak_base.specs.declared.app_word.AppWord.{AppWord}
use Rattle.ak_base.specs.declared.app_word.AppWord.TheVariants as app
use Rattle.ak_base.specs.declared.code.Code.{Code}
use Rattle.ak_base.specs.declared.limited.Limited.{Limited}
use Rattle.ak_base.specs.declared.limited.Limited.TheVariants.{Within, Over}
use Rattle.ak_message.specs.Message.{ValueData, bool_value, int8_value, int16_value, int32_value, int64_value, uint8_value, uint16_value, uint32_value, uint64_value, text_value, message_value, messenger_value, raw_value}
use Rattle.ak_input.specs.Payload.{uint_within}
use Rattle.ak_input.specs.Reading.{Got, code_from, read_value, text_from}

-- ---- numbers
-- the number that a word writes, in this range
abbrev pub number_within : List ℕ → ℕ → ℕ → Option ℕ
number_within word least most = uint_within most word >>= λ n. where_true (nat_le least n) n

-- a number in decimal, in this range
abbrev pub WritesNumber : ℕ → ℕ → List ℕ → ℕ → Type 0
WritesNumber least most word n = (word ≡ decimal n) × (least ≤ n) × (n ≤ most)

-- ---- codes
abbrev pub coded : ℕ → Code
coded n = record { 0 = n }

abbrev pub code_of : List ℕ → Option Code
code_of word = option_map coded (code_from word)

-- ---- texts
abbrev pub text_bytes : ValueData → Option (List ℕ)
text_bytes (text_value bytes) = Some bytes
text_bytes (bool_value _) = None
text_bytes (int8_value _) = None
text_bytes (int16_value _) = None
text_bytes (int32_value _) = None
text_bytes (int64_value _) = None
text_bytes (uint8_value _) = None
text_bytes (uint16_value _) = None
text_bytes (uint32_value _) = None
text_bytes (uint64_value _) = None
text_bytes (message_value _ _ _) = None
text_bytes (messenger_value _) = None
text_bytes (raw_value _) = None

-- what a text is read as has no other value
abbrev pub text_in : Limited ValueData → Option (Limited (List ℕ))
text_in Over = Some Over
text_in (Within v) = option_map Within (text_bytes v)

-- a text in quotes
abbrev pub quoted_text : List ℕ → Option (Limited (List ℕ))
quoted_text word = text_from word >>= λ (g : Got). text_in g.value

-- ---- values
-- the value that a word writes
abbrev pub value_from : List ℕ → Option (Limited ValueData)
value_from word = option_map (λ (g : Got). g.value) (read_value word)

-- ---- applications
-- the name of one has no `/`
abbrev pub is_app_name : List ℕ → Bool
is_app_name bytes = is_word bytes && not (list_any (λ b. b == 47) bytes)

-- a signature, or else a name
abbrev pub named_app : List ℕ → Option AppWord
named_app word = if is_signature word then Some (app.Signature word) else where_true (is_app_name word) (app.Name word)

abbrev pub team_or_name : Option ℕ → List ℕ → Option AppWord
team_or_name (Some team) word = Some (app.Team team)
team_or_name None word = named_app word

-- a team by its number, or else one that is named
unfoldable pub app_word_of : List ℕ → Option AppWord
app_word_of word = team_or_name (number_within word 0 4294967295) word

-- ---- which words an application is launched by, and which one is looked up by
-- a path, or else a signature
abbrev pub launch_word_of : List ℕ → Option AppWord
launch_word_of word = if is_path word then Some (app.Path word) else where_true (is_signature word) (app.Signature word)

-- a word that is launched is a path or a signature
abbrev pub is_launched : AppWord → Bool
is_launched (app.Path path) = is_path path
is_launched (app.Signature signature) = is_signature signature
is_launched (app.Name name) = false
is_launched (app.Team team) = false

-- a word that is looked up is a number of a team, a signature, or else a name, which is no number
abbrev pub is_looked_up : AppWord → Bool
is_looked_up (app.Path path) = false
is_looked_up (app.Signature signature) = is_signature signature
is_looked_up (app.Name name) = is_app_name name && is_none (number_within name 0 4294967295)
is_looked_up (app.Team team) = nat_le team 4294967295
