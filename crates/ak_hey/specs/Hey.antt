-- A hey line, word by word: what the words so far are, and what one more makes of it. None where no hey line goes on so.
use Rattle.std.specs.Prelude.{ℕ, ◌+◌, ◌-◌, min, length, slice_get, ◌==◌, if◌then◌else◌, List, [], ◌∷◌, codes, Option, Some, None, option_map, Result, Err, ok_or}
use Rattle.std.specs.List.{starts_with}
use Rattle.std.specs.Str.{bytes_eq}
use Rattle.ak_base.specs.Option.{where_true, ◌>>=◌}
use Rattle.ak_base.specs.declared.app_word.AppWord.{AppWord}
use Rattle.ak_base.specs.declared.limited.Limited.{Limited}
use Rattle.ak_base.specs.declared.limited.Limited.TheVariants.{Within, Over}
use Rattle.ak_input.specs.declared.line.Word.{Word}
use Rattle.ak_message.specs.declared.specifier.At.{At}
use Rattle.ak_message.specs.declared.specifier.At.TheVariants as at
use Rattle.ak_message.specs.Message.{MessageData}
use Rattle.ak_input.specs.Reading.{field_split, read_value}
use Rattle.ak_input.specs.Written.{app_word_of, quoted_text}
use Rattle.ak_hey.specs.declared.reading.Place.{Place}
use Rattle.ak_hey.specs.declared.reading.Place.TheVariants as place
use Rattle.ak_hey.specs.Brackets.{bracket_at}
use Rattle.ak_hey.specs.Draft.{DraftData, new_draft, with_specifier, with_got, short_message}
use Rattle.ak_hey.specs.Words.{verb_of, is_property}

-- ---- behind the verb
-- what leads on behind a property and its elements
abbrev pub key_of : List ℕ → Option Place
key_of word =
    if bytes_eq word (codes "of") then Some place.Of
    else if bytes_eq word (codes "to") then Some place.To
    else if bytes_eq word (codes "with") then Some place.With
    else None

abbrev pub property : List ℕ → Option Place
property word = where_true (is_property word) (place.Property word)

abbrev pub place_or : Option Place → Option Place → Option Place
place_or (Some p) other = Some p
place_or None other = other

-- the first `of` may be left out
abbrev pub behind_verb : List ℕ → Option Place
behind_verb word = place_or (key_of word) (property word)

-- `with` before the first field, and `and` before each further one
abbrev pub leading : List ℕ → List ℕ → Option Place
leading word wanted = where_true (bytes_eq word wanted) place.With

-- brackets, or a name in quotes
abbrev pub bracket : List ℕ → Option (Limited At)
bracket word = option_map Within (bracket_at word)

abbrev pub named : Limited (List ℕ) → Limited At
named Over = Over
named (Within name) = Within (at.Name name)

abbrev pub elements : List ℕ → Option (Limited At)
elements word = if starts_with ◌==◌ word (91 ∷ []) then bracket word else option_map named (quoted_text word)

abbrev pub key_or : Option Place → Option (Limited At) → Option (Place × Limited At)
key_or (Some p) elements = Some (p, Within at.Direct)
key_or None elements = elements >>= λ a. Some (place.Elements, a)

-- a property is meant itself where its elements do not follow
abbrev pub elements_or_key : List ℕ → Option (Place × Limited At)
elements_or_key word = key_or (key_of word) (elements word)

abbrev pub behind_property : List ℕ → DraftData → List ℕ → Option (Place × DraftData)
behind_property name d word = elements_or_key word >>= λ p. Some (p.0, with_specifier d name p.1)

unfoldable pub with_data : DraftData → List ℕ → Option DraftData
with_data d word = read_value word >>= λ g. with_got d (codes "data") g

unfoldable pub with_field : DraftData → List ℕ → Option DraftData
with_field d word = do
  field ← field_split word
  g ← read_value field.1
  with_got d field.0 g

abbrev pub at_place : Option Place → DraftData → Option (Place × DraftData)
at_place p d = p >>= λ q. Some (q, d)

abbrev pub step : Place → DraftData → List ℕ → Option (Place × DraftData)
step place.Verb d word = at_place (behind_verb word) d
step place.Of d word = at_place (property word) d
step (place.Property name) d word = behind_property name d word
step place.Elements d word = at_place (key_of word) d
step place.To d word = with_data d word >>= λ e. Some (place.Data, e)
step place.Data d word = at_place (leading word (codes "with")) d
step place.With d word = with_field d word >>= λ e. Some (place.Field, e)
step place.Field d word = at_place (leading word (codes "and")) d

-- the message, where the words may end at this place
abbrev pub ended : Place → DraftData → Option DraftData
ended place.Verb d = Some d
ended place.Elements d = Some d
ended place.Data d = Some d
ended place.Field d = Some d
ended (place.Property name) d = Some (with_specifier d name (Within at.Direct))
ended place.Of d = None
ended place.To d = None
ended place.With d = None

-- ---- all words
-- what the words so far are: none, `hey`, with an application, or with a verb and more up to the place
pub data State : Type 0 where
  start : State
  hey : State
  at_app : AppWord → State
  body : AppWord → Place → DraftData → State

abbrev pub begun : List ℕ → Option State
begun word = where_true (bytes_eq word (codes "hey")) hey

abbrev pub asked : AppWord → List ℕ → Option State
asked app word = verb_of word >>= λ what. Some (body app place.Verb (new_draft what))

abbrev pub next : State → List ℕ → Option State
next start word = begun word
next hey word = app_word_of word >>= λ app. Some (at_app app)
next (at_app app) word = asked app word
next (body app p d) word = step p d word >>= λ s. Some (body app s.0 s.1)

-- what the words say, where they may end
abbrev pub finished : State → Option (AppWord × Limited MessageData)
finished start = None
finished hey = None
finished (at_app app) = None
finished (body app p d) = ended p d >>= λ e. Some (app, short_message e.message)

abbrev pub said_by : ℕ → State → Result (AppWord × Limited MessageData) ℕ
said_by end s = ok_or (finished s) end

-- what follows, or else the column
abbrev pub or_column : {A B : Type 0} → ℕ → Option A → (A → Result B ℕ) → Result B ℕ
or_column column None follows = Err column
or_column column (Some x) follows = follows x

-- the column of the first word with which no hey line goes on, or of the end of the words
abbrev pub goes_on : ℕ → State → List Word → Result (AppWord × Limited MessageData) ℕ
goes_on end s [] = said_by end s
goes_on end s (w ∷ words) = or_column w.column (next s w.bytes) (λ t. goes_on end t words)

abbrev pub hey_of : ℕ → List Word → Result (AppWord × Limited MessageData) ℕ
hey_of end words = goes_on end start words

-- ---- where the words end
-- the column one past the last byte of a word
abbrev pub end_behind : Option Word → ℕ
end_behind None = 1
end_behind (Some w) = min (w.column + length w.bytes) 4294967295

-- of the last one, and 1 where there is none
abbrev pub end_of : List Word → ℕ
end_of words = end_behind (slice_get words (length words - 1))
