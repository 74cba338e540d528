-- What the texts of an input say, as a relation on bytes, apart from how they are read. Read it next to docs/formats.md.
-- A text says one value, or values of a field, or a message; of what passes a limit it says the kind alone.
use Rattle.std.specs.Prelude.{◌≡◌, ◌≢◌, ℕ, zero, suc, ◌<◌, Bool, true, false, ◌&&◌, nat_le, if◌then◌else◌, ◌⊎◌, List, [], ◌∷◌, ◌++◌, length, All, AllPairs, Contains, IsUtf8, Some}
use Rattle.std.specs.List.{AllZip, flat_map, list_all}
use Rattle.ak_base.specs.AppName.{is_signature}
use Rattle.ak_base.specs.Code.{hex_of, IsCodeText}
use Rattle.ak_base.specs.Limits.{text_limit, raw_limit}
use Rattle.ak_base.specs.Limited.{limited_map}
use Rattle.ak_base.specs.Text.{IsText}
use Rattle.ak_base.specs.Word.{is_word}
use Rattle.ak_base.specs.declared.app_word.AppWord.{AppWord}
use Rattle.ak_base.specs.declared.app_word.AppWord.TheVariants as app
use Rattle.ak_base.specs.declared.code.Code.{Code}
use Rattle.ak_base.specs.declared.limited.Limited.{Limited}
use Rattle.ak_base.specs.declared.limited.Limited.TheVariants.{Within, Over}
use Rattle.ak_message.specs.declared.kind.Kind.{Kind}
use Rattle.ak_message.specs.declared.kind.Kind.TheVariants as k
use Rattle.ak_message.specs.Kind.{kind_letters}
use Rattle.ak_message.specs.Limits.{field_limit, value_limit, depth_limit}
use Rattle.ak_message.specs.Message.{ValueData, FieldData, MessageData, kind_of, value_of_message}
use Rattle.ak_message.specs.Whole.{FitsValue}
use Rattle.ak_input.specs.declared.marks.Marks.{Marks}
use Rattle.ak_input.specs.declared.pieces.Separator.{Separator}
use Rattle.ak_input.specs.declared.pieces.Separator.TheVariants as by
use Rattle.ak_input.specs.Got.{Got, GotValues}
use Rattle.ak_input.specs.Marks.{is_blank, start, step, is_outside}
use Rattle.ak_input.specs.MessageText.{payload_text, quoted}
use Rattle.ak_input.specs.Pieces.{separates}
use Rattle.ak_input.specs.Written.{WritesNumber, is_app_name}

-- ---- what passes no limit
-- one in front of others, where all are within the limits
abbrev pub onto_all : {A : Type 0} → Limited A → Limited (List A) → Limited (List A)
onto_all Over others = Over
onto_all (Within x) Over = Over
onto_all (Within x) (Within xs) = Within (x ∷ xs)

-- where there are not too many
abbrev pub at_most : {A : Type 0} → ℕ → Limited (List A) → Limited (List A)
at_most limit Over = Over
at_most limit (Within xs) = if nat_le (length xs) limit then Within xs else Over

abbrev pub all_within : List Got → Limited (List ValueData)
all_within [] = Within []
all_within (g ∷ gs) = onto_all g.value (all_within gs)

-- ---- payloads that are no message
-- what is printed of this value, which is one that may be
pub record IsPrinted (text : List ℕ) (v : ValueData) : Type 0 where
  pub no_message : kind_of v ≢ k.Message
  pub text_is : text ≡ payload_text v
  pub fits : FitsValue v

-- a text in quotes that is too long
pub record IsLongText (text : List ℕ) : Type 0 where
  pub bytes : List ℕ
  pub text_is : text ≡ quoted bytes
  pub no_zero : ¬ (Contains bytes 0)
  pub utf8 : IsUtf8 bytes
  pub long : text_limit < length bytes

-- raw bytes, two digits each, that are too many
pub record IsLongRaw (text : List ℕ) : Type 0 where
  pub bytes : List ℕ
  pub text_is : text ≡ flat_map hex_of bytes
  pub small : All (λ b. b < 256) bytes
  pub long : raw_limit < length bytes

-- of the other kinds none is too long: a number out of its range is no number of its kind
abbrev pub IsLong : Kind → List ℕ → Type 0
IsLong k.Text text = IsLongText text
IsLong k.Raw text = IsLongRaw text
IsLong k.Bool text = ⊥
IsLong k.Int8 text = ⊥
IsLong k.Int16 text = ⊥
IsLong k.Int32 text = ⊥
IsLong k.Int64 text = ⊥
IsLong k.UInt8 text = ⊥
IsLong k.UInt16 text = ⊥
IsLong k.UInt32 text = ⊥
IsLong k.UInt64 text = ⊥
IsLong k.Message text = ⊥
IsLong k.Messenger text = ⊥

abbrev pub WritesPlain : Kind → List ℕ → Limited ValueData → Type 0
WritesPlain kind text (Within v) = IsPrinted text v × (kind_of v ≡ kind)
WritesPlain kind text Over = IsLong kind text

-- ---- what stands between commas and blanks
-- no byte parts the text where nothing is open, each byte is allowed by what is open before it, and nothing is open at the end
abbrev pub Closes : (ℕ → Bool) → Marks → List ℕ → Type 0
Closes parts m [] = is_outside m ≡ true
Closes parts m (b ∷ text) = ((is_outside m && parts b) ≡ false) × ((next : Marks) × (step m b ≡ Some next) × Closes parts next text)

abbrev pub IsPiece : Separator → List ℕ → Type 0
IsPiece by text = Closes (separates by) start text

-- one text or more, with a comma between each two
abbrev pub AreJoined : List ℕ → List (List ℕ) → Type 0
AreJoined text [] = ⊥
AreJoined text (one ∷ []) = (text ≡ one) × IsPiece by.Comma one
AreJoined text (one ∷ next ∷ more) =
    (rest : List ℕ) × (text ≡ one ++ 44 ∷ rest) × IsPiece by.Comma one × AreJoined rest (next ∷ more)

abbrev pub IsWordWithin : List ℕ → Type 0
IsWordWithin word = (word ≢ []) × IsPiece by.Blank word

abbrev pub IsGap : List ℕ → Type 0
IsGap gap = (gap ≢ []) × (list_all is_blank gap ≡ true)

-- one word or more, with at least one space or tab between each two, and none before or after them
abbrev pub AreParted : List ℕ → List (List ℕ) → Type 0
AreParted text [] = ⊥
AreParted text (word ∷ []) = (text ≡ word) × IsWordWithin word
AreParted text (word ∷ next ∷ words) =
    (gap : List ℕ) × (rest : List ℕ) × (text ≡ word ++ (gap ++ rest)) × IsGap gap × IsWordWithin word × AreParted rest (next ∷ words)

-- ---- a field that is written, and the fields of a message
pub record WrittenField : Type 0 where
  pub name : List ℕ
  pub content : GotValues

abbrev field_with : List ℕ → Kind → List ValueData → FieldData
field_with name kind values = record { name = name; kind = kind; values = values }

abbrev pub field_within : WrittenField → Limited FieldData
field_within f = limited_map (λ (vs : List ValueData). field_with f.name f.content.kind vs) f.content.values

abbrev pub fields_within : List WrittenField → Limited (List FieldData)
fields_within [] = Within []
fields_within (f ∷ fs) = onto_all (field_within f) (fields_within fs)

-- nothing is popped of it
abbrev pub message_within : ℕ → Limited (List FieldData) → Limited MessageData
message_within what fields = limited_map (λ (fs : List FieldData). record { what = what; fields = fs; popped = 0 }) fields

-- ---- values and messages, where `Message` tells what a text in braces says
module _ (Message : List ℕ → Limited MessageData → Type 0) where
  abbrev pub WritesNested : List ℕ → Limited ValueData → Type 0
  WritesNested text value = (m : Limited MessageData) × Message text m × (value ≡ limited_map value_of_message m)

  abbrev pub WritesPayload : Kind → List ℕ → Limited ValueData → Type 0
  WritesPayload kind text value = WritesPlain kind text value ⊎ ((kind ≡ k.Message) × WritesNested text value)

  -- the letters of the kind, a colon and the payload
  pub record WritesFull (text : List ℕ) (g : Got) : Type 0 where
    pub payload : List ℕ
    pub text_is : text ≡ kind_letters g.kind ++ 58 ∷ payload
    pub payload_is : WritesPayload g.kind payload g.value

  -- a bool, a number of 32 bits and a text in quotes may stand by themselves
  pub record WritesShort (text : List ℕ) (g : Got) : Type 0 where
    pub may_be : (g.kind ≡ k.Bool) ⊎ ((g.kind ≡ k.Int32) ⊎ (g.kind ≡ k.Text))
    pub payload_is : WritesPlain g.kind text g.value

  pub record Writes (text : List ℕ) (g : Got) : Type 0 where
    pub form : WritesFull text g ⊎ WritesShort text g

  -- values of one kind; over 255 pass the limit, and so do those of which one does
  pub record WritesAll (text : List ℕ) (read : GotValues) : Type 0 where
    pub texts : List (List ℕ)
    pub joined : AreJoined text texts
    pub gots : List Got
    pub each : AllZip Writes texts gots
    pub one_kind : All (λ (g : Got). g.kind ≡ read.kind) gots
    pub kept : read.values ≡ at_most value_limit (all_within gots)

  -- a name, `=` and values
  pub record WritesField (word : List ℕ) (f : WrittenField) : Type 0 where
    pub text : List ℕ
    pub word_is : word ≡ f.name ++ 61 ∷ text
    pub name_is : is_word f.name ≡ true
    pub values_are : WritesAll text f.content

  -- a code, and fields of which no two have one name; over 64 pass the limit, and so do those of which one does
  pub record WritesWords (words : List (List ℕ)) (m : Limited MessageData) : Type 0 where
    pub word : List ℕ
    pub texts : List (List ℕ)
    pub words_are : words ≡ word ∷ texts
    pub what : ℕ
    pub what_is : IsCodeText word what
    pub fields : List WrittenField
    pub fields_are : AllZip WritesField texts fields
    pub names_differ : AllPairs (λ (f g : WrittenField). f.name ≢ g.name) fields
    pub kept : m ≡ message_within what (at_most field_limit (fields_within fields))

-- ---- messages in braces
abbrev pub IsBraced : List ℕ → List ℕ → Type 0
IsBraced text body = text ≡ 123 ∷ body ++ 125 ∷ []

-- a message of at most so many levels; a deeper one passes the limit, whatever is in its braces
unfoldable pub WritesWithin : ℕ → List ℕ → Limited MessageData → Type 0
WritesWithin zero text m = (body : List ℕ) × IsBraced text body × (m ≡ Over)
WritesWithin (suc levels) text m =
    (body : List ℕ) × (words : List (List ℕ)) × IsBraced text body × AreParted body words × WritesWords (WritesWithin levels) words m

-- ---- how a word names an application: by the number of a team, by a signature, or else by a name
abbrev pub IsTeamText : List ℕ → Type 0
IsTeamText word = (n : ℕ) × WritesNumber 0 4294967295 word n

abbrev pub SaysAppWord : List ℕ → AppWord → Type 0
SaysAppWord word (app.Team team) = WritesNumber 0 4294967295 word team
SaysAppWord word (app.Signature signature) = (word ≡ signature) × (is_signature word ≡ true)
SaysAppWord word (app.Name name) = (word ≡ name) × (is_app_name word ≡ true) × ¬ (IsTeamText word)
SaysAppWord word (app.Path path) = ⊥

-- ---- what stands in an input
-- a code
abbrev pub WritesCode : List ℕ → Code → Type 0
WritesCode word code = IsCodeText word code.0

-- a text in quotes
abbrev pub WritesText : List ℕ → Limited (List ℕ) → Type 0
WritesText word (Within bytes) = (word ≡ quoted bytes) × IsText bytes
WritesText word Over = IsLongText word

-- a value, which is a message 16 deep at most
abbrev pub WritesValue : List ℕ → Got → Type 0
WritesValue text g = Writes (WritesWithin depth_limit) text g

-- the values of a field, of which a message is 15 deep at most
abbrev pub WritesValues : List ℕ → GotValues → Type 0
WritesValues text read = WritesAll (WritesWithin 15) text read

-- a message by its words, in which a message is 15 deep at most
abbrev pub WritesMessage : List (List ℕ) → Limited MessageData → Type 0
WritesMessage words m = WritesWords (WritesWithin 15) words m
