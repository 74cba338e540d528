-- What a hey line says, as a relation on its words, apart from how they are read one by one. Values and texts are what words of an input
-- say (ak_input), and elements are what brackets mean; where one passes a limit, the line is of its form, and its message is Over.
-- Which code a verb has is a table (verb_of).
use Rattle.std.specs.Prelude.{◌≡◌, ◌⊎◌, ℕ, true, List, [], ◌∷◌, ◌++◌, codes, Option, Some, None}
use Rattle.ak_base.specs.Option.{◌>>=◌}
use Rattle.ak_base.specs.declared.app_word.AppWord.{AppWord}
use Rattle.ak_base.specs.declared.code.Code.{Code}
use Rattle.ak_base.specs.declared.limited.Limited.{Limited}
use Rattle.ak_base.specs.declared.limited.Limited.TheVariants.{Within, Over}
use Rattle.ak_base.specs.Word.{is_word}
use Rattle.ak_message.specs.declared.specifier.At.{At}
use Rattle.ak_message.specs.declared.specifier.At.TheVariants as at
use Rattle.ak_message.specs.Message.{MessageData}
use Rattle.ak_input.specs.Got.{Got}
use Rattle.ak_input.specs.Said.{SaysAppWord, WritesText, WritesValue}
use Rattle.ak_hey.specs.Bracketed.{IsBracket}
use Rattle.ak_hey.specs.Draft.{DraftData, new_draft, with_specifier, with_got, short_message}
use Rattle.ak_hey.specs.Words.{verb_of, is_property}

-- ---- specifiers: a property, and its elements in brackets or by a name in quotes, or none
pub record SpecText : Type 0 where
  pub property : List ℕ
  pub at : Limited At

-- a name in quotes, or one that is too long, or brackets
abbrev pub AreElements : List ℕ → Limited At → Type 0
AreElements word Over = WritesText word Over
AreElements word (Within (at.Name name)) = WritesText word (Within name)
AreElements word (Within at.Direct) = ⊥
AreElements word (Within (at.Index z)) = IsBracket word (at.Index z)
AreElements word (Within (at.Reverse z)) = IsBracket word (at.Reverse z)
AreElements word (Within (at.Id z)) = IsBracket word (at.Id z)
AreElements word (Within (at.Range z count)) = IsBracket word (at.Range z count)
AreElements word (Within (at.ReverseRange z count)) = IsBracket word (at.ReverseRange z count)

pub record IsSpec (s : SpecText) (words : List (List ℕ)) : Type 0 where
  pub part : List (List ℕ)
  pub all : words ≡ s.property ∷ part
  pub property_is : is_property s.property ≡ true
  pub elements_are : ((part ≡ []) × (s.at ≡ Within at.Direct)) ⊎ ((word : List ℕ) × (part ≡ word ∷ []) × AreElements word s.at)

-- each of them behind `of`
abbrev pub AreFurther : List SpecText → List (List ℕ) → Type 0
AreFurther [] words = words ≡ []
AreFurther (s ∷ specs) words =
    (spec : List (List ℕ)) × (rest : List (List ℕ)) × (words ≡ codes "of" ∷ (spec ++ rest)) × IsSpec s spec × AreFurther specs rest

-- before the first one `of` may be left out
abbrev pub AreSpecs : List SpecText → List (List ℕ) → Type 0
AreSpecs specs words = AreFurther specs words ⊎ AreFurther specs (codes "of" ∷ words)

-- ---- data: `to VALUE`, or nothing
abbrev pub IsData : Option Got → List (List ℕ) → Type 0
IsData None words = words ≡ []
IsData (Some g) words = (word : List ℕ) × (words ≡ codes "to" ∷ word ∷ []) × WritesValue word g

-- ---- fields: `NAME=VALUE`, the first one behind `with`, and each further one behind `and`
pub record FieldText : Type 0 where
  pub name : List ℕ
  pub value : Got

pub record IsField (f : FieldText) (word : List ℕ) : Type 0 where
  pub text : List ℕ
  pub all : word ≡ f.name ++ 61 ∷ text
  pub name_is : is_word f.name ≡ true
  pub value_is : WritesValue text f.value

abbrev pub AreFields : List ℕ → List FieldText → List (List ℕ) → Type 0
AreFields key [] words = words ≡ []
AreFields key (f ∷ fields) words =
    (word : List ℕ) × (rest : List (List ℕ)) × (words ≡ key ∷ word ∷ rest) × IsField f word × AreFields (codes "and") fields rest

-- ---- the message: the specifiers in the order written, then the data, then the fields
abbrev pub with_specs : DraftData → List SpecText → DraftData
with_specs d [] = d
with_specs d (s ∷ specs) = with_specs (with_specifier d s.property s.at) specs

-- values of one name have one kind
abbrev pub with_fields : DraftData → List FieldText → Option DraftData
with_fields d [] = Some d
with_fields d (f ∷ fields) = with_got d f.name f.value >>= λ e. with_fields e fields

abbrev pub with_data_field : DraftData → Option Got → Option DraftData
with_data_field d None = Some d
with_data_field d (Some g) = with_got d (codes "data") g

abbrev pub made_of : DraftData → List SpecText → Option Got → List FieldText → Option DraftData
made_of d specs data_value fields = with_data_field (with_specs d specs) data_value >>= λ e. with_fields e fields

-- ---- `hey APP VERB [[of] SPEC {of SPEC}] [to VALUE] [with FIELD {and FIELD}]`
pub record IsHey (words : List (List ℕ)) (app : AppWord) (message : Limited MessageData) : Type 0 where
  pub app_word : List ℕ
  pub verb : List ℕ
  pub spec_part : List (List ℕ)
  pub data_part : List (List ℕ)
  pub field_part : List (List ℕ)
  pub all : words ≡ codes "hey" ∷ app_word ∷ verb ∷ (spec_part ++ (data_part ++ field_part))
  pub app_is : SaysAppWord app_word app
  pub what : Code
  pub verb_is : verb_of verb ≡ Some what
  pub specs : List SpecText
  pub specs_are : AreSpecs specs spec_part
  pub data_value : Option Got
  pub data_is : IsData data_value data_part
  pub fields : List FieldText
  pub fields_are : AreFields (codes "with") fields field_part
  pub draft : DraftData
  pub draft_is : made_of (new_draft what) specs data_value fields ≡ Some draft
  pub message_is : message ≡ short_message draft.message

-- ---- where a line is refused
-- some hey line begins with these words
abbrev pub Begins : List (List ℕ) → Type 0
Begins words = (more : List (List ℕ)) × (app : AppWord) × (message : Limited MessageData) × IsHey (words ++ more) app message
